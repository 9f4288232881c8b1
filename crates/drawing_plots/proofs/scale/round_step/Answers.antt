-- `drawing_plots::scale::round_step` meets its contract: the steps that are left give what all of them give. Assumes nothing.
use Rattle.std.proofs.Common.{◌≡◌, ◌<◌, refl, arith}
use Rattle.drawing_plots.specs.Lines.{round_step, first_fit}
use Rattle.drawing_plots.proofs.scale.Laws.{fit-more}
use Rattle.drawing_plots.proofs.scale.round_step.Goals as goal

pub loop-size-init : goal.loop-size-init
unfolding round_step
loop-size-init c = refl

pub returns-then-fits : goal.returns-then-fits
returns-then-fits c =
    let h : c.loop-size.size-index < 22 = omega arith in
    rw (fit-more c.args.extent c.args.most c.loop-size.size-index h, ← c.fits.ensures, c.if-fits.true) at c.loop-size.invariant

pub loop-size-preserved : goal.loop-size-preserved
loop-size-preserved c =
    let h : c.loop-size.size-index < 22 = omega arith in
    rw (fit-more c.args.extent c.args.most c.loop-size.size-index h, ← c.fits.ensures, c.if-fits.false) at c.loop-size.invariant

pub returns : goal.returns
unfolding first_fit
returns c =
    let e : c.loop-size.size-index ≡ 22 = omega arith in rw e at c.loop-size.invariant
