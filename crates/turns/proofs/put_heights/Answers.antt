-- `turns::put_heights` meets its contract: what is written and what is left to write give the whole (`Front`). Assumes nothing.
use mathlib.Core.Path.{refl, sym, ◌∙◌}
use Rattle.turns.specs.inner.Lists.{heights_in}
use Rattle.turns.proofs.bisection.Halves.{kept_result}
use Rattle.turns.proofs.Front.{store-more, store-none, stored}
use Rattle.turns.proofs.put_heights.Goals as goal

pub loop-i-init : goal.loop-i-init
loop-i-init c = refl

pub height-requires : goal.height-requires
height-requires c =
    record { lent = c.requires.rows.lent; minute_bound = c.requires.upto.0 c.loop-i.i c.loop-i-test.true }

pub loop-i-preserved : goal.loop-i-preserved
loop-i-preserved c =
    rw (kept_result c.height.type_inv c.height.ensures) (store-more (heights_in c.args.lent) c.args.minutes.now c.loop-i.heights c.loop-i.i c.loop-i-test.true ∙ c.loop-i.invariant)

pub returns : goal.returns
returns c =
    let height = heights_in c.args.lent in
    sym (store-none height c.args.minutes.now c.loop-i.heights c.loop-i.i c.loop-i-test.false)
    ∙ (c.loop-i.invariant ∙ stored height c.args.minutes.now c.args.heights.now c.requires.upto.1)
