-- The steps that are left give what all of them give.
use Rattle.std.proofs.Common.{◌≡◌, drop}
use Rattle.drawing_plots.specs.Lines.{round_steps, round_step, first_fit}
use Rattle.drawing_plots.proofs.scale.round_step.Given as goal

abbrev pub invariant-loop-size : goal.invariant-loop-size
invariant-loop-size l = first_fit l.extent l.most (drop l.size-index round_steps) ≡ round_step l.extent l.most
