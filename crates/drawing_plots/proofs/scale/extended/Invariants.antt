-- The heights that are left give what all of them give.
use Rattle.std.proofs.Common.{◌≡◌, drop}
use Rattle.drawing_plots.specs.Heights.{least_of, most_of}
use Rattle.drawing_plots.proofs.scale.extended.Given as goal

abbrev pub invariant-loop-height : goal.invariant-loop-height
invariant-loop-height l = record {
  low : least_of l.all.low (drop l.height-index l.heights) ≡ least_of l.initial.all.low l.heights;
  high : most_of l.all.high (drop l.height-index l.heights) ≡ most_of l.initial.all.high l.heights;
}
