use mathlib.Core.Path.{◌≡◌}
use mathlib.Core.List.{map}
use lib.ListN.{drop}
use lib.Seq.{sets}
use Rattle.turns.specs.inner.Lists.{heights_in}
use Rattle.turns.proofs.put_heights.Given as goal

abbrev pub invariant-loop-i : goal.invariant-loop-i
invariant-loop-i l = sets l.heights l.i (map (heights_in l.lent) (drop l.i l.minutes)) ≡ sets l.initial.heights 0 (map (heights_in l.lent) l.minutes)
