use Prim.Native.Nat.{ℕ}
use mathlib.Core.Path.{◌≡◌}
use mathlib.Core.List.{map}
use lib.ListN.{drop}
use lib.Seq.{sets}
use Rattle.turns.proofs.put_minutes.Given as goal

abbrev pub invariant-loop-i : goal.invariant-loop-i
invariant-loop-i l = sets l.minutes l.i (map (λ (m : ℕ). m) (drop l.i l.kept)) ≡ sets l.initial.minutes 0 (map (λ (m : ℕ). m) l.kept)
