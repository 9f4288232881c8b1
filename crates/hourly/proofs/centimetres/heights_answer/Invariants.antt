-- `hourly::centimetres::heights_answer`: no hour before k is outside.
use mathlib.Core.Path.{◌≡◌}
use mathlib.Core.Bool.{false}
use Prim.Native.Nat.{ℕ, ◌<◌}
use lib.IntN.{pos}
use lib.ListN.{get_or}
use Rattle.hourly.specs.Card.{value}
use Rattle.hourly.specs.Month.{centimetres, outside}
use Rattle.hourly.proofs.centimetres.heights_answer.Given as goal

abbrev pub invariant-loop-k : goal.invariant-loop-k
invariant-loop-k l = (j : ℕ) → j < l.k → outside (value (centimetres (get_or l.hours j (pos 0)))) ≡ false
