use mathlib.Core.Path.{◌≡◌}
use mathlib.Core.List.{List}
use Prim.Native.Nat.{ℕ, ◌+◌, ◌*◌}
use lib.IntN.{ℤ}
use Rattle.hourly.specs.inner.Fields.{heights_written}
use Rattle.hourly.proofs.writing.Cards.{heights_from}
use Rattle.hourly.proofs.writing.Stores.{Left}
use Rattle.hourly.proofs.writing.put_heights.Given as goal

pub record Writing (out₀ : List ℕ) (at width : ℕ) (hours : List ℤ) (first : ℕ) (out : List ℕ) (next k : ℕ) : Type 0 where
  pub place : next ≡ at + k * width
  pub stored : Left out₀ at (heights_written width hours first) out next (heights_from width hours first k)

abbrev pub invariant-loop-hour : goal.invariant-loop-hour
invariant-loop-hour l = Writing l.initial.out l.at l.width l.hours l.first l.out l.next l.hour-index
