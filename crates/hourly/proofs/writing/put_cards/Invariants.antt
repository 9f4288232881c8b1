use mathlib.Core.Path.{◌≡◌}
use mathlib.Core.List.{List}
use Prim.Native.Nat.{ℕ, ◌-◌, ◌*◌}
use lib.IntN.{ℤ}
use Rattle.hourly.specs.Writing.{cards_written}
use Rattle.hourly.specs.inner.Hours.{cards_after}
use Rattle.hourly.specs.inner.Fields.{card_length}
use Rattle.hourly.proofs.writing.Stores.{Left}
use Rattle.hourly.proofs.writing.put_cards.Given as goal

pub record Writing (out₀ : List ℕ) (width : ℕ) (hours : List ℤ) (station year month cards : ℕ) (out : List ℕ) (at i : ℕ) : Type 0 where
  pub place : at ≡ i * card_length width
  pub stored : Left out₀ 0 (cards_written width (cards_after hours station year month 0 cards)) out at (cards_written width (cards_after hours station year month i (cards - i)))

abbrev pub invariant-loop-i : goal.invariant-loop-i
invariant-loop-i l = Writing l.initial.out l.width l.hours l.heading.station l.heading.year l.heading.month l.cards l.out l.at l.i
