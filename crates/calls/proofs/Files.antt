-- A card file's two cases, accepted and refused. Assumes nothing.
use mathlib.Core.Path.{◌≡◌}
use Prim.Native.Nat.{ℕ}
use mathlib.Core.List.{List}
use mathlib.Core.Bool.{true}
use Rattle.refusals.specs.Outcome.{accepted, refused}
use Rattle.table.specs.Table.{Table}
use Rattle.card_file.specs.Cards.{cards_outcome}
use Rattle.calls.specs.State.{State}
use Rattle.calls.specs.inner.Flags.{tabled_only}
use Rattle.calls.specs.Calls.{cards_returns, cards_leaves}

module _ (k : State) (file : List ℕ) where
  -- its table is there, and no station and no month
  pub file-accepted : (table : Table) → cards_outcome file ≡ accepted table → (accepted tt ≡ cards_returns file) × (tabled_only true table ≡ cards_leaves k file)
  unfolding cards_returns cards_leaves
  file-accepted table e = (rw e, rw e)

  -- everything is as it was
  pub file-refused : (number line : ℕ) → cards_outcome file ≡ refused number line → (refused number line ≡ cards_returns file) × (k ≡ cards_leaves k file)
  unfolding cards_returns cards_leaves
  file-refused number line e = (rw e, rw e)
