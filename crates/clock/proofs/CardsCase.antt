-- A card file's two cases, accepted and refused, from what the reader promises. Assumes nothing.
use mathlib.Core.Path.{◌≡◌, sym, ◌∙◌}
use mathlib.Core.Bool.{true}
use Prim.Native.Nat.{ℕ}
use mathlib.Core.List.{List}
use Rattle.refusals.specs.Outcome.{accepted, refused}
use Rattle.table.specs.inner.View.{table_of}
use Rattle.table.specs.declared.Table.{Table}
use Rattle.card_file.specs.Cards.{cards_outcome}
use Rattle.card_file.proofs.reader.Ranges.{accepted-in-range}
use Rattle.calls.proofs.Files.{file-accepted, file-refused}
use Rattle.clock.specs.declared.Clock.{Clock}
use Rattle.clock.specs.View.{view, Made}
use Rattle.clock.specs.Posts.{CardsPost}
use Rattle.clock.specs.inner.Posts.{BarePost}
use Rattle.clock.proofs.Tables.{in-range}
use Rattle.clock.proofs.BareClock.{bare-sound}

module _ (c : Clock) (file : List ℕ) (made : Made c) where
  pub cards-accepted : (table : Table) → accepted (table_of table) ≡ cards_outcome file → (left : Clock) → BarePost true table left → CardsPost c file (accepted tt) left
  cards-accepted table reads left bare =
      let law = file-accepted (view c) file (table_of table) (sym reads) in
      record {
        made = λ _. bare-sound true table left (in-range table (λ none z k. accepted-in-range file _ none z (sym reads) k)) bare;
        returns = law.0;
        leaves = bare.there ∙ law.1;
      }

  pub cards-refused : (number line : ℕ) → refused number line ≡ cards_outcome file → CardsPost c file (refused number line) c
  cards-refused number line reads =
      let law = file-refused (view c) file number line (sym reads) in
      record { made = made; returns = law.0; leaves = law.1 }
