-- A part's two ways, onward and refused, in the rest of the reading. Assumes nothing.
use mathlib.Core.Path.{◌≡◌, sym, ap, ◌∙◌}
use Prim.Native.Nat.{ℕ}
use mathlib.Core.List.{List}
use lib.ListN.{drop}
use Rattle.std.specs.Prelude.{Result, Ok, Err}
use Rattle.columns.specs.Lines.{lines_of}
use Rattle.card.specs.Card.{Reading, refused}
use Rattle.card_file.specs.Cards.{followed}
use Rattle.card.specs.inner.Lines.{reading_gives}
use Rattle.card.specs.declared.lines.Misread.{Misread}
use Rattle.card.specs.declared.lines.Reached.{Reached}

module _ {R A B : Type 0} (file : List ℕ) (reached : R → Reached) (means : R → A) (r : Result R Misread) (whole : Reading A) (reads : reading_gives file reached means r ≡ whole) (next : A → List (List ℕ) → ℕ → Reading B) where
  pub part-refused : (e : Misread) → r ≡ Err e → followed whole next ≡ refused e.fault e.line
  part-refused e is = ap (λ (w : Reading A). followed w next) (sym reads) ∙ ap (λ (q : Result R Misread). followed (reading_gives file reached means q) next) is

  pub part-reached : (x : R) → r ≡ Ok x → followed whole next ≡ next (means x) (lines_of (drop (reached x).at file)) (reached x).line
  part-reached x is = ap (λ (w : Reading A). followed w next) (sym reads) ∙ ap (λ (q : Result R Misread). followed (reading_gives file reached means q) next) is
