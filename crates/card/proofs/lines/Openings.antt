-- Laws of the next card of a part: one that gives something had room, and gives what its fields give.
-- By cases on how it begins. Assumes nothing.
use mathlib.Core.Path.{◌≡◌, refl, ap}
use Prim.Native.Nat.{ℕ, ◌<◌}
use mathlib.Core.List.{List}
use mathlib.Core.Bool.{Bool, true, false, cond}
use native.Mathlib.Omega.{arith}
use lib.Dec.{leb}
use borrow.Author.Tests.{leb-false}
use Rattle.columns.specs.Lines.{line_good, blank_card}
use Rattle.refusals.specs.Checked.{good, bad}
use Rattle.card.specs.declared.faults.Trouble.{Trouble}
use Rattle.card.specs.declared.faults.Fault.{Fault}
use Rattle.card.specs.Card.{Card, gives, Opening, opening, opened, blank_ends, read_fields, fails_first}

-- a card that gives something had room
pub had-room : {A : Type 0} (most : ℕ) (excess : Trouble) (before : ℕ) (line : List ℕ) (card : Card A) (a : A) → opened (opening most excess before line) card ≡ gives a → before < most
unfolding opening
had-room most excess before line card a e = go _ _ (line_good line) (blank_card line) (leb most before) refl e
  where
    go : (f g : Fault) (s t u : Bool) → leb most before ≡ u → opened (cond s (cond t blank_ends (cond u (fails_first f) read_fields)) (fails_first g)) card ≡ gives a → before < most
    go f g true true u h q = let z : ◌≡◌ {A = ℕ} 0 1 = cc in absurd (omega arith)
    go f g true false true h q = let z : ◌≡◌ {A = ℕ} 0 1 = cc in absurd (omega arith)
    go f g true false false h q = leb-false most before h
    go f g false t u h q = let z : ◌≡◌ {A = ℕ} 0 1 = cc in absurd (omega arith)

-- what it gives is what its fields give
pub opened-good : {A : Type 0} (o : Opening) (card : Card A) (a : A) → opened o card ≡ gives a → card ≡ good a
opened-good blank_ends card a e = let z : ◌≡◌ {A = ℕ} 0 1 = cc in absurd (omega arith)
opened-good read_fields (good b) a e = let q : b ≡ a = cc in ap good q
opened-good read_fields (bad r) a e = let z : ◌≡◌ {A = ℕ} 0 1 = cc in absurd (omega arith)
opened-good (fails_first r) card a e = let z : ◌≡◌ {A = ℕ} 0 1 = cc in absurd (omega arith)
