-- What a byte at a text's end does to the text without its last blanks, and what it is for two texts to be the same.
-- By induction on the text. Assumes nothing.
use Prim.Native.Nat.{ℕ, zero, suc, ◌-◌, ◌≤◌, ◌<◌}
use mathlib.Core.Path.{◌≡◌, refl, sym}
use mathlib.Core.List.{List, [], ◌∷◌, ◌++◌}
use mathlib.Core.Bool.{Bool, true, false, ◌&&◌, false≢true}
use lib.Dec.{eqb, leb}
use lib.Pointwise.{pointwise}
use lib.ListN.{length, take, get_or}
use lib.Seq.{take-suc}
use native.Mathlib.Omega.{arith}
use borrow.Author.Tests.{leb-true}
use Rattle.columns.specs.Bytes.{blank, every}
use Rattle.columns.specs.Names.{same}
use Rattle.digits.specs.Texts.{trimmed}

and-true : (t : Bool) → (t && true) ≡ t
and-true true = refl
and-true false = refl

and-false : (t : Bool) → (t && false) ≡ false
and-false true = refl
and-false false = refl

and_assoc : (s t u : Bool) → (s && (t && u)) ≡ ((s && t) && u)
and_assoc true t u = refl
and_assoc false t u = refl

every-snoc : (kind : ℕ → Bool) (l : List ℕ) (b : ℕ) → every kind (l ++ (b ∷ [])) ≡ (every kind l && kind b)
unfolding every
every-snoc kind [] b = and-true (kind b)
every-snoc kind (x ∷ l) b = rw (every-snoc kind l b) (and_assoc (kind x) (every kind l) (kind b))

-- a blank at the end is left out
pub trimmed-blank : (l : List ℕ) (b : ℕ) → blank b ≡ true → trimmed (l ++ (b ∷ [])) ≡ trimmed l
unfolding trimmed every
trimmed-blank [] b h = rw h
trimmed-blank (x ∷ l) b h = rw (every-snoc blank l b, h, and-true (every blank l), trimmed-blank l b h)

-- with another byte at its end a text stays whole
pub trimmed-other : (l : List ℕ) (b : ℕ) → blank b ≡ false → trimmed (l ++ (b ∷ [])) ≡ l ++ (b ∷ [])
unfolding trimmed every
trimmed-other [] b h = rw h
trimmed-other (x ∷ l) b h = rw (every-snoc blank l b, h, and-false (every blank l), and-false (blank x), trimmed-other l b h)

-- the library's answer whether two texts are equal is `same` (script has it too: neither crate stands on the other, and a crate's proofs are its own)
pub pointwise-same : (a b : List ℕ) → pointwise eqb a b ≡ same a b
unfolding same
pointwise-same [] [] = refl
pointwise-same [] (y ∷ b) = refl
pointwise-same (x ∷ a) [] = refl
pointwise-same (x ∷ a) (y ∷ b) = rw (pointwise-same a b)

both : (s t : Bool) → (s && t) ≡ true → (s ≡ true) × (t ≡ true)
both true t e = (refl, e)
both false t e = absurd (false≢true e)

not-blank : (b : ℕ) → (b ≡ 32 → ⊥) → blank b ≡ false
not-blank b h = go (blank b) refl
  where
    go : (t : Bool) → blank b ≡ t → t ≡ false
    go false p = refl
    go true p =
        let e = both (leb 32 b) (leb b 32) p in
        absurd (h (omega (arith, leb-true 32 b e.0, leb-true b 32 e.1)))

-- the first n bytes of a text end in a blank, or are whole without their last blanks
pub take-blank : (l : List ℕ) (n : ℕ) → 0 < n → n ≤ length l → get_or l (n - 1) 0 ≡ 32 → trimmed (take n l) ≡ trimmed (take (n - 1) l)
take-blank l zero p h e = absurd (omega arith)
take-blank l (suc m) p h e =
    let less : suc m - 1 ≡ m = omega arith in
    rw (less, take-suc l m 0 (omega arith)) (trimmed-blank (take m l) (get_or l m 0) (rw (rw less at e)))

pub take-other : (l : List ℕ) (n : ℕ) → 0 < n → n ≤ length l → (get_or l (n - 1) 0 ≡ 32 → ⊥) → take n l ≡ trimmed (take n l)
take-other l zero p h e = absurd (omega arith)
take-other l (suc m) p h e =
    let less : suc m - 1 ≡ m = omega arith in
    rw (take-suc l m 0 (omega arith)) (sym (trimmed-other (take m l) (get_or l m 0) (not-blank (get_or l m 0) (rw less at e))))
