-- A latitude's minus: where it stands in front of a line's words and what is behind it, by induction on the line;
-- and the negative number that it makes, read back from the bits. Assumes nothing.
use mathlib.Core.Path.{◌≡◌, refl, sym, ap, ◌∙◌, subst}
use mathlib.Core.List.{List, [], ◌∷◌}
use mathlib.Core.Bool.{Bool, true, false, cond}
use Prim.Native.Nat.{ℕ, zero, suc, ◌+◌, ◌^◌, ◌≤◌, ◌<◌}
use native.Mathlib.Nat.{not-suc-le-zero, le_of_suc-le-suc, suc-add}
use lib.Dec.{T, eqb}
use borrow.Author.Tests.{eqb-true}
use lib.ListN.{length, get_or}
use lib.IntN.{ℤ, pos, neg_ℤ, ◌-ℤ◌, +ℤ_idl}
use mir.Syntax.{w32, w64}
use mir.Val.{SFits, to_z, of_z}
use mir.ValLaws.{to_z_pos, to_z-of_z}
use native.Mathlib.Omega.{arith}
use Rattle.columns.specs.Lines.{in_front}
use Rattle.script.specs.Words.{words}
use Rattle.script.specs.Script.{has_minus, behind_minus}
use Rattle.script.specs.inner.Left.{words_from}
use Rattle.script.proofs.words.Words.{words-first}

-- the words of a line that begins with a byte
has_minus-cons : (b : ℕ) (bs : List ℕ) → has_minus (words (b ∷ bs)) ≡ eqb b 45
unfolding words
has_minus-cons b bs = go (eqb b 32) refl
  where
    go : (t : Bool) → eqb b 32 ≡ t → has_minus (cond t ([] ∷ words bs) (in_front b (words bs))) ≡ eqb b 45
    go true e = rw (eqb-true b 32 e)
    go false e = rw (words-first bs)

behind-cons : (b : ℕ) (bs : List ℕ) → eqb b 45 ≡ true → behind_minus (words (b ∷ bs)) ≡ words bs
unfolding words
behind-cons b bs h = rw (eqb-true b 45 h, words-first bs)

pub minus_is : (l : List ℕ) (i : ℕ) → i < length l → eqb (get_or l i 0) 45 ≡ has_minus (words_from l i)
unfolding words_from
minus_is [] i h = absurd (not-suc-le-zero h)
minus_is (b ∷ bs) zero h = sym (has_minus-cons b bs)
minus_is (b ∷ bs) (suc i) h = minus_is bs i (le_of_suc-le-suc h)

pub no_minus : (l : List ℕ) (i : ℕ) → length l ≤ i → false ≡ has_minus (words_from l i)
unfolding words_from words
no_minus [] zero h = refl
no_minus [] (suc i) h = refl
no_minus (b ∷ bs) zero h = absurd (not-suc-le-zero h)
no_minus (b ∷ bs) (suc i) h = no_minus bs i (le_of_suc-le-suc h)

pub behind-is : (l : List ℕ) (i : ℕ) → has_minus (words_from l i) ≡ true → behind_minus (words_from l i) ≡ words_from l (i + 1)
unfolding words_from words
behind-is [] zero h = absurd (subst T (sym h) tt)
behind-is [] (suc i) h = absurd (subst T (sym h) tt)
behind-is (b ∷ bs) zero h = behind-cons b bs (sym (has_minus-cons b bs) ∙ h)
behind-is (b ∷ bs) (suc i) h = rw (suc-add i 1) (behind-is bs i h)

-- ---- the negative of a size of at most 2^31

module _ (n : ℕ) (h : n ≤ 2 ^ 31) where
  minus : pos 0 -ℤ to_z w64 n ≡ neg_ℤ (pos n)
  minus = ap (λ (z : ℤ). pos 0 -ℤ z) (to_z_pos w64 n (omega arith)) ∙ +ℤ_idl (neg_ℤ (pos n))

  narrow : SFits w32 (neg_ℤ (pos n))
  narrow = go n h
    where
      go : (m : ℕ) → m ≤ 2 ^ 31 → SFits w32 (neg_ℤ (pos m))
      go zero k = record { sfits = omega arith }
      go (suc m) k = record { sfits = omega arith }

  wide : SFits w64 (neg_ℤ (pos n))
  wide = record { sfits = omega (arith, narrow.sfits) }

  pub minus-fits : SFits w64 (pos 0 -ℤ to_z w64 n)
  minus-fits = rw minus wide

  held : to_z w64 (of_z w64 (pos 0 -ℤ to_z w64 n)) ≡ neg_ℤ (pos n)
  held = to_z-of_z w64 _ minus-fits ∙ minus

  pub minus-narrow : SFits w32 (to_z w64 (of_z w64 (pos 0 -ℤ to_z w64 n)))
  minus-narrow = rw held narrow

  pub minus-held : to_z w32 (of_z w32 (to_z w64 (of_z w64 (pos 0 -ℤ to_z w64 n)))) ≡ neg_ℤ (pos n)
  minus-held = to_z-of_z w32 _ minus-narrow ∙ held
