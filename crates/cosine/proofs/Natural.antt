-- Entries and lines in natural numbers: they are 01's where no cosine at an entry is negative and the entries fall.
-- Assumes nothing.
use mathlib.Core.Path.{◌≡◌, refl, ◌∙◌, ap}
use mathlib.Core.Bool.{Bool, true, false, cond}
use Prim.Native.Nat.{ℕ, zero, suc, ◌+◌, ◌-◌, ◌*◌, ◌/◌, ◌%◌, ◌≤◌}
use native.Mathlib.Nat.{le_trans, mul-zero, zero-div, mul-le-mul_left, div-le_of_le-mul, mul_comm, le_of_eq}
use native.Mathlib.Omega.{arith}
use borrow.Author.Tests.{eqb-true, le-ltb}
use lib.Dec.{eqb}
use lib.IntN.{ℤ, pos, nat_abs, sub_ℕ, ◌-ℤ◌, ◌*ℤ◌}
use Rattle.angles.specs.Floor.{floor_div}
use Rattle.cosine.specs.Fraction.{quarter, added, taken, whole, base}
use Rattle.cosine.specs.Fixed.{one, nearest, entry, line, fixed_base}

abbrev pub nearest_ℕ : ℕ → ℕ → ℕ
nearest_ℕ m n = (2 * m + n) / (2 * n)

unfoldable pub entry_ℕ : ℕ → ℕ → ℕ
entry_ℕ h i = nearest_ℕ (one * nat_abs (base (i * h))) whole

abbrev pub line_ℕ : ℕ → ℕ → ℕ → ℕ → ℕ
line_ℕ h c d r = c - (c - d) * r / h

unfoldable pub fixed_base_ℕ : ℕ → ℕ → ℕ
fixed_base_ℕ h t = line_ℕ h (entry_ℕ h (t / h)) (entry_ℕ h (t / h + 1)) (t % h)

sub_is : (a b : ℕ) → b ≤ a → pos a -ℤ pos b ≡ pos (a - b)
sub_is a zero l = ap pos (omega arith)
sub_is a (suc b) l = simp (le-ltb a (suc b) l)

pub entry-is : (h i : ℕ) → taken (i * h) ≤ added (i * h) → entry h i ≡ pos (entry_ℕ h i)
unfolding entry entry_ℕ base
entry-is h i l = ap (λ (z : ℤ). nearest (pos one *ℤ z) whole) (at (eqb (i * h) quarter))
  where
    at : (t : Bool) → cond t (pos 0) (sub_ℕ (added (i * h)) (taken (i * h))) ≡ pos (nat_abs (cond t (pos 0) (sub_ℕ (added (i * h)) (taken (i * h)))))
    at true = refl
    at false = simp (le-ltb (added (i * h)) (taken (i * h)) l)

-- no line falls below the entry at its end
pub fall-below : (h c d r : ℕ) → r ≤ h → (c - d) * r / h ≤ c - d
fall-below h c d r k = div-le_of_le-mul h (le_trans (mul-le-mul_left (c - d) k) (le_of_eq (mul_comm (c - d) h)))

pub line-is : (h c d r : ℕ) → d ≤ c → r ≤ h → line h (pos c) (pos d) r ≡ pos (line_ℕ h c d r)
line-is h c d r l k = at (eqb r 0) refl
  where
    fall : pos c -ℤ floor_div ((pos c -ℤ pos d) *ℤ pos r) h ≡ pos (line_ℕ h c d r)
    fall = ap (λ (z : ℤ). pos c -ℤ floor_div (z *ℤ pos r) h) (sub_is c d l) ∙ sub_is c ((c - d) * r / h) (omega (arith, fall-below h c d r k))

    -- the fall is 0 where r is
    at : (t : Bool) → eqb r 0 ≡ t → cond t (pos c) (pos c -ℤ floor_div ((pos c -ℤ pos d) *ℤ pos r) h) ≡ pos (line_ℕ h c d r)
    at true e = ap pos (rw (eqb-true r 0 e, mul-zero, zero-div) (omega arith))
    at false e = fall
