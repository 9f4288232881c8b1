-- Signed numbers in 64 bits: what fits, by size, and what a register gives back of what was put in.
-- Each signed operation leaves `of_z w64 z`, and the next reads it by `to_z w64`. Assumes nothing.
use mathlib.Core.Path.{◌≡◌, refl, sym, ◌∙◌, ap, subst}
use mathlib.Core.Bool.{true, false}
use Prim.Native.Nat.{ℕ, zero, suc, ◌^◌, ◌<◌}
use native.Mathlib.Nat.{lt_of_le_of_lt, not-suc-le-zero, zero-add}
use native.Mathlib.Omega.{arith}
use borrow.Author.Tests.{ltb-true, le-ltb}
use lib.Dec.{T}
use lib.IntN.{ℤ, pos, negsuc, nat_abs, ◌-ℤ◌}
use lib.Signed.{mag, lt_z, non_neg}
use mir.Syntax.{w64}
use mir.Val.{Fits, SFits, to_z, of_z}
use mir.ValLaws.{to_z-of_z, to_z_pos}
use Rattle.angles.proofs.Ints.{mag-nat_abs}

-- what a register gives back of z
abbrev pub held : ℤ → ℤ
held z = to_z w64 (of_z w64 z)

-- a size below 2^63 fits
pub fits_below : (z : ℤ) → nat_abs z < 2 ^ 63 → SFits w64 z
fits_below z h = record { sfits = lt_of_le_of_lt (mag-nat_abs z) h }

pub fits-as : {x y : ℤ} → x ≡ y → SFits w64 y → SFits w64 x
fits-as e f = subst (SFits w64) (sym e) f

-- where x is y and y fits, y is what it gives back
pub through : {x y : ℤ} → x ≡ y → SFits w64 y → held x ≡ y
through {x} e f = to_z-of_z w64 x (fits-as e f) ∙ e

-- ---- the sign of a number, tested

true-ne-false : true ≡ false → ⊥
true-ne-false e = subst T e tt

-- a fact of the constructors, from the test `z < 0`
pub if-negative : (P : ℤ → Type 0) → ((n : ℕ) → P (negsuc n)) → (z : ℤ) → lt_z z (pos 0) ≡ true → P z
if-negative P f (pos n) e = absurd (not-suc-le-zero (ltb-true n 0 e))
if-negative P f (negsuc n) e = f n

pub if-not-negative : (P : ℤ → Type 0) → ((n : ℕ) → P (pos n)) → (z : ℤ) → lt_z z (pos 0) ≡ false → P z
if-not-negative P f (pos n) e = f n
if-not-negative P f (negsuc n) e = absurd (true-ne-false e)

-- a negative z is -1 less its distance from -1, and another is its distance from 0
pub minus-one-less : (z : ℤ) → lt_z z (pos 0) ≡ true → negsuc 0 -ℤ z ≡ pos (mag z)
minus-one-less = if-negative (λ z. negsuc 0 -ℤ z ≡ pos (mag z)) one_less
  where
    one_less : (k : ℕ) → negsuc 0 -ℤ negsuc k ≡ pos k
    one_less k = simp (le-ltb (suc k) 1 (omega arith)) (ap pos (omega arith))

pub minus-one-less-pos : (m : ℕ) → negsuc 0 -ℤ pos m ≡ negsuc m
minus-one-less-pos zero = refl
minus-one-less-pos (suc m) = ap (λ (n : ℕ). negsuc (suc n)) (zero-add m)

pub is-mag : (z : ℤ) → lt_z z (pos 0) ≡ false → z ≡ pos (mag z)
is-mag = if-not-negative (λ z. z ≡ pos (mag z)) (λ n. refl)

-- ---- between the signed and the unsigned: `x as u64` and `m as i64`

pub mag-fits : (z : ℤ) → SFits w64 z → SFits w64 (pos (mag z))
mag-fits z f = record { sfits = f.sfits }

pub natural-fits : {x : ℤ} {m : ℕ} → x ≡ pos m → SFits w64 (pos m) → T (non_neg x) × Fits w64 (nat_abs x)
natural-fits {x} {m} e f = subst (λ (y : ℤ). T (non_neg y) × Fits w64 (nat_abs y)) (sym e) (tt, record { fits = omega (arith, f.sfits) })

pub natural-is : {x : ℤ} {m : ℕ} → x ≡ pos m → SFits w64 (pos m) → (nat_abs x ≡ m) × (nat_abs x < 2 ^ 63)
natural-is {x} {m} e f = subst (λ (y : ℤ). (nat_abs y ≡ m) × (nat_abs y < 2 ^ 63)) (sym e) (refl, f.sfits)

-- the number put into a register and read as signed
pub signed_is : (m : ℕ) → m < 2 ^ 63 → to_z w64 m ≡ pos m
signed_is m h = to_z_pos w64 m h

-- -1 - m of a natural m
pub below-zero-is : (m : ℕ) → m < 2 ^ 63 → negsuc 0 -ℤ to_z w64 m ≡ negsuc m
below-zero-is m h = ap (λ (z : ℤ). negsuc 0 -ℤ z) (signed_is m h) ∙ minus-one-less-pos m
