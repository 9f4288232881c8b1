-- Differences of two naturals in ℤ: how large, when equal, and in 64 bits.
-- By the order of the two. Rests on the laws of ℤ in angles.
use mathlib.Core.Path.{◌≡◌, refl, sym, ◌∙◌, ap, ap₂}
use Prim.Native.Nat.{ℕ, zero, suc, ◌+◌, ◌-◌, ◌^◌, ◌≤◌, ◌<◌}
use native.Mathlib.Omega.{arith}
use borrow.Author.Tests.{le-ltb}
use lib.IntN.{pos, negsuc, nat_abs, sub_ℕ, ◌-ℤ◌}
use mir.Syntax.{w64}
use mir.Val.{SFits, to_z}
use Rattle.angles.proofs.Ints.{by_order, triangle-sub}
use Rattle.angles.proofs.Machine.{fits_below, fits-as, signed_is}

minus_is : (a b : ℕ) → pos a -ℤ pos b ≡ sub_ℕ a b
minus_is a zero = rw (le-ltb a 0 (omega arith)) (ap pos (omega arith))
minus_is a (suc b) = refl

-- two naturals are no further apart than the larger may exceed the smaller
pub apart : (a b most : ℕ) → a ≤ b + most → b ≤ a + most → nat_abs (pos a -ℤ pos b) ≤ most
apart a b most h k = rw (minus_is a b) (by_order (λ z. nat_abs z ≤ most) a b (λ l. omega arith) (λ l. omega arith))

-- two differences of naturals are equal where the sums across are
pub same-difference : (a b c d : ℕ) → a + d ≡ c + b → pos a -ℤ pos b ≡ pos c -ℤ pos d
same-difference a b c d e =
    minus_is a b ∙
    by_order (λ z. z ≡ sub_ℕ c d) a b
    (λ h. by_order (λ z. negsuc (b - suc a) ≡ z) c d (λ k. ap negsuc (omega arith)) (λ k. absurd (omega arith)))
    (λ h. by_order (λ z. pos (a - b) ≡ z) c d (λ k. absurd (omega arith)) (λ k. ap pos (omega arith))) ∙
    sym (minus_is c d)

pub signed-difference : (a b : ℕ) → a < 2 ^ 62 → b < 2 ^ 62 → to_z w64 a -ℤ to_z w64 b ≡ pos a -ℤ pos b
signed-difference a b h k = ap₂ ◌-ℤ◌ (signed_is a (omega arith)) (signed_is b (omega arith))

pub difference-fits : (a b : ℕ) → a < 2 ^ 62 → b < 2 ^ 62 → SFits w64 (to_z w64 a -ℤ to_z w64 b)
difference-fits a b h k =
    fits-as (signed-difference a b h k) (fits_below (pos a -ℤ pos b) (omega (arith, triangle-sub (pos a) (pos b))))
