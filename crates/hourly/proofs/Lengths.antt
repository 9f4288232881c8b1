-- How many bytes a number takes in decimal, and in its field: its digits by recursion on how many there may be.
-- Assumes nothing.
use mathlib.Core.Path.{◌≡◌, refl}
use mathlib.Core.List.{[], ◌∷◌, ◌++◌}
use Prim.Native.Nat.{ℕ, zero, suc, ◌+◌, ◌/◌, ◌%◌, ◌^◌, ◌≤◌, ◌<◌}
use native.Mathlib.Nat.{pow-suc, div-lt_iff_lt-mul}
use native.Mathlib.Omega.{arith}
use mathlib.Core.Bool.{Bool, true, false}
use borrow.Author.Tests.{lt-ltb, le-ltb, ltb-true, ltb-false}
use lib.Dec.{ltb}
use lib.ListN.{length, length-append}
use Rattle.hourly.specs.Writing.{decimal}

-- below a number, or not
pub below_or_not : {P : Type 0} (a b : ℕ) → (a < b → P) → (b ≤ a → P) → P
below_or_not {P} a b f g = at (ltb a b) refl
  where
    at : (t : Bool) → ltb a b ≡ t → P
    at true e = f (ltb-true a b e)
    at false e = g (ltb-false a b e)

-- the two forms of a number in decimal
pub decimal_digit : (most n : ℕ) → n < 10 → decimal (suc most) n ≡ (48 + n) ∷ []
unfolding decimal
decimal_digit most n h = rw (lt-ltb n 10 h)

pub decimal-more : (most n : ℕ) → 10 ≤ n → decimal (suc most) n ≡ decimal most (n / 10) ++ ((48 + n % 10) ∷ [])
unfolding decimal
decimal-more most n h = rw (le-ltb n 10 h)

-- their lengths
pub length-digit : (most n : ℕ) → n < 10 → length (decimal (suc most) n) ≡ 1
length-digit most n h = rw (decimal_digit most n h)

pub length_more : (most n : ℕ) → 10 ≤ n → length (decimal (suc most) n) ≡ length (decimal most (n / 10)) + 1
length_more most n h = rw (decimal-more most n h) (length-append (decimal most (n / 10)) ((48 + n % 10) ∷ []))

-- no more digits than there may be
pub decimal-most : (most n : ℕ) → length (decimal most n) ≤ most
unfolding decimal
decimal-most zero n = omega arith
decimal-most (suc most) n =
    below_or_not n 10 (λ h. omega (arith, length-digit most n h)) (λ h. omega (arith, length_more most n h, decimal-most most (n / 10)))

-- one at least
pub decimal-some : (most n : ℕ) → 0 < length (decimal (suc most) n)
decimal-some most n = below_or_not n 10 (λ h. omega (arith, length-digit most n h)) (λ h. omega (arith, length_more most n h))

-- and no more than the number's own
pub decimal-below : (most k n : ℕ) → 0 < k → n < 10 ^ k → length (decimal most n) ≤ k
unfolding decimal
decimal-below zero k n some h = omega arith
decimal-below (suc most) zero n some h = absurd (omega arith)
decimal-below (suc most) (suc zero) n some h = omega (arith, length-digit most n h)
decimal-below (suc most) (suc (suc k)) n some h =
    let fewer : n / 10 < 10 ^ suc k = (div-lt_iff_lt-mul {k = 10} (omega arith)).1 (rw pow-suc at h) in
    below_or_not n 10 (λ l. omega (arith, length-digit most n l))
    (λ l. omega (arith, length_more most n l, decimal-below most (suc k) (n / 10) (omega arith) fewer))
