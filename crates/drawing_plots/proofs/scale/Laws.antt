-- Laws of the scale: a height raised by its sign, the search in the table of round steps, and a share within its length.
-- Assumes nothing.
use mathlib.Core.Path.{◌≡◌, refl}
use mathlib.Core.Bool.{Bool, true, false, cond}
use mathlib.Core.List.{List}
use Prim.Native.Nat.{ℕ, ◌+◌, ◌-◌, ◌*◌, ◌/◌, ◌≤◌, ◌<◌, ◌^◌, min, max}
use native.Mathlib.Nat.{mul-le-mul, mul-le-mul_right, div-le_of_le-mul}
use native.Mathlib.Numerals.{add-one}
use native.Mathlib.Omega.{arith}
use borrow.Author.Tests.{leb-true, leb-false}
use lib.Dec.{leb}
use lib.IntN.{ℤ, pos, nat_abs}
use lib.ListN.{get_or, length, drop}
use lib.Seq.{drop-cons}
use lib.Signed.{lt_z}
use Rattle.angles.proofs.Machine.{if-negative, if-not-negative}
use Rattle.drawing_plots.specs.declared.scale.Extent.{Extent}
use Rattle.drawing_plots.specs.Heights.{zero_at, raised, least_of, most_of}
use Rattle.drawing_plots.specs.Lines.{fits, round_steps, first_fit}

-- ---- a height raised

pub raised_below : (z : ℤ) → lt_z z (pos 0) ≡ true → zero_at - min (nat_abs z) zero_at ≡ raised z
raised_below = if-negative (λ z. zero_at - min (nat_abs z) zero_at ≡ raised z) (λ n. omega arith)

pub raised-above : (z : ℤ) → lt_z z (pos 0) ≡ false → zero_at + min (nat_abs z) zero_at ≡ raised z
raised-above = if-not-negative (λ z. zero_at + min (nat_abs z) zero_at ≡ raised z) (λ n. refl)

-- ---- the lowest and the highest of a list

pub least_more : (least : ℕ) (hs : List ℤ) (i : ℕ) → i < length hs → least_of least (drop i hs) ≡ least_of (min least (raised (get_or hs i (pos 0)))) (drop (i + 1) hs)
unfolding least_of
least_more least hs i h = rw (add-one, drop-cons hs i (pos 0))

pub most-more : (most : ℕ) (hs : List ℤ) (i : ℕ) → i < length hs → most_of most (drop i hs) ≡ most_of (max most (raised (get_or hs i (pos 0)))) (drop (i + 1) hs)
unfolding most_of
most-more most hs i h = rw (add-one, drop-cons hs i (pos 0))

-- ---- tests

-- two tests of facts that follow from each other
pub leb-same : (a b c d : ℕ) → (a ≤ b → c ≤ d) → (c ≤ d → a ≤ b) → leb a b ≡ leb c d
leb-same a b c d f g = decide (leb a b) (leb c d) refl refl
  where
    decide : (t u : Bool) → leb a b ≡ t → leb c d ≡ u → t ≡ u
    decide true true e k = refl
    decide false false e k = refl
    decide true false e k = let h : c ≤ d = f (leb-true a b e) in absurd (omega (arith, leb-false c d k))
    decide false true e k = let h : a ≤ b = g (leb-true c d k) in absurd (omega (arith, leb-false a b e))

-- ---- the search

pub fit-more : (e : Extent) (most k : ℕ) → k < 22 → first_fit e most (drop k round_steps) ≡ cond (fits e most (get_or round_steps k 0)) (get_or round_steps k 0) (first_fit e most (drop (k + 1) round_steps))
unfolding first_fit
fit-more e most k h = rw (add-one, drop-cons round_steps k 0)

-- ---- a share

-- a part of a length is within it
pub share-within : (part whole length : ℕ) → part ≤ whole → part * length / whole ≤ length
share-within part whole length h = div-le_of_le-mul whole (mul-le-mul_right length h)

-- the product of a number below 2^32 and one below 2^16
pub product_small : (a b : ℕ) → a < 2 ^ 32 → b < 2 ^ 16 → a * b < 2 ^ 48
product_small a b h k =
    let m : a ≤ 4_294_967_295 = omega arith in
    let n : b ≤ 65_535 = omega arith in
    omega (arith, mul-le-mul m n)
