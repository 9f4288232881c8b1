-- Laws of coefficients: the sizes of a quotient and a remainder are those of the sizes, and when so many hundredths are a coefficient.
-- By cases on the sign, and by the clauses of the definition. Assumes nothing.
use mathlib.Core.Path.{◌≡◌, refl}
use mathlib.Core.Bool.{Bool, true, false, cond}
use Prim.Native.Nat.{ℕ, zero, suc, ◌+◌, ◌/◌, ◌%◌, ◌≤◌, ◌<◌}
use native.Mathlib.Omega.{arith}
use lib.IntN.{ℤ, pos, negsuc, neg_ℤ, nat_abs}
use lib.Signed.{le_z, quot_z, rem_z}
use borrow.Author.Tests.{leb-true, ltb-false, eq-eqb, ne_eqb, lt-ltb, le-ltb}
use mir.Syntax.{w8, w64}
use mir.Val.{SFits}
use Rattle.limits.specs.Limits.{most_sizes}
use Rattle.refusals.specs.Checked.{good, bad}
use Rattle.card.specs.declared.faults.Trouble.TheVariants.{OutOfRange, NotWhole, PastTwelve}
use Rattle.card.specs.declared.formats.NumberField.{NumberField}
use Rattle.card.specs.Formats.{fault_in}
use Rattle.card_shallows.specs.Coefficients.{whole_of, is_zero, is_broken, is_past, coefficient}

pub nat_abs-neg : (z : ℤ) → nat_abs (neg_ℤ z) ≡ nat_abs z
nat_abs-neg (pos zero) = refl
nat_abs-neg (pos (suc n)) = refl
nat_abs-neg (negsuc n) = refl

pub quot-size : (z : ℤ) (n : ℕ) → nat_abs (quot_z z (pos n)) ≡ nat_abs z / n
quot-size (pos a) n = refl
quot-size (negsuc a) n = nat_abs-neg (pos (suc a / n))

pub rem-size : (z : ℤ) (n : ℕ) → nat_abs (rem_z z (pos n)) ≡ nat_abs z % n
rem-size (pos a) n = refl
rem-size (negsuc a) n = nat_abs-neg (pos (suc a % n))

-- hundredths and coefficients fit the machine's words
pub fits-64 : (z : ℤ) → nat_abs z ≤ 900 → SFits w64 z
fits-64 (pos n) h = record { sfits = omega arith }
fits-64 (negsuc n) h = record { sfits = omega arith }

pub fits_8 : (z : ℤ) → nat_abs z ≤ 9 → SFits w8 z
fits_8 (pos n) h = record { sfits = omega arith }
fits_8 (negsuc n) h = record { sfits = omega arith }

-- a field with the range -900 to 900
pub hundredths-size : (v : ℤ) → (le_z (neg_ℤ (pos 900)) v ≡ true) × (le_z v (pos 900) ≡ true) → nat_abs v ≤ 900
hundredths-size (pos n) (a, b) = leb-true n 900 b
hundredths-size (negsuc n) (a, b) = omega (arith, leb-true n 899 a)

-- when hundredths are a coefficient: not 0, whole, and no size in all past 12
module _ (f : NumberField) (sizes : ℕ) (h : ℤ) where
  pub coefficient-zero : nat_abs h ≡ 0 → coefficient f sizes h ≡ bad (fault_in f OutOfRange)
  unfolding coefficient
  coefficient-zero z = rw (eq-eqb _ _ z)

  module _ (some : nat_abs h ≡ 0 → ⊥) where
    pub coefficient-broken : 0 < nat_abs h % 100 → coefficient f sizes h ≡ bad (fault_in f NotWhole)
    unfolding coefficient
    coefficient-broken part = rw (ne_eqb (nat_abs h) 0 some, rem-size h 100, ne_eqb (nat_abs h % 100) 0 (λ e. omega arith))

    module _ (exact : nat_abs h % 100 ≡ 0) where
      pub coefficient-large : most_sizes < sizes + nat_abs h / 100 → coefficient f sizes h ≡ bad (fault_in f PastTwelve)
      unfolding coefficient
      coefficient-large over = rw (ne_eqb (nat_abs h) 0 some, rem-size h 100, eq-eqb (nat_abs h % 100) 0 exact, quot-size h 100, lt-ltb most_sizes (sizes + nat_abs h / 100) over)

      pub coefficient-good : sizes + nat_abs h / 100 ≤ most_sizes → coefficient f sizes h ≡ good (whole_of h)
      unfolding coefficient
      coefficient-good within = rw (ne_eqb (nat_abs h) 0 some, rem-size h 100, eq-eqb (nat_abs h % 100) 0 exact, quot-size h 100, le-ltb most_sizes (sizes + nat_abs h / 100) within)

-- a coefficient that is good leaves the sizes at 12 or below
pub coefficient-sizes : (f : NumberField) (sizes : ℕ) (h c : ℤ) → coefficient f sizes h ≡ good c → sizes + nat_abs c ≤ most_sizes
unfolding coefficient
coefficient-sizes f sizes h c e = go (is_zero h) (is_broken h) (is_past sizes h) refl e
  where
    go : (s t u : Bool) → is_past sizes h ≡ u → cond s (bad (fault_in f OutOfRange)) (cond t (bad (fault_in f NotWhole)) (cond u (bad (fault_in f PastTwelve)) (good (whole_of h)))) ≡ good c → sizes + nat_abs c ≤ most_sizes
    go true t u k q = let z : ◌≡◌ {A = ℕ} 0 1 = cc in absurd (omega arith)
    go false true u k q = let z : ◌≡◌ {A = ℕ} 0 1 = cc in absurd (omega arith)
    go false false true k q = let z : ◌≡◌ {A = ℕ} 0 1 = cc in absurd (omega arith)
    go false false false k q = let e : whole_of h ≡ c = cc in rw (← e) (ltb-false most_sizes (sizes + nat_abs (whole_of h)) k)
