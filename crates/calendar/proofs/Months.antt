-- How long months are: none is over 31 days, and there is none past the twelfth. What it is to be in range.
-- The bound is one test over the table of lengths, which antt computes. Rests on the definitions only.
use mathlib.Core.Path.{◌≡◌, refl}
use mathlib.Core.Bool.{Bool, true, false, ◌&&◌, cond, false≢true}
use mathlib.Core.List.{List, [], ◌∷◌}
use Prim.Native.Nat.{ℕ, zero, suc, ◌+◌, ◌-◌, ◌*◌, ◌≤◌, ◌<◌}
use native.Mathlib.Omega.{arith}
use borrow.Author.Tests.{leb-true, ne_eqb}
use lib.Dec.{leb, eqb, lit≤}
use lib.ListN.{get_or, get_or-eq_default}
use Rattle.calendar.specs.Calendar.{month_lengths, is_fourth, month_days, month_minutes, months_days, between, in_range}

-- each number of a list is at most `most`
abbrev none_over : ℕ → List ℕ → Bool
none_over most [] = true
none_over most (x ∷ xs) = leb x most && none_over most xs

pub both : (a b : Bool) → (a && b) ≡ true → (a ≡ true) × (b ≡ true)
both true b e = (refl, e)
both false b e = absurd (false≢true e)

none_over_lem : (most : ℕ) (l : List ℕ) (i : ℕ) → none_over most l ≡ true → get_or l i 0 ≤ most
none_over_lem most [] i e = omega arith
none_over_lem most (x ∷ xs) zero e = leb-true x most (both (leb x most) (none_over most xs) e).0
none_over_lem most (x ∷ xs) (suc i) e = none_over_lem most xs i (both (leb x most) (none_over most xs) e).1

pub month-short : (year month : ℕ) → month_days year month ≤ 31
unfolding month_days
month-short year month = by-february (eqb month 2 && is_fourth year)
  where
    by-february : (long : Bool) → cond long 29 (get_or (0 ∷ month_lengths) month 0) ≤ 31
    by-february true = lit≤ tt
    by-february false = none_over_lem 31 (0 ∷ month_lengths) month refl

pub minutes-short : (year month : ℕ) → month_minutes year month ≤ 44_640
unfolding month_minutes
minutes-short year month = omega (arith, month-short year month)

pub months-short : (year months : ℕ) → months_days year months ≤ 31 * months
unfolding months_days
months-short year zero = omega arith
months-short year (suc months) = omega (arith, months-short year months, month-short year (suc months))

pub no-month : (year month : ℕ) → 12 < month → month_days year month ≡ 0
unfolding month_days
no-month year month h =
    let apart : eqb month 2 ≡ false = ne_eqb month 2 (λ e. omega arith) in
    rw apart (get_or-eq_default (0 ∷ month_lengths) 0 h)

pub months-more : (year months : ℕ) → months_days year (months + 1) ≡ months_days year months + month_days year (months + 1)
unfolding months_days
months-more year months = let e : months + 1 ≡ suc months = omega arith in rw e

-- the months past the twelfth add nothing
months-past : (year more : ℕ) → months_days year (12 + more) ≡ months_days year 12
months-past year zero = refl
months-past year (suc more) =
    let e : 12 + suc more ≡ (12 + more) + 1 = omega arith in
    rw e (omega (arith, months-more year (12 + more), months-past year more, no-month year (12 + more + 1) (omega arith)))

pub whole-year : (year months : ℕ) → 12 ≤ months → months_days year months ≡ months_days year 12
whole-year year months h = let e : 12 + (months - 12) ≡ months = omega arith in rw e at (months-past year (months - 12))

-- the place of a month in the table of lengths
pub length_at : (lengths : List ℕ) (month : ℕ) → 0 < month → get_or lengths (month - 1) 0 ≡ get_or (0 ∷ lengths) month 0
length_at lengths zero h = omega arith
length_at lengths (suc month) h = let e : suc month - 1 ≡ month = omega arith in rw e

-- ---- in range

pub within : (low high number : ℕ) → between low high number ≡ true → (low ≤ number) × (number ≤ high)
unfolding between
within low high number e = let t = both (leb low number) (leb number high) e in (leb-true low number t.0, leb-true number high t.1)

pub in-range : (year month : ℕ) → in_range year month ≡ true → ((1950 ≤ year) × (year ≤ 2049)) × ((1 ≤ month) × (month ≤ 12))
unfolding in_range
in-range year month e =
    let t = both (between 1950 2049 year) (between 1 12 month) e in (within 1950 2049 year t.0, within 1 12 month t.1)
