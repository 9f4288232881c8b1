-- The day count in closed form: the difference of two day numbers, in which the days of whole years are 365 a year and one for each
-- fourth year, (year + 3) / 4 of them before a year. By induction on the years. Rests on Months and Differences.
use mathlib.Core.Path.{◌≡◌, refl, sym, ◌∙◌, ap₂}
use mathlib.Core.Bool.{Bool, true, false, cond}
use Prim.Native.Nat.{ℕ, zero, suc, ◌+◌, ◌-◌, ◌*◌, ◌/◌, ◌%◌, ◌^◌, ◌≤◌, ◌<◌}
use native.Mathlib.Nat.{div-add-mod', mod-lt}
use native.Mathlib.Omega.{arith}
use borrow.Author.Tests.{eqb-true, eqb-false, ltb-true, ltb-false}
use lib.Dec.{ltb, lit<}
use lib.IntN.{pos, nat_abs, ◌-ℤ◌}
use mir.Syntax.{w64}
use mir.Val.{to_z}
use Rattle.calendar.specs.Calendar.{is_fourth, month_days, months_days, years_days, day_count, in_range}
use Rattle.calendar.proofs.Months.{months-short, in-range}
use Rattle.calendar.proofs.Differences.{apart, same-difference, signed-difference}

-- the days of the whole years before a year, from a year 0 on
abbrev pub days_to : ℕ → ℕ
days_to year = 365 * year + (year + 3) / 4

-- a date's number in days, from a year 0 on
abbrev pub day_number : ℕ → ℕ → ℕ → ℕ
day_number year month day = days_to year + months_days year (month - 1) + day

year-days : (year : ℕ) (fourth : Bool) → is_fourth year ≡ fourth → months_days year 12 ≡ 365 + cond fourth 1 0
unfolding months_days month_days
year-days year true e = rw e
year-days year false e = rw e

quarters : (n : ℕ) → (n / 4 * 4 + n % 4 ≡ n) × (n % 4 < 4)
quarters n = (div-add-mod' n 4, mod-lt n (lit< tt))

fourth-years : (year : ℕ) (fourth : Bool) → is_fourth year ≡ fourth → (suc year + 3) / 4 ≡ (year + 3) / 4 + cond fourth 1 0
unfolding is_fourth
fourth-years year true e = omega (arith, eqb-true (year % 4) 0 e, quarters year, quarters (year + 3), quarters (suc year + 3))
fourth-years year false e = omega (arith, eqb-false (year % 4) 0 e, quarters year, quarters (year + 3), quarters (suc year + 3))

year-more : (year : ℕ) → days_to (suc year) ≡ days_to year + months_days year 12
year-more year = omega (arith, year-days year (is_fourth year) refl, fourth-years year (is_fourth year) refl)

pub years-closed : (year years : ℕ) → years_days year years + days_to year ≡ days_to (year + years)
unfolding years_days
years-closed year zero = omega arith
years-closed year (suc years) = omega (arith, years-closed year years, year-more (year + years))

-- forward from 1976 or back to it
pub years-balance : (year : ℕ) → years_days 1976 (year - 1976) + days_to 1976 ≡ days_to year + years_days year (1976 - year)
unfolding years_days
years-balance year = by-time (ltb year 1976) refl
  where
    by-time : (early : Bool) → ltb year 1976 ≡ early → years_days 1976 (year - 1976) + days_to 1976 ≡ days_to year + years_days year (1976 - year)
    by-time true e =
        let l = ltb-true year 1976 e in
        let none : year - 1976 ≡ 0 = omega arith in
        let all : year + (1976 - year) ≡ 1976 = omega arith in
        rw none (omega (arith, rw all at (years-closed year (1976 - year))))
    by-time false e =
        let l = ltb-false year 1976 e in
        let none : 1976 - year ≡ 0 = omega arith in
        let all : 1976 + (year - 1976) ≡ year = omega arith in
        rw none (omega (arith, rw all at (years-closed 1976 (year - 1976))))

pub count-closed : (year month day : ℕ) → day_count year month day ≡ pos (day_number year month day) -ℤ pos (day_number 1976 1 1)
unfolding day_count months_days
count-closed year month day =
    same-difference
    (years_days 1976 (year - 1976) + months_days year (month - 1) + day)
    (years_days year (1976 - year) + 1)
    (day_number year month day)
    (day_number 1976 1 1)
    (omega (arith, years-balance year))

-- every date in range is within 2^15 days of 1976
pub count_small : (year month day : ℕ) → in_range year month ≡ true → day ≤ 31 → nat_abs (day_count year month day) ≤ 2 ^ 15
unfolding months_days
count_small year month day e d =
    rw (count-closed year month day)
    (apart (day_number year month day) (day_number 1976 1 1) (2 ^ 15) (omega (arith, sizes)) (omega (arith, sizes)))
  where
    sizes : (1950 ≤ year) × (year ≤ 2049) × (488 ≤ (year + 3) / 4) × ((year + 3) / 4 ≤ 513) × (months_days year (month - 1) ≤ 31 * 11)
    sizes = omega (arith, in-range year month e, quarters (year + 3), months-short year (month - 1))

-- the closed form in 64 bits
pub count-signed :
    (year month day a b : ℕ) → a ≡ day_number year month day → b ≡ day_number 1976 1 1 → a < 2 ^ 62 → b < 2 ^ 62 →
    to_z w64 a -ℤ to_z w64 b ≡ day_count year month day
count-signed year month day a b p q h k =
    signed-difference a b h k ∙ ap₂ (λ (m n : ℕ). pos m -ℤ pos n) p q ∙ sym (count-closed year month day)
