-- The minutes of a year's months: one more month's are put after the others', and those of twelve make the year's. By the laws of a store,
-- and by recursion on the months that are left.
use mathlib.Core.Path.{◌≡◌, refl}
use mathlib.Core.List.{List}
use Prim.Native.Nat.{ℕ, zero, suc, ◌+◌, ◌*◌, ◌<◌}
use native.Mathlib.Omega.{arith}
use borrow.Author.Tests.{ltb-true, ltb-false}
use mathlib.Core.Bool.{Bool, true, false}
use lib.Dec.{ltb}
use lib.ListN.{length, get_or, set}
use lib.Seq.{get_or-set_same, get_or-set_other}
use Rattle.calendar.specs.Calendar.{month_minutes, months_days, year_minutes, months_a_year}
use Rattle.calendar.proofs.Months.{months-more}
use Rattle.month_prepared.specs.inner.Rows.{minutes_after}

-- the first m of the months' minutes, and one more
pub put_last : (year : ℕ) (lasts : List ℕ) (m last : ℕ) → m < length lasts → ((j : ℕ) → j < m → get_or lasts j 0 ≡ month_minutes year (j + 1)) → last ≡ month_minutes year (m + 1)
    → (j : ℕ) → j < m + 1 → get_or (set lasts m last) j 0 ≡ month_minutes year (j + 1)
put_last year lasts m last there are e j h = by (ltb j m) refl
  where
    by : (before : Bool) → ltb j m ≡ before → get_or (set lasts m last) j 0 ≡ month_minutes year (j + 1)
    by true t = let l = ltb-true j m t in rw (get_or-set_other lasts m j last 0 (λ same. omega arith)) (are j l)
    by false t = let l = ltb-false j m t in let same : j ≡ m = omega arith in rw (same, get_or-set_same lasts m last 0 there) e

module _ (year : ℕ) (lasts : List ℕ) (are : (m : ℕ) → m < months_a_year → get_or lasts m 0 ≡ month_minutes year (m + 1)) where
  -- n months after the first m
  minutes-after : (m n : ℕ) → m + n ≡ months_a_year → months_days year m * 1_440 + minutes_after lasts m n ≡ year_minutes year
  unfolding minutes_after month_minutes year_minutes
  minutes-after m zero e = let same : m ≡ months_a_year = omega arith in rw same (omega arith)
  minutes-after m (suc n) e = omega (arith, months-more year m, are m (omega arith), minutes-after (m + 1) n (omega arith))

  pub year-minutes : minutes_after lasts 0 months_a_year ≡ year_minutes year
  unfolding months_days
  year-minutes = omega (arith, minutes-after 0 months_a_year (omega arith))
