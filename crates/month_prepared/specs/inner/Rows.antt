-- Only inner contracts cite this: months that follow one another, as the code has them. The arguments and the weights of each month stand in
-- a row of their own, 146 places; lags and frequencies are the station's, the same in each month.
use Rattle.std.specs.Prelude.{ℕ, zero, suc, ◌+◌, ◌*◌, ◌≤◌, ◌<◌, ◌≡◌, List, [], ◌∷◌, ℤ, length, get_or, take, drop}
use Rattle.limits.specs.Limits.{most_records, most_minutes, most_frequency}
use Rattle.month_prepared.specs.Prepared.{Month}
use Rattle.month_prepared.specs.Months.{owner_of}
use Rattle.month_prepared.specs.declared.months.Months.{Months}
use Rattle.month_prepared.specs.declared.months.InMonth.{InMonth}
use Rattle.month_prepared.specs.inner.View.{constituents_from}

-- a month's arguments, ps and qs have a place for each record
pub record IsRow (vs : List ℕ) (ps qs : List ℤ) : Type 0 where
  pub arguments : length vs ≡ most_records
  pub cosines : length ps ≡ most_records
  pub sines : length qs ≡ most_records

-- "cycles an hour, 0 to 0.4999999999": the first `count` frequencies are in the range of the cards
abbrev pub InRange : ℕ → List ℕ → Type 0
InRange count frequencies = (k : ℕ) → k < count → get_or frequencies k 0 ≤ most_frequency

-- row m, from 0
abbrev pub row_at : {A : Type 0} → ℕ → List A → List A
row_at m xs = take most_records (drop (m * most_records) xs)

-- month m, from 0
abbrev pub month_at : List ℕ → List ℕ → List ℕ → List ℤ → List ℤ → Months → ℕ → Month
month_at arguments lags frequencies ps qs months m =
    record {
      last = get_or months.lasts m 0;
      constituents = constituents_from (row_at m arguments) lags frequencies (row_at m ps) (row_at m qs) months.count;
    }

-- the n months from month m on
unfoldable pub months_after : List ℕ → List ℕ → List ℕ → List ℤ → List ℤ → Months → ℕ → ℕ → List Month
months_after arguments lags frequencies ps qs months m zero = []
months_after arguments lags frequencies ps qs months m (suc n) =
    month_at arguments lags frequencies ps qs months m ∷ months_after arguments lags frequencies ps qs months (m + 1) n

-- all of them
abbrev pub months_in : List ℕ → List ℕ → List ℕ → List ℤ → List ℤ → Months → List Month
months_in arguments lags frequencies ps qs months = months_after arguments lags frequencies ps qs months 0 months.many

-- the minutes of the n months from month m on
unfoldable pub minutes_after : List ℕ → ℕ → ℕ → ℕ
minutes_after lasts m zero = 0
minutes_after lasts m (suc n) = get_or lasts m 0 + minutes_after lasts (m + 1) n

-- the last minute of all
abbrev pub last_of : Months → ℕ
last_of months = minutes_after months.lasts 0 months.many

-- one month to twelve, each of some minutes and no more than a month's, with as many constituents as a station may have
pub record Following (months : Months) : Type 0 where
  pub some : 0 < months.many
  pub most : months.many ≤ 12
  pub count : months.count ≤ most_records
  pub lasts : (m : ℕ) → m < months.many → get_or months.lasts m 0 ≤ most_minutes

-- the arrays have a row for each month
pub record HasRows (months : Months) (vs : List ℕ) (ps qs : List ℤ) : Type 0 where
  pub arguments : months.many * most_records ≤ length vs
  pub cosines : months.many * most_records ≤ length ps
  pub sines : months.many * most_records ≤ length qs

-- the owner of a minute: the minutes of the months before it, and its own, which is before its last unless it is the last month. So it is,
-- whatever stands in the rows.
pub record OwnerPost (months : Months) (minute : ℕ) (r : InMonth) : Type 0 where
  pub there : r.month < months.many
  pub within : r.minute ≤ most_minutes
  pub lies : minutes_after months.lasts 0 r.month + r.minute ≡ minute
  pub before : r.month + 1 < months.many → r.minute < get_or months.lasts r.month 0
  pub owns : (arguments lags frequencies : List ℕ) (ps qs : List ℤ)
      → owner_of (months_in arguments lags frequencies ps qs months) minute ≡ record { month = month_at arguments lags frequencies ps qs months r.month; minute = r.minute }
