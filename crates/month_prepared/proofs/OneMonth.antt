-- A single month, as months that follow one another: its row is the whole of the lists, and its last minute the last of all. By computing.
use Prim.Native.Nat.{ℕ, ◌≤◌, ◌<◌}
use native.Mathlib.Omega.{arith}
use mathlib.Core.Path.{◌≡◌}
use mathlib.Core.List.{List, [], ◌∷◌}
use lib.IntN.{ℤ}
use lib.ListN.{length, get_or}
use lib.Seq.{take_all}
use Rattle.limits.specs.Limits.{most_records, most_minutes}
use Rattle.month_prepared.specs.Months.{owner_of}
use Rattle.month_prepared.specs.declared.months.Months.{Months}
use Rattle.month_prepared.specs.inner.View.{constituents_from}
use Rattle.month_prepared.specs.inner.Rows.{IsRow, row_at, months_after, months_in, minutes_after, last_of, Following, HasRows}

-- the first row of a list that has one is the list
pub row-whole : {A : Type 0} (xs : List A) → length xs ≡ most_records → row_at 0 xs ≡ xs
row-whole xs l = take_all most_records xs (omega (arith, l))

module _ (months : Months) (single : months.many ≡ 1) where
  -- its last minute is the last of all
  pub one_last : last_of months ≡ get_or months.lasts 0 0
  unfolding minutes_after
  one_last = rw single (omega arith)

  -- it follows, if it is a month
  pub one-following : months.count ≤ most_records → get_or months.lasts 0 0 ≤ most_minutes → Following months
  one-following count last =
      record {
        some = omega (arith, single);
        most = omega (arith, single);
        count = count;
        lasts = λ (m : ℕ) (h : m < months.many). let e : m ≡ 0 = omega (arith, single) in rw e last;
      }

  module _ {vs : List ℕ} {ps qs : List ℤ} (row : IsRow vs ps qs) where
    -- lists of one row are enough for it
    pub one-row : HasRows months vs ps qs
    one-row = record { arguments = omega (arith, row.arguments, single); cosines = omega (arith, row.cosines, single); sines = omega (arith, row.sines, single) }

    -- the months are the one that the lists hold
    pub one-month : (lags frequencies : List ℕ)
        → months_in vs lags frequencies ps qs months
        ≡ record { last = get_or months.lasts 0 0; constituents = constituents_from vs lags frequencies ps qs months.count } ∷ []
    unfolding months_after
    one-month lags frequencies = rw (single, row-whole vs row.arguments, row-whole ps row.cosines, row-whole qs row.sines)

    -- and it owns each minute
    pub one-owner : (lags frequencies : List ℕ) (minute : ℕ)
        → owner_of (months_in vs lags frequencies ps qs months) minute
        ≡ record { month = record { last = get_or months.lasts 0 0; constituents = constituents_from vs lags frequencies ps qs months.count }; minute = minute }
    unfolding owner_of
    one-owner lags frequencies minute = rw (one-month lags frequencies)
