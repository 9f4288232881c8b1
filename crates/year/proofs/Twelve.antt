-- The months of a year from a month on: all of them where each is accepted, and the refusal of the first that is refused. By recursion on the months.
use mathlib.Core.Path.{◌≡◌, refl}
use mathlib.Core.List.{List}
use Prim.Native.Nat.{ℕ, zero, suc, ◌+◌, ◌<◌}
use native.Mathlib.Omega.{arith}
use lib.IntN.{ℤ}
use lib.ListN.{get_or}
use Rattle.refusals.specs.Outcome.{accepted, refused}
use Rattle.calendar.specs.Calendar.{month_minutes, months_a_year}
use Rattle.table.specs.Table.{Table}
use Rattle.station.specs.Station.{Station}
use Rattle.month_prepared.specs.Prepared.{Constituent}
use Rattle.month_prepared.specs.declared.months.Months.{Months}
use Rattle.month_prepared.specs.inner.Rows.{HasRows, month_at, months_after}
use Rattle.month.specs.Month.{month_of}
use Rattle.year.specs.Year.{months_from}
use Rattle.year.specs.inner.Rows.{IsYear, TwelveRows}

-- the rows of a year are the rows of its months
pub has-rows : (year count : ℕ) (months : Months) (vs : List ℕ) (ps qs : List ℤ) → IsYear year count months → TwelveRows vs ps qs → HasRows months vs ps qs
has-rows year count months vs ps qs is rows = record { arguments = omega (arith, is.twelve, rows.arguments); cosines = omega (arith, is.twelve, rows.cosines); sines = omega (arith, is.twelve, rows.sines) }

module _ (t : Table) (s : Station) (year : ℕ) where
  pub months-ready : (vs lags fs : List ℕ) (ps qs : List ℤ) (months : Months)
      → ((m : ℕ) → m < months_a_year → month_of t s year (m + 1) ≡ accepted (month_at vs lags fs ps qs months m).constituents)
      → ((m : ℕ) → m < months_a_year → get_or months.lasts m 0 ≡ month_minutes year (m + 1))
      → (m left : ℕ) → m + left ≡ months_a_year → months_from t s year (m + 1) left ≡ accepted (months_after vs lags fs ps qs months m left)
  unfolding months_from months_after
  months-ready vs lags fs ps qs months ready lasts m zero e = refl
  months-ready vs lags fs ps qs months ready lasts m (suc left) e =
      rw (ready m (omega arith), months-ready vs lags fs ps qs months ready lasts (m + 1) left (omega arith), lasts m (omega arith))

  -- `before` months are accepted, the next is not
  pub months-refused : (number place : ℕ) (cs : ℕ → List Constituent) (m before left : ℕ)
      → ((j : ℕ) → j < m + before → month_of t s year (j + 1) ≡ accepted (cs j))
      → month_of t s year (m + before + 1) ≡ refused number place → before < left → months_from t s year (m + 1) left ≡ refused number place
  unfolding months_from
  months-refused number place cs m before zero ready e h = absurd (omega arith)
  months-refused number place cs m zero (suc left) ready e h = let same : m + 0 ≡ m = omega arith in rw (rw same at e)
  months-refused number place cs m (suc before) (suc left) ready e h =
      let next : m + suc before ≡ m + 1 + before = omega arith in
      rw (ready m (omega arith), months-refused number place cs (m + 1) before left (λ j l. ready j (omega arith)) (rw next at e) (omega arith))
