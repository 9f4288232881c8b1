-- Only inner contracts cite this: the constituents and the months that are lent.
use Rattle.std.specs.Prelude.{ℕ, ◌≤◌, ◌≡◌, List}
use Rattle.limits.specs.Limits.{most_records}
use Rattle.cosine.specs.Fixed.{IsTable}
use Rattle.month_prepared.specs.Prepared.{Constituent, Month}
use Rattle.month_prepared.specs.inner.View.{constituents_from}
use Rattle.month_prepared.specs.inner.Rows.{IsRow, Following, HasRows, month_at, months_in}
use Rattle.heights.specs.declared.Lent.{Lent}
use Rattle.heights.specs.declared.months.LentMonths.{LentMonths}

-- the constituents of a month
abbrev pub constituents_lent : Lent → List Constituent
constituents_lent l = constituents_from l.arguments.now l.lags.now l.frequencies.now l.ps.now l.qs.now l.count

-- a table of cosines, and a place for each record
pub record IsLent (l : Lent) : Type 0 where
  pub table : IsTable l.table.now
  pub count : l.count ≤ most_records
  pub row : IsRow l.arguments.now l.ps.now l.qs.now

-- months that follow one another
abbrev pub months_lent : LentMonths → List Month
months_lent l = months_in l.arguments.now l.lags.now l.frequencies.now l.ps.now l.qs.now l.months

-- a table of cosines, and a row for each month
pub record AreLent (l : LentMonths) : Type 0 where
  pub table : IsTable l.table.now
  pub following : Following l.months
  pub rows : HasRows l.months l.arguments.now l.ps.now l.qs.now

-- the constituents of month m of them, with the frequencies that are the same in each
pub record IsMonth (l : LentMonths) (m : ℕ) (r : Lent) : Type 0 where
  pub lent : IsLent r
  pub count : r.count ≡ l.months.count
  pub frequencies : r.frequencies.now ≡ l.frequencies.now
  pub is : constituents_lent r ≡ (month_at l.arguments.now l.lags.now l.frequencies.now l.ps.now l.qs.now l.months m).constituents
