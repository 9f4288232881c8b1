-- The month of the rows is the month of 01's table. By the view's definitions.
use mathlib.Core.Path.{◌≡◌}
use Prim.Native.Nat.{ℕ}
use Rattle.table.specs.inner.View.{frequency_of, table_of}
use Rattle.table.specs.declared.Table.{Table}
use Rattle.station.specs.Station.{Station}
use Rattle.table.proofs.entries.Beyond.{listed-map}
use Rattle.month_arguments.specs.Longitudes.{longitudes_on}
use Rattle.month_satellites.specs.Latitude.{factors_at}
use Rattle.month.specs.Month.{month_day, month_of}
use Rattle.month.specs.inner.View.{rows_prepared}

pub rows-are-month : (t : Table) (s : Station) (year month : ℕ) → rows_prepared t (factors_at s.latitude) (longitudes_on (month_day year month) t.longitudes t.increases) 1 s.records ≡ month_of (table_of t) s year month
unfolding month_of table_of frequency_of
rows-are-month t s year month = rw (listed-map (λ f. f.frequency) (frequency_of t.names t.speeds) 0 t.frequencies)
