-- `month::prepare` meets its contract: a date in range is within 2^15 days of 1976, and the month of the rows is that of the table.
use borrow.Author.Rules.{rules}
use mathlib.Core.Path.{◌≡◌, refl, ◌∙◌}
use native.Mathlib.Omega.{arith}
use lib.Dec.{lit≤}
use mir.Syntax.{w32, w64}
use mir.Val.{SFits}
use mir.ValLaws.{to_z-of_z}
use Rattle.angles.proofs.Machine.{fits_below}
use Rattle.calendar.proofs.Days.{count_small}
use Rattle.month_arguments.specs.Longitudes.{longitudes_on}
use Rattle.month_arguments.specs.inner.Longitudes.{longitudes_of}
use Rattle.month_arguments.proofs.astronomy.Reduced.{are-reduced}
use Rattle.month_satellites.specs.Latitude.{factors_at}
use Rattle.month_satellites.specs.inner.Factors.{factors_of}
use Rattle.station.specs.inner.Station.{station_of}
use Rattle.month.specs.Month.{month_day}
use Rattle.month.proofs.Whole.{rows-are-month}
use Rattle.month.proofs.prepare.Goals as goal

pub longitudes_on-longitudes-requires : goal.longitudes_on-longitudes-requires
longitudes_on-longitudes-requires c =
    let f : SFits w64 c.day_count-days.result = search rules in
    rw (to_z-of_z w64 c.day_count-days.result f, c.day_count-days.ensures) (count_small c.args.year c.args.month 16 c.requires.month_value (lit≤ tt))

pub prepare_records-requires : goal.prepare_records-requires
prepare_records-requires c =
    record {
      table = c.requires.table;
      given = record { factors = c.latitude_factors-factors.ensures.are_factors; longitudes = are-reduced c.longitudes_on-longitudes.result _ c.args.table.longitudes c.args.table.increases c.longitudes_on-longitudes.ensures };
      mains_value = refl;
    }

pub returns : goal.returns
unfolding month_day station_of
returns c =
    let f : SFits w64 c.day_count-days.result = fits_below c.day_count-days.result (rw c.day_count-days.ensures (omega (arith, count_small c.args.year c.args.month 16 c.requires.month_value (lit≤ tt)))) in
    let h : SFits w32 c.args.station.latitude = record { sfits = c.struct_told-1.given.0.1 } in
    let el : longitudes_of c.longitudes_on-longitudes.result ≡ longitudes_on (month_day c.args.year c.args.month) c.args.table.longitudes c.args.table.increases = rw (to_z-of_z w64 c.day_count-days.result f, c.day_count-days.ensures) at c.longitudes_on-longitudes.ensures in
    let eg : factors_of c.latitude_factors-factors.result ≡ factors_at c.args.station.latitude = rw (to_z-of_z w32 c.args.station.latitude h) at c.latitude_factors-factors.ensures.result_value in
    rw (eg, el) at c.prepare_records.ensures ∙ rows-are-month c.args.table (station_of c.args.station) c.args.year c.args.month
