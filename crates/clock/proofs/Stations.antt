-- A station's two cases, accepted and refused, from what the check of its records promises. Assumes nothing.
use Prim.{Unit}
use mathlib.Core.Path.{◌≡◌, sym, ap, ◌∙◌}
use mathlib.Core.List.{List}
use lib.ListN.{length}
use lib.IntN.{ℤ}
use Rattle.refusals.specs.Outcome.{Outcome, accepted, refused, number_of}
use Rattle.refusals.specs.declared.Refused.{Refused}
use Rattle.std.specs.Prelude.{Ok, Err}
use Rattle.table.specs.inner.View.{table_of}
use Rattle.station.specs.declared.records.Record.{Record}
use Rattle.station.specs.Records.{records_of}
use Rattle.station.specs.inner.Rows.{rows_of}
use Rattle.station.specs.declared.records.Rows.{Rows}
use Rattle.station.specs.declared.strides.Strides.{Strides}
use Rattle.station.specs.Station.{Station, station_lent}
use Rattle.station.specs.inner.Station.{station_of}
use Rattle.station.specs.declared.Station as code
use Rattle.calls.specs.inner.Posts.{TakenPost}
use Rattle.calls.proofs.Stations.{station-accepted, station-strides, station-refused}
use Rattle.calls.proofs.Lent.{lent_same}
use Rattle.clock.specs.declared.Clock.{Clock}
use Rattle.clock.specs.View.{view, month_in, Made}
use Rattle.clock.specs.Posts.{StationPost}
use Rattle.clock.specs.inner.Parts.{with_station}

module _ (c : Clock) (station : Station) (made : Made c) where
  -- what is kept has the strides of what was lent
  strides-kept : (kept : code.Station) → station_of kept ≡ station → kept.strides ≡ station.strides
  unfolding station_of
  strides-kept kept e = ap (λ (s : Station). s.strides) e

  pub taken-accepted : (kept : code.Station) → TakenPost c.tabled c.table station (Ok kept) → StationPost c station (accepted tt) (with_station c kept)
  unfolding view
  taken-accepted kept says =
      let asked = sym says.says in
      let law = station-accepted (table_of c.table) c.stationed (station_of c.station) c.dated (month_in c) station c.tabled asked in
      let fit = station-strides (table_of c.table) c.stationed (station_of c.station) c.dated (month_in c) station c.tabled asked in
      record {
        made = λ tabled.
            let sound = made tabled in
            record { cosines = sound.cosines; table = sound.table; count = sound.count; last = sound.last; month = sound.month; strides = rw (strides-kept kept says.keeps) fit };
        returns = law.0;
        leaves = rw says.keeps law.1;
      }

  pub taken_refused : (e : Refused) → TakenPost c.tabled c.table station (Err e) → StationPost c station (refused (number_of e.refusal) e.place) c
  unfolding view
  taken_refused e says =
      let law = station-refused (table_of c.table) c.stationed (station_of c.station) c.dated (month_in c) station c.tabled (number_of e.refusal) e.place (sym says.says) in
      record { made = made; returns = law.0; leaves = law.1 }

-- what holds of the rows' records holds of those lent
pub lent-post : (c : Clock) (latitude : ℤ) (strides : Strides) (records : List Record) (returned : Outcome Unit) (left : Clock) (rows : Rows) → rows ≡ rows_of records
    → StationPost c (station_lent latitude strides (records_of rows (length records))) returned left → StationPost c (station_lent latitude strides records) returned left
lent-post c latitude strides records returned left rows e p =
    let same = lent_same latitude strides (view c) records rows e in
    record { made = p.made; returns = p.returns ∙ same.0; leaves = p.leaves ∙ same.1 }
