-- A whole station: latitude, strides, count, then the records, in the order of `station_outcome`.
use mathlib.Core.Path.{◌≡◌}
use mathlib.Core.Bool.{true, false}
use lib.ListN.{length}
use lib.Dec.{ltb}
use lib.IntN.{pos, neg_ℤ}
use Rattle.limits.specs.Limits.{most_latitude, most_records}
use lib.Signed.{lt_z}
use borrow.Author.Tests.{lt-ltb, le-ltb}
use Rattle.std.proofs.lemmas.Result.{IfOk-weaker}
use Rattle.station.specs.Station.{station_outcome}
use Rattle.station.specs.Records.{records_of}
use Rattle.station.specs.inner.Station.{station_of}
use Rattle.station.proofs.Copies.{kept-is}
use Rattle.station.proofs.records.Copies.{records-length}
use mathlib.Core.Path.{ap, sym, ◌∙◌}
use mir.Syntax.{w32}
use mir.ValLaws.{to_z-of_z}
use Rattle.station.proofs.take_station.Goals as goal

pub returns-then-latitude-lt-SOUTHMOST : goal.returns-then-latitude-lt-SOUTHMOST
unfolding station_outcome
returns-then-latitude-lt-SOUTHMOST c =
    let low : lt_z c.args.latitude (neg_ℤ (pos most_latitude)) ≡ true = rw (to_z-of_z w32 c.args.latitude c.ranges.latitude) at c.if-latitude-lt-SOUTHMOST.true in
    rw c.at.ensures (record { says = simp low; keeps = tt })

pub returns-then-latitude-gt-LATITUDE : goal.returns-then-latitude-gt-LATITUDE
unfolding station_outcome
returns-then-latitude-gt-LATITUDE c =
    let low : lt_z c.args.latitude (neg_ℤ (pos most_latitude)) ≡ false = rw (to_z-of_z w32 c.args.latitude c.ranges.latitude) at c.if-latitude-lt-SOUTHMOST.false in
    let high : lt_z (pos most_latitude) c.args.latitude ≡ true = rw (to_z-of_z w32 c.args.latitude c.ranges.latitude) at c.if-latitude-gt-LATITUDE.true in
    rw c.at-then-latitude-gt-LATITUDE.ensures (record { says = simp (low, high); keeps = tt })

pub returns-then-strides_outside : goal.returns-then-strides_outside
unfolding station_outcome
returns-then-strides_outside c =
    let low : lt_z c.args.latitude (neg_ℤ (pos most_latitude)) ≡ false = rw (to_z-of_z w32 c.args.latitude c.ranges.latitude) at c.if-latitude-lt-SOUTHMOST.false in
    let high : lt_z (pos most_latitude) c.args.latitude ≡ false = rw (to_z-of_z w32 c.args.latitude c.ranges.latitude) at c.if-latitude-gt-LATITUDE.false in
    rw c.at-then-strides_outside.ensures (record { says = simp (low, high, sym c.strides_outside.ensures ∙ c.if-strides_outside.true); keeps = tt })

pub returns-then-n-gt-RECORDS : goal.returns-then-n-gt-RECORDS
unfolding station_outcome
returns-then-n-gt-RECORDS c =
    let low : lt_z c.args.latitude (neg_ℤ (pos most_latitude)) ≡ false = rw (to_z-of_z w32 c.args.latitude c.ranges.latitude) at c.if-latitude-lt-SOUTHMOST.false in
    let high : lt_z (pos most_latitude) c.args.latitude ≡ false = rw (to_z-of_z w32 c.args.latitude c.ranges.latitude) at c.if-latitude-gt-LATITUDE.false in
    let long : ltb most_records (length (records_of c.args.rows c.args.n)) ≡ true = rw (records-length c.args.rows.places c.args.rows.amplitudes c.args.rows.phases 0 c.args.n) (lt-ltb _ _ c.if-n-gt-RECORDS.true) in
    rw c.at-then-n-gt-RECORDS.ensures (record { says = simp (low, high, sym c.strides_outside.ensures ∙ c.if-strides_outside.false, long); keeps = tt })

pub returns : goal.returns
unfolding station_outcome
returns c =
    let low : lt_z c.args.latitude (neg_ℤ (pos most_latitude)) ≡ false = rw (to_z-of_z w32 c.args.latitude c.ranges.latitude) at c.if-latitude-lt-SOUTHMOST.false in
    let high : lt_z (pos most_latitude) c.args.latitude ≡ false = rw (to_z-of_z w32 c.args.latitude c.ranges.latitude) at c.if-latitude-gt-LATITUDE.false in
    let short : ltb most_records (length (records_of c.args.rows c.args.n)) ≡ false = rw (records-length c.args.rows.places c.args.rows.amplitudes c.args.rows.phases 0 c.args.n) (le-ltb _ _ c.if-n-gt-RECORDS.false) in
    record {
      says = simp (low, high, sym c.strides_outside.ensures ∙ c.if-strides_outside.false, short) c.take_records.ensures.says;
      keeps =
          IfOk-weaker c.take_records.result _ _
          (λ s e. ap station_of e ∙ kept-is c.args.latitude c.args.strides c.args.rows c.args.n c.if-n-gt-RECORDS.false)
          (rw (c.no_station.ensures, to_z-of_z w32 c.args.latitude c.ranges.latitude) at c.take_records.ensures.keeps);
    }
