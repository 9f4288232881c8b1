-- `station_file::stationfile::read_records` meets its contract. The loop keeps that reading on from here gives what reading from line 2 gives.
use borrow.Author.Rules.{rules}
use Rattle.limits.specs.Limits.{most_frequencies, most_records}
use mathlib.Core.Path.{◌≡◌, refl, ap, ◌∙◌}
use Prim.Native.Nat.{◌<◌, min}
use native.Mathlib.Omega.{arith}
use lib.ListN.{length, length-set}
use mir.Syntax.{w32}
use mir.Val.{SFits, to_z, of_z}
use mir.ValLaws.{to_z-of_z}
use Rattle.columns.specs.Names.{names_from}
use Rattle.std.specs.Prelude.{Some, None, Ok}
use Rattle.station.specs.declared.records.Rows.{Rows}
use Rattle.station.specs.Records.{records_from}
use Rattle.station_file.proofs.stationfile.Records.{record-room, records-here, records-end, records-put}
use Rattle.station_file.proofs.stationfile.read_records.Goals as goal

pub loop-at-init : goal.loop-at-init
unfolding records_from
loop-at-init c = (
  c.requires,
  omega arith,
  ap (λ (r : Rows). length r.places) c.no_rows-rows.ensures,
  ap (λ (r : Rows). length r.amplitudes) c.no_rows-rows.ensures,
  ap (λ (r : Rows). length r.phases) c.no_rows-rows.ensures,
  refl,
)

pub returns-in-Ok-None : goal.returns-in-Ok-None
returns-in-Ok-None c =
    let fits : SFits w32 c.args.latitude = search rules in
    let told : c.record_card.result ≡ Ok None = rw c.in-Ok-None.field-0-is at c.in-Ok-None.is in
    rw (to_z-of_z w32 c.args.latitude fits) (rw (to_z-of_z w32 c.args.latitude fits, records-here c.args.latitude (names_from c.args.names.now 0 (min c.args.frequencies most_frequencies)) c.args.file.now c.loop-at.at c.loop-at.rows c.loop-at.count c.line_at.result.now c.record_card.result c.loop-at-test.true c.line_at.ensures c.record_card.ensures, told) at c.loop-at.invariant.5, c.loop-at.invariant.1)

pub put-rows-requires : goal.put-rows-requires
put-rows-requires c =
    let told : c.record_card.result ≡ Ok (Some c.in-Ok-Some.r) = rw c.in-Ok-Some.field-0-is at c.in-Ok-Some.is in
    record-room (names_from c.args.names.now 0 (min c.args.frequencies most_frequencies)) c.loop-at.count c.line_at.result.now c.in-Ok-Some.r (rw told at c.record_card.ensures)

pub returns-in-Err : goal.returns-in-Err
returns-in-Err c =
    let fits : SFits w32 c.args.latitude = search rules in
    let e = rw (to_z-of_z w32 c.args.latitude fits, records-here c.args.latitude (names_from c.args.names.now 0 (min c.args.frequencies most_frequencies)) c.args.file.now c.loop-at.at c.loop-at.rows c.loop-at.count c.line_at.result.now c.record_card.result c.loop-at-test.true c.line_at.ensures c.record_card.ensures, c.in-Err.is) at c.loop-at.invariant.5 in
    rw (← e) c.refused.ensures

pub loop-at-preserved : goal.loop-at-preserved
loop-at-preserved c =
    let r = c.in-Ok-Some.r in
    let told : c.record_card.result ≡ Ok (Some r) = rw c.in-Ok-Some.field-0-is at c.in-Ok-Some.is in
    let room : c.loop-at.count < most_records = record-room (names_from c.args.names.now 0 (min c.args.frequencies most_frequencies)) c.loop-at.count c.line_at.result.now r (rw told at c.record_card.ensures) in (
      c.next_line-at.ensures.1,
      omega arith,
      rw c.put-rows.ensures (length-set c.loop-at.rows.places c.loop-at.count r.place ∙ c.loop-at.invariant.2),
      rw c.put-rows.ensures (length-set c.loop-at.rows.amplitudes c.loop-at.count r.amplitude ∙ c.loop-at.invariant.3),
      rw c.put-rows.ensures (length-set c.loop-at.rows.phases c.loop-at.count r.phase ∙ c.loop-at.invariant.4),
      rw (c.next_line-at.ensures.2, c.put-rows.ensures, records-put c.loop-at.rows c.loop-at.count r.place r.amplitude r.phase (omega (arith, c.loop-at.invariant.2)) (omega (arith, c.loop-at.invariant.3)) (omega (arith, c.loop-at.invariant.4)))
          (rw (records-here (to_z w32 (of_z w32 c.args.latitude)) (names_from c.args.names.now 0 (min c.args.frequencies most_frequencies)) c.args.file.now c.loop-at.at c.loop-at.rows c.loop-at.count c.line_at.result.now c.record_card.result c.loop-at-test.true c.line_at.ensures c.record_card.ensures, told) at c.loop-at.invariant.5),
    )

pub returns : goal.returns
returns c =
    let fits : SFits w32 c.args.latitude = search rules in
    rw (to_z-of_z w32 c.args.latitude fits) (rw (to_z-of_z w32 c.args.latitude fits, records-end c.args.latitude (names_from c.args.names.now 0 (min c.args.frequencies most_frequencies)) c.args.file.now c.loop-at.at c.loop-at.rows c.loop-at.count c.loop-at-test.false) at c.loop-at.invariant.5, c.loop-at.invariant.1)
