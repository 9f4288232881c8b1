-- `station_file::stationfaults::station_fault` meets its contract: by the place.
use borrow.Author.Tests.{eq-eqb, ne_eqb, lt-ltb, le-ltb}
use Rattle.station_file.specs.Faults.{station_fault}
use Rattle.station_file.proofs.stationfaults.station_fault.Goals as goal

pub returns-then-place-eq0 : goal.returns-then-place-eq0
unfolding station_fault
returns-then-place-eq0 c =
    rw (eq-eqb _ _ c.if-place-eq0.true) c.only.ensures

pub returns-then-place-gt-RECORDS : goal.returns-then-place-gt-RECORDS
unfolding station_fault
returns-then-place-gt-RECORDS c =
    rw (ne_eqb _ _ c.if-place-eq0.false, lt-ltb _ _ c.if-place-gt-RECORDS.true) c.only-then-place-gt-RECORDS.ensures

pub returns : goal.returns
unfolding station_fault
returns c =
    rw (ne_eqb _ _ c.if-place-eq0.false, le-ltb _ _ c.if-place-gt-RECORDS.false) c.record_fault.ensures
