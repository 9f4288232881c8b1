-- `station_file::stationfile::read_station` meets its contract: the station card on the first line, then the constituent cards.
use borrow.Author.Rules.{rules}
use Rattle.limits.specs.Limits.{most_frequencies}
use Prim.Native.Nat.{◌<◌, min}
use native.Mathlib.Omega.{arith}
use mir.Syntax.{w32}
use mir.Val.{SFits}
use mir.ValLaws.{to_z-of_z}
use lib.ListN.{length}
use Rattle.columns.specs.Names.{names_from}
use Rattle.station_file.proofs.stationfile.Records.{file-here, file-empty}
use Rattle.station_file.proofs.stationfile.read_station.Goals as goal

pub returns-then-file-eq0 : goal.returns-then-file-eq0
returns-then-file-eq0 c =
    rw (file-empty _ c.args.file.now c.if-file-eq0.true) (rw c.only.ensures at c.refused.ensures)

pub read_records-requires : goal.read_records-requires
read_records-requires c =
    c.next_line.ensures.1

pub returns-in-Ok : goal.returns-in-Ok
returns-in-Ok c =
    let fits : SFits w32 c.in-Ok.latitude = search rules in
    let some : 0 < length c.args.file.now = omega arith in
    rw (file-here (names_from c.args.names.now 0 (min c.args.frequencies most_frequencies)) c.args.file.now some, ← c.next_line.ensures.2, ← c.first_line.ensures, ← c.station_card.ensures, c.in-Ok.is) (rw (to_z-of_z w32 c.in-Ok.latitude fits) at c.read_records.ensures)

pub returns-in-Err : goal.returns-in-Err
returns-in-Err c =
    let some : 0 < length c.args.file.now = omega arith in
    rw (file-here (names_from c.args.names.now 0 (min c.args.frequencies most_frequencies)) c.args.file.now some, ← c.first_line.ensures, ← c.station_card.ensures, c.in-Err.is) c.refused-in-Err.ensures
