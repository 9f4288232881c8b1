-- `station_file::stationfields::record_card` meets its contract: how the card begins, then its fields.
use native.Mathlib.Omega.{arith}
use Rattle.std.proofs.lemmas.Result.{err_from_is_err_and}
use Rattle.station_file.specs.Cards.{next_record}
use Rattle.station_file.proofs.stationfields.record_card.Goals as goal

pub returns-in_err-begins : goal.returns-in_err-begins
unfolding next_record
returns-in_err-begins c =
    let p = err_from_is_err_and c.from_residual.result c.from_residual.ensures.1 in
    rw (p.1, p.2, ← c.in_err-begins.ensures)

pub returns-in-Ends : goal.returns-in-Ends
unfolding next_record
returns-in-Ends c =
    rw (← c.begins.ensures, c.in_ok-begins.was, c.in-Ends.is)

pub record_fields-requires : goal.record_fields-requires
record_fields-requires c =
    omega (arith, c.min.ensures)

pub returns-in_err-record-in-Fields : goal.returns-in_err-record-in-Fields
unfolding next_record
returns-in_err-record-in-Fields c =
    let p = err_from_is_err_and c.from_residual-in_err-record-in-Fields.result c.from_residual-in_err-record-in-Fields.ensures.1 in
    rw (p.1, p.2, ← c.begins.ensures, c.in_ok-begins.was, c.in-Fields.is, ← c.min.ensures, ← c.in_err-record-in-Fields.ensures)

pub returns-in_ok-record-in-Fields : goal.returns-in_ok-record-in-Fields
unfolding next_record
returns-in_ok-record-in-Fields c =
    rw (← c.begins.ensures, c.in_ok-begins.was, c.in-Fields.is, ← c.min.ensures, ← c.in_ok-record-in-Fields.ensures)
