-- `station_file::stationfields::record_fields` meets its contract: name, amplitude, phase lag, as the definition has them; a place found is below the count, so it fits a byte.
use borrow.Author.Rules.{rules}
use mathlib.Core.Path.{refl, sym}
use Prim.Native.Nat.{◌≤◌, ◌<◌}
use Rattle.std.proofs.lemmas.Result.{err_from_is_err_and}
use Rattle.card.proofs.places.Defined.{place-within}
use Rattle.station_file.specs.Cards.{record_fields}
use Rattle.station_file.proofs.stationfields.record_fields.Goals as goal

pub natural_field-requires : goal.natural_field-requires
natural_field-requires c =
    rw c.amplitude.ensures refl

pub natural_field-requires-2 : goal.natural_field-requires-2
natural_field-requires-2 c =
    rw c.phase_lag.ensures refl

pub overflow_cast-result : goal.overflow_cast-result
overflow_cast-result c =
    let h : c.in-Some.place < c.args.frequencies = place-within _ c.args.names.now c.args.frequencies _ (sym c.in-Some.ensures) in
    search rules

pub overflow_cast-result-2 : goal.overflow_cast-result-2
overflow_cast-result-2 c =
    let h : c.in_ok-amplitude.amplitude ≤ 4_294_967_295 = rw c.amplitude.ensures at c.in_ok-amplitude.ensures.natural_within in
    search rules

pub overflow_cast-result-3 : goal.overflow_cast-result-3
overflow_cast-result-3 c =
    let h : c.in_ok-phase.phase ≤ 4_294_967_295 = rw c.phase_lag.ensures at c.in_ok-phase.ensures.natural_within in
    search rules

pub returns-in_default : goal.returns-in_default
unfolding record_fields
returns-in_default c =
    rw (c.only.ensures, ← c.name_part-name.ensures.result_value_2, ← c.find_name.ensures, c.in_default.is) refl

pub returns-in_err-amplitude : goal.returns-in_err-amplitude
unfolding record_fields
returns-in_err-amplitude c =
    let p = err_from_is_err_and c.from_residual.result c.from_residual.ensures.1 in
    rw (p.1, p.2, ← c.name_part-name.ensures.result_value_2, ← c.in-Some.ensures, ← (rw c.amplitude.ensures at c.in_err-amplitude.ensures.result_value))

pub returns-in_err-phase : goal.returns-in_err-phase
unfolding record_fields
returns-in_err-phase c =
    let p = err_from_is_err_and c.from_residual-in_err-phase.result c.from_residual-in_err-phase.ensures.1 in
    rw (p.1, p.2, ← c.name_part-name.ensures.result_value_2, ← c.in-Some.ensures, ← (rw c.amplitude.ensures at c.in_ok-amplitude.ensures.result_value), ← (rw c.phase_lag.ensures at c.in_err-phase.ensures.result_value))

pub returns : goal.returns
unfolding record_fields
returns c =
    rw (← c.name_part-name.ensures.result_value_2, ← c.in-Some.ensures, ← (rw c.amplitude.ensures at c.in_ok-amplitude.ensures.result_value), ← (rw c.phase_lag.ensures at c.in_ok-phase.ensures.result_value))
