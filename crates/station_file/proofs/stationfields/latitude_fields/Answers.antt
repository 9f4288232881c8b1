-- `station_file::stationfields::latitude_fields` meets its contract: degrees, minutes, side, as the definition has them.
use borrow.Author.Rules.{rules}
use mathlib.Core.Path.{refl, ap}
use mir.Syntax.{w8, w32}
use mir.Val.{SFits}
use mir.ValLaws.{to_z-of_z}
use Rattle.std.proofs.lemmas.Result.{err_from_is_err_and}
use Rattle.refusals.specs.Checked.{good}
use Rattle.station_file.specs.Cards.{latitude_fields}
use Rattle.station_file.proofs.stationfields.latitude_fields.Goals as goal

pub small_field-requires : goal.small_field-requires
small_field-requires c =
    rw c.degrees.ensures (refl, refl)

pub natural_field-requires : goal.natural_field-requires
natural_field-requires c =
    rw c.minutes.ensures refl

pub minutes_of-requires : goal.minutes_of-requires
minutes_of-requires c =
    (c.size_of.ensures.upper_bound, rw c.minutes.ensures at c.in_ok-minutes.ensures.natural_within)

pub returns-in_err-degrees : goal.returns-in_err-degrees
unfolding latitude_fields
returns-in_err-degrees c =
    let p = err_from_is_err_and c.from_residual.result c.from_residual.ensures.1 in
    rw (p.1, p.2, ← (rw c.degrees.ensures at c.in_err-degrees.ensures))

pub returns-in_err-minutes : goal.returns-in_err-minutes
unfolding latitude_fields
returns-in_err-minutes c =
    let p = err_from_is_err_and c.from_residual-in_err-minutes.result c.from_residual-in_err-minutes.ensures.1 in
    rw (p.1, p.2, ← (rw c.degrees.ensures at c.in_ok-degrees.ensures), ← (rw c.minutes.ensures at c.in_err-minutes.ensures.result_value))

pub returns-in_err-south : goal.returns-in_err-south
unfolding latitude_fields
returns-in_err-south c =
    let p = err_from_is_err_and c.from_residual-in_err-south.result c.from_residual-in_err-south.ensures.1 in
    rw (p.1, p.2, ← (rw c.degrees.ensures at c.in_ok-degrees.ensures), ← (rw c.minutes.ensures at c.in_ok-minutes.ensures.result_value), ← c.in_err-south.ensures)

pub returns : goal.returns
unfolding latitude_fields
returns c =
    let f : SFits w8 c.in_ok-degrees.degrees = search rules in
    let g : SFits w32 c.minutes_of.result = search rules in
    rw (to_z-of_z w32 c.minutes_of.result g, ← (rw c.degrees.ensures at c.in_ok-degrees.ensures), ← (rw c.minutes.ensures at c.in_ok-minutes.ensures.result_value), ← c.in_ok-south.ensures)
    (ap good (rw (c.size_of.ensures.value, to_z-of_z w8 c.in_ok-degrees.degrees f) at c.minutes_of.ensures))
