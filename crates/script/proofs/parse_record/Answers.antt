-- `script::parse_record` meets its contract, by what is read of each number in turn; a place of at most 255 fits a byte. Assumes nothing.
use native.Mathlib.Omega.{arith}
use Rattle.script.specs.Script.{record_of_words}
use Rattle.script.specs.inner.Left.{words_from}
use Rattle.script.proofs.words.Words.{field-most}
use Rattle.script.proofs.Numbers.{record-is}
use Rattle.script.proofs.parse_record.Goals as goal

pub returns-in_err-place : goal.returns-in_err-place
unfolding record_of_words words_from
returns-in_err-place c =
    rw (c.from_residual.ensures, ← c.field_at.ensures, c.in_err-place.was)

pub returns-in_err-amplitude : goal.returns-in_err-amplitude
unfolding record_of_words words_from
returns-in_err-amplitude c =
    rw (c.from_residual-in_err-amplitude.ensures, ← c.field_at.ensures, c.in_ok-place.was) (rw c.in_err-amplitude.was at (record-is c.in_ok-place.place.value _ _ c.numbers_at.ensures))

pub overflow_cast-result : goal.overflow_cast-result
overflow_cast-result c =
    record { fits = omega (arith, field-most c.args.line.now 0 255 _ _ c.field_at.ensures c.in_ok-place.was) }

pub returns : goal.returns
unfolding record_of_words words_from
returns c =
    rw (← c.field_at.ensures, c.in_ok-place.was) (rw c.in_ok-amplitude.was at (record-is c.in_ok-place.place.value _ _ c.numbers_at.ensures))
