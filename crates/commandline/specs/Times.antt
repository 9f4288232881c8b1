-- A time of day, HH:MM, in a word of five bytes. Assumes nothing.
use Rattle.std.specs.Prelude.{ℕ, ◌+◌, ◌*◌, cond, ◌&&◌, List, Option, Result, ℤ, Some, None, eqb, pos, length}
use Rattle.columns.specs.Columns.{column, columns}
use Rattle.fields.specs.Number.{contents_of, ranged}
use Rattle.fields.specs.declared.Format.TheVariants.{Whole}
use Rattle.fields.specs.declared.FieldError.{FieldError}
use Rattle.commandline.specs.Numbers.{given}

-- a whole number of at most `high` in two columns of a word, as 01's number fields have it
abbrev pub two_columns : List ℕ → ℕ → ℕ → Result ℤ FieldError
two_columns word from high = ranged (pos 0) (pos high) (contents_of Whole (columns word from 2))

-- hours 0 to 23, a colon, which is 58, and minutes 0 to 59
unfoldable pub time_of : List ℕ → Option ℕ
time_of word =
    cond (eqb (length word) 5 && eqb (column word 2) 58)
    (given (two_columns word 0 23) (λ hour. given (two_columns word 3 59) (λ minute. Some (60 * hour + minute))))
    None
