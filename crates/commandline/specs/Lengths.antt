-- 02, No. 6: three stride lengths in one word, S,M,D, for semidiurnal, mixed and diurnal tides. Assumes nothing.
use Rattle.std.specs.Prelude.{ℕ, ◌+◌, ◌-◌, Bool, cond, ◌&&◌, List, Option, Result, ℤ, Some, None, eqb, ltb, pos, length, drop}
use Rattle.columns.specs.Bytes.{among, leading}
use Rattle.columns.specs.Columns.{column, columns}
use Rattle.fields.specs.Number.{contents_of, ranged}
use Rattle.fields.specs.declared.Format.TheVariants.{Whole}
use Rattle.fields.specs.declared.FieldError.{FieldError}
use Rattle.station.specs.Strides.{usual_strides}
use Rattle.station.specs.declared.strides.Strides.{Strides}
use Rattle.commandline.specs.Numbers.{given}
use Rattle.commandline.specs.Words.{word_at}

-- where a length ends that begins at a byte: a comma, which is 44, is below the bytes of a number, and so is a blank
unfoldable pub length_end : List ℕ → ℕ → ℕ
length_end word at = at + length (leading (among 45 255) (drop at word))

-- whether a comma stands at a byte
unfoldable pub comma_at : List ℕ → ℕ → Bool
comma_at word at = ltb at (length word) && eqb (column word at) 44

-- the whole number that stands from one byte up to another, as 01's number fields have it, of 32 bits
unfoldable pub length_in : List ℕ → ℕ → ℕ → Result ℤ FieldError
length_in word from end = ranged (pos 0) (pos 4_294_967_295) (contents_of Whole (columns word from (end - from)))

-- three lengths where each is a number
abbrev pub three_of : Result ℤ FieldError → Result ℤ FieldError → Result ℤ FieldError → Option Strides
three_of first second third = given first (λ s. given second (λ m. given third (λ d. Some record { semidiurnal = s; mixed = m; diurnal = d })))

-- a length, a comma, a length, a comma, and a length up to the word's end
unfoldable pub lengths_of : List ℕ → Option Strides
lengths_of word =
    let first = length_end word 0 in
    let second = length_end word (first + 1) in
    let third = length_end word (second + 1) in
    cond (comma_at word first && comma_at word second && eqb third (length word))
    (three_of (length_in word 0 first) (length_in word (first + 1) second) (length_in word (second + 1) third))
    None

-- the lengths that the word at a place of a command line says; the usual ones where there is no such word
unfoldable pub lengths_at : List ℕ → Option ℕ → Option Strides
lengths_at words None = Some usual_strides
lengths_at words (Some at) = lengths_of (word_at words at)
