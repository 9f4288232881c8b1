-- The number that a number field of a word holds, where it holds one. Assumes nothing.
use Rattle.std.specs.Prelude.{ℕ, ℤ, Option, Some, None, Result, Ok, Err, option_and_then, pos, negsuc}
use Rattle.fields.specs.declared.FieldError.{FieldError}

-- the number, which is none of the fields' below 0
abbrev pub number_in : Result ℤ FieldError → Option ℕ
number_in (Ok (pos n)) = Some n
number_in (Ok (negsuc n)) = None
number_in (Err error) = None

-- goes on with a field's number; nothing where there is none
abbrev pub given : {T : Type 0} → Result ℤ FieldError → (ℕ → Option T) → Option T
given field f = option_and_then f (number_in field)
