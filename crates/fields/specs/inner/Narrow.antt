-- Only inner contracts cite this: what a field holds in 32 bits, in 01's terms.
use Rattle.std.specs.Prelude.{ℕ, ℤ, pos, Result, Ok, Err}
use Rattle.fields.specs.declared.FieldError.{FieldError}

-- a number of 32 bits
abbrev pub narrow_gives : Result ℕ FieldError → Result ℤ FieldError
narrow_gives (Ok n) = Ok (pos n)
narrow_gives (Err error) = Err error
