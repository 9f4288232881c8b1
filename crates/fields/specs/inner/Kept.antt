-- Only inner contracts cite this: what the reader keeps of a field: its sign, and its size behind the sign, capped.
use Rattle.std.specs.Prelude.{ℕ, List, Bool, true, false, cond, drop, Option, Some, None}
use Rattle.fields.specs.Numerals.{begins, whole_good, whole_size, fixed_good, fixed_size}
use Rattle.fields.specs.inner.Cap.{kept}
use Rattle.fields.specs.Number.{Contents, numeric, malformed, signed}
use Rattle.fields.specs.declared.Written.{Written}
use Rattle.fields.specs.declared.Format.{Format}
use Rattle.fields.specs.declared.Format.TheVariants.{Whole, Fixed}

-- of a field behind its sign
unfoldable pub kept_of : Format → List ℕ → Option ℕ
kept_of Whole bs = kept (whole_good bs) (whole_size bs)
kept_of (Fixed decimals) bs = kept (fixed_good decimals bs) (fixed_size decimals bs)

-- what it stands for
abbrev pub kept_gives : Bool → Option ℕ → Contents
kept_gives negative (Some size) = numeric (signed negative size)
kept_gives negative None = malformed

-- of a field behind its blanks: a minus is byte 45
unfoldable pub written_in : Format → List ℕ → Written
written_in format bs =
    cond (begins 45 bs)
    (record { negative = true; size = kept_of format (drop 1 bs) })
    (record { negative = false; size = kept_of format bs })
