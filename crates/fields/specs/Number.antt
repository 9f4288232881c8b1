-- 01, The card file: "A number is blanks, perhaps a minus, digits, blanks. F fields need one point, at least one digit, and no more
-- decimals than their format. Blank number fields are malformed."
use Rattle.std.specs.Prelude.{ℕ, List, Bool, true, false, cond, ◌&&◌, ℤ, pos, neg_ℤ, drop, Result, Ok, Err}
use Rattle.std.specs.Int.Signed.{le_z}
use Rattle.columns.specs.Bytes.{blank, behind}
use Rattle.fields.specs.Numerals.{begins, whole_good, whole_size, fixed_good, fixed_size}
use Rattle.fields.specs.declared.Format.{Format}
use Rattle.fields.specs.declared.Format.TheVariants.{Whole, Fixed}
use Rattle.fields.specs.declared.FieldError.{FieldError}
use Rattle.fields.specs.declared.FieldError.TheVariants.{Malformed, OutOfRange}

-- what a field holds: an F field's number is in units of its format's last decimal
pub data Contents : Type 0 where
  malformed : Contents
  numeric : ℤ → Contents

-- "perhaps a minus"
abbrev pub signed : Bool → ℕ → ℤ
signed true size = neg_ℤ (pos size)
signed false size = pos size

-- what stands behind the sign
unfoldable pub unsigned : Format → Bool → List ℕ → Contents
unsigned Whole negative bs = cond (whole_good bs) (numeric (signed negative (whole_size bs))) malformed
unsigned (Fixed decimals) negative bs = cond (fixed_good decimals bs) (numeric (signed negative (fixed_size decimals bs))) malformed

-- what stands behind the blanks: a minus is byte 45
unfoldable pub unblanked : Format → List ℕ → Contents
unblanked format bs = cond (begins 45 bs) (unsigned format true (drop 1 bs)) (unsigned format false bs)

-- a number field
unfoldable pub contents_of : Format → List ℕ → Contents
contents_of format field = unblanked format (behind blank field)

-- malformed is refused by 2, a number outside its stated range by 3
unfoldable pub ranged : ℤ → ℤ → Contents → Result ℤ FieldError
ranged low high malformed = Err Malformed
ranged low high (numeric z) = cond (le_z low z && le_z z high) (Ok z) (Err OutOfRange)
