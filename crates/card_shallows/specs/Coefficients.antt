-- 01, The card file, part 4: the coefficient of a part of a shallow-water constituent.
use Rattle.std.specs.Prelude.{ℕ, ◌+◌, List, Bool, cond, not, ltb, eqb, ℤ, pos, nat_abs}
use Rattle.std.specs.Int.Signed.{quot_z, rem_z}
use Rattle.limits.specs.Limits.{most_sizes}
use Rattle.refusals.specs.Checked.{good, bad, ◌>>=◌}
use Rattle.card.specs.declared.faults.Trouble.TheVariants.{OutOfRange, NotWhole, PastTwelve}
use Rattle.card.specs.declared.formats.NumberField.{NumberField}
use Rattle.card.specs.Formats.{fault_in, coefficient_field}
use Rattle.card.specs.Card.{Card, number}

-- the whole coefficient of so many hundredths
abbrev pub whole_of : ℤ → ℤ
whole_of hundredths = quot_z hundredths (pos 100)

-- "-9 to 9, not 0"
abbrev pub is_zero : ℤ → Bool
is_zero hundredths = eqb (nat_abs hundredths) 0

-- "coefficient not whole"
abbrev pub is_broken : ℤ → Bool
is_broken hundredths = not (eqb (nat_abs (rem_z hundredths (pos 100))) 0)

-- "or the one that takes the sizes past 12", after parts whose sizes add up to `sizes`
abbrev pub is_past : ℕ → ℤ → Bool
is_past sizes hundredths = ltb most_sizes (sizes + nat_abs (whole_of hundredths))

-- the coefficient of so many hundredths in a field
unfoldable pub coefficient : NumberField → ℕ → ℤ → Card ℤ
coefficient f sizes hundredths =
    cond (is_zero hundredths) (bad (fault_in f OutOfRange))
    (cond (is_broken hundredths) (bad (fault_in f NotWhole))
    (cond (is_past sizes hundredths) (bad (fault_in f PastTwelve)) (good (whole_of hundredths))))

-- the coefficient of part j on the line
abbrev pub coefficient_in : ℕ → List ℕ → ℕ → Card ℤ
coefficient_in sizes line j = number line (coefficient_field j) >>= coefficient (coefficient_field j) sizes
