-- Only inner contracts cite this: the fields that fit the types that the table keeps.
use Rattle.std.specs.Prelude.{◌<◌, ◌≡◌, true, pos, neg_ℤ}
use Rattle.std.specs.Int.Signed.{le_z}
use Rattle.limits.specs.Limits.{satellites_a_card}
use Rattle.card.specs.declared.formats.NumberField.{NumberField}
use Rattle.card.specs.declared.formats.Row.{Row}
use Rattle.card.specs.declared.formats.Row.TheVariants as row

-- its numbers fit eight bits
abbrev pub IsSmall : NumberField → Type 0
IsSmall f = (le_z (neg_ℤ (pos 127)) f.low ≡ true) × (le_z f.high (pos 127) ≡ true)

-- its numbers are not below 0
abbrev pub IsNatural : NumberField → Type 0
IsNatural f = le_z (pos 0) f.low ≡ true

-- a row that a card has
abbrev pub RowGood : Row → Type 0
RowGood row.Doodson = Unit
RowGood (row.Differences j) = j < satellites_a_card
