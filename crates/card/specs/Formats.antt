-- 01, The card file: the columns of each card, as its format statement lays them out. Columns are counted from 0.
-- Cards are read by these descriptions alone: "skipped columns, columns past the format and unused fields are ignored".
use Rattle.std.specs.Prelude.{ℕ, ◌+◌, ◌*◌, ℤ, pos, neg_ℤ, Option, Some, None}
use Rattle.limits.specs.Limits.{most_frequency}
use Rattle.fields.specs.declared.Format.{Format}
use Rattle.fields.specs.declared.Format.TheVariants.{Whole, Fixed}
use Rattle.card.specs.declared.faults.What.{What}
use Rattle.card.specs.declared.faults.What.TheVariants.{Frequency, Longitude, Increase, Doodson, Phase, SatelliteCount, Difference, SatellitePhase, Ratio, PartCount, Coefficient}
use Rattle.card.specs.declared.faults.Trouble.{Trouble}
use Rattle.card.specs.declared.faults.Fault.{Fault}
use Rattle.card.specs.declared.formats.NumberField.{NumberField}
use Rattle.card.specs.declared.formats.FiveCard.{FiveCard}
use Rattle.card.specs.declared.formats.FiveCard.TheVariants.{Longitudes, Increases}
use Rattle.card.specs.declared.formats.Row.{Row}
use Rattle.card.specs.declared.formats.Row.TheVariants as row

-- a number field: what it holds and which of several, from 1 (none: there is one only); its first column, its width, I (`Whole`) or F (`Fixed`, with
-- its decimals), and its range, in units of its last decimal
abbrev pub field : What → Option ℕ → ℕ → ℕ → Format → ℤ → ℤ → NumberField
field what which from width format low high =
    record { what = what; which = which; from = from; width = width; format = format; low = low; high = high }

-- a field with the range 0 to `most`
abbrev pub up_to : ℕ → What → Option ℕ → ℕ → ℕ → Format → NumberField
up_to most what which from width format = field what which from width format (pos 0) (pos most)

-- a field with the range -`most` to `most`
abbrev pub within : ℕ → What → Option ℕ → ℕ → ℕ → Format → NumberField
within most what which from width format = field what which from width format (neg_ℤ (pos most)) (pos most)

-- what is wrong with the number in a field
abbrev pub fault_in : NumberField → Trouble → Fault
fault_in f trouble = record { what = f.what; which = f.which; trouble = trouble }

-- 1. "Frequencies (4X,A5,3X,F13.10,4X,A5), cycles an hour, 0 to 0.4999999999. The second name is ignored."
abbrev pub frequency_name : ℕ
frequency_name = 4

abbrev pub frequency_field : NumberField
frequency_field = up_to most_frequency Frequency None 12 13 (Fixed 10)

-- 2. "Two cards (5F13.10). First: longitudes in cycles, at least 0 and under 1. Second: their increase in 365 days, 0 to 20."
abbrev pub longitude_field : ℕ → NumberField
longitude_field i = up_to 9_999_999_999 Longitude (Some (i + 1)) (13 * i) 13 (Fixed 10)

abbrev pub increase_field : ℕ → NumberField
increase_field i = up_to 200_000_000_000 Increase (Some (i + 1)) (13 * i) 13 (Fixed 10)

abbrev pub five_field : FiveCard → ℕ → NumberField
five_field Longitudes = longitude_field
five_field Increases = increase_field

-- 3. "Main constituents (6X,A5,1X,6I3,F5.2,I4): name; six Doodson numbers, -12 to 12; phase in cycles, -1.00 to 1.00; satellite count, 0 to 16."
abbrev pub main_name : ℕ
main_name = 6

abbrev pub doodson_field : ℕ → NumberField
doodson_field i = within 12 Doodson (Some (i + 1)) (12 + 3 * i) 3 Whole

abbrev pub main_phase_field : NumberField
main_phase_field = within 100 Phase None 30 5 (Fixed 2)

abbrev pub satellite_count_field : NumberField
satellite_count_field = up_to 16 SatelliteCount None 35 4 Whole

-- "Satellites stand three a card, (11X,3(3I3,F4.2,F7.4,1X,I1,1X)): three differences, -9 to 9; phase, -1.00 to 1.00; ratio, 0 to 2.0000; latitude mark."
-- The first column of a card's satellite j, from 0; its fields stand from there.
abbrev pub satellite_column : ℕ → ℕ
satellite_column j = 11 + 23 * j

abbrev pub difference_field : ℕ → ℕ → NumberField
difference_field j i = within 9 Difference (Some (j + 1)) (satellite_column j + 3 * i) 3 Whole

abbrev pub satellite_phase_field : ℕ → NumberField
satellite_phase_field j = within 100 SatellitePhase (Some (j + 1)) (satellite_column j + 9) 4 (Fixed 2)

-- 02, No. 2: "it never passes 20,000 ten-thousandths"
abbrev pub ratio_field : ℕ → NumberField
ratio_field j = up_to 20_000 Ratio (Some (j + 1)) (satellite_column j + 13) 7 (Fixed 4)

abbrev pub mark_column : ℕ → ℕ
mark_column j = satellite_column j + 21

-- the rows of I3: "six Doodson numbers", "three differences" of a card's satellite
abbrev pub row_field : Row → ℕ → NumberField
row_field row.Doodson = doodson_field
row_field (row.Differences j) = difference_field j

-- 4. "Shallow-water constituents (6X,A5,I1,2X,4(F5.2,A5,5X)): name, 1 to 4 parts, each a whole coefficient (-9 to 9, not 0) and a main constituent"
abbrev pub shallow_name : ℕ
shallow_name = 6

abbrev pub part_count_field : NumberField
part_count_field = field PartCount None 11 1 Whole (pos 1) (pos 4)

-- the first column of part j, from 0
abbrev pub part_column : ℕ → ℕ
part_column j = 14 + 15 * j

abbrev pub coefficient_field : ℕ → NumberField
coefficient_field j = within 900 Coefficient (Some (j + 1)) (part_column j) 5 (Fixed 2)

abbrev pub part_name : ℕ → ℕ
part_name j = part_column j + 5
