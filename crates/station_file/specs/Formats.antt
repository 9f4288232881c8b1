-- 001, section 3.3: the columns of the station file's two cards, as their format statements lay them out. Columns are counted from 0.
-- Cards are read by these descriptions alone: the station number, the longitude, skipped columns and columns past the format are ignored.
-- Assumes nothing.
use Rattle.std.specs.Prelude.{ℕ, None}
use Rattle.fields.specs.declared.Format.TheVariants.{Whole, Fixed}
use Rattle.card.specs.declared.faults.What.TheVariants.{Degrees, Minutes, Amplitude, PhaseLag}
use Rattle.card.specs.declared.formats.NumberField.{NumberField}
use Rattle.card.specs.Formats.{up_to, within}

-- (iv) "One card with the tidal station information [..] (5X, I4, 1X, 3A6, A4, A3, 1X, I2, 1X, I2, 2X, I3, 1X, I2)": number, name, time zone,
-- latitude in degrees and minutes, longitude. The name is 3A6,A4: 22 columns.
abbrev pub name_column : ℕ
name_column = 10

abbrev pub name_width : ℕ
name_width = 22

-- the time zone, A3
abbrev pub zone_column : ℕ
zone_column = 32

abbrev pub zone_width : ℕ
zone_width = 3

-- the latitude's degrees, I2: any number that two columns hold. The clock asks whether the latitude is one.
abbrev pub degrees_column : ℕ
degrees_column = 36

abbrev pub degrees_field : NumberField
degrees_field = within 99 Degrees None degrees_column 2 Whole

-- the latitude's minutes, I2: 0 to 59
abbrev pub minutes_field : NumberField
minutes_field = up_to 59 Minutes None 39 2 Whole

-- The manual's latitudes are north. South is marked in skipped columns or in the degrees: the column before these, and the two behind the minutes
-- ("42 and 43", counted from 1; "the longitude begins at 44").
abbrev pub minus_column : ℕ
minus_column = 35

abbrev pub latitude_mark_column : ℕ
latitude_mark_column = 41

abbrev pub second_mark_column : ℕ
second_mark_column = 42

-- (v) "One card for each constituent [..] with the constituent name (KON), amplitude (AMP) and phase lag (G) in the format (5X,A5,28X,F8.4,F7.2)"
abbrev pub constituent_name : ℕ
constituent_name = 5

-- a record carries any number of 32 bits, and the clock asks for its range
abbrev pub most_carried : ℕ
most_carried = 4_294_967_295

-- metres with four decimals are tenths of a millimetre
abbrev pub amplitude_field : NumberField
amplitude_field = up_to most_carried Amplitude None 38 8 (Fixed 4)

-- degrees with two decimals are hundredths
abbrev pub phase_field : NumberField
phase_field = up_to most_carried PhaseLag None 46 7 (Fixed 2)
