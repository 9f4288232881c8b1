-- Document 01's limits, each here alone.
-- Assumes nothing.
use Rattle.std.specs.Prelude.{ℕ}

-- 01, The card file: "At most 160 frequencies .., 64 mains, 256 satellites, 128 shallow."
abbrev pub most_frequencies : ℕ
most_frequencies = 160

abbrev pub most_mains : ℕ
most_mains = 64

abbrev pub most_satellites : ℕ
most_satellites = 256

abbrev pub most_shallows : ℕ
most_shallows = 128

-- "a place is one byte, from 0, in their order"
abbrev pub places_in_a_byte : ℕ
places_in_a_byte = 256

-- 01, Satellites and weights: "at most 146 constituents", each a record
abbrev pub most_records : ℕ
most_records = 146

-- 01, The card file: lines "have at most 80 columns"
abbrev pub most_columns : ℕ
most_columns = 80

-- "Satellites stand three a card"
abbrev pub satellites_a_card : ℕ
satellites_a_card = 3

-- of a shallow-water constituent's coefficients "sizes add up to at most 12"
abbrev pub most_sizes : ℕ
most_sizes = 12

-- 01, Heights and turns: "Minutes run from 0 to days × 1,440 inclusive": no month's last minute is later
abbrev pub most_minutes : ℕ
most_minutes = 44_640

-- ".. cycles an hour, 0 to 0.4999999999", in 10^-10 cycle
abbrev pub most_frequency : ℕ
most_frequency = 4_999_999_999

-- 01, Satellites and weights: "a latitude in signed minutes, -5,400 to 5,400"
abbrev pub most_latitude : ℕ
most_latitude = 5_400

-- "Amplitude is 0 to 65,535 tenths of a millimetre, phase lag 0 to 35,999 hundredths of a degree."
abbrev pub most_amplitude : ℕ
most_amplitude = 65_535

abbrev pub most_phase : ℕ
most_phase = 35_999

-- 02, No. 6: "three stride lengths in minutes, .. each 1 to 720"
abbrev pub most_stride : ℕ
most_stride = 720

-- 01, Heights and turns: "a step of 1 to 1,440 minutes"
abbrev pub most_step : ℕ
most_step = 1_440
