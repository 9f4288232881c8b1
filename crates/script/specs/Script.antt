-- docs/FORMATS.md, "The list of calls that `replay` plays": one line of a script, without its LF, as the call, the record or the minute that it says; none where it is not of the form.
use Rattle.std.specs.Prelude.{ℕ, ◌-◌, ◌^◌, List, [], ◌∷◌, Bool, false, cond, eqb, ℤ, pos, neg_ℤ, Option, Some, None}
use Rattle.columns.specs.Names.{same}
use Rattle.station.specs.Strides.{usual_strides}
use Rattle.script.specs.Words.{words, largest, reading, onward, last_number, given, last_two, given_two}
use Rattle.script.specs.declared.Call.{Call}
use Rattle.script.specs.declared.Call.TheVariants.{Cards, Station, Date, Height, Series, Turns, Year, Bookings, Hourly}
use Rattle.station.specs.declared.records.Record.{Record}

-- ---- the calls, from the words behind the first

-- "cards BYTES"
unfoldable pub cards_of : List (List ℕ) → Option Call
cards_of ws = given None (last_number ws) (λ bytes. Some (Cards bytes))

-- a latitude's minus is byte 45
abbrev pub has_minus : List (List ℕ) → Bool
has_minus [] = false
has_minus ([] ∷ ws) = false
has_minus ((b ∷ bs) ∷ ws) = eqb b 45

-- the words without the first byte of the first
abbrev pub behind_minus : List (List ℕ) → List (List ℕ)
behind_minus [] = []
behind_minus ([] ∷ ws) = [] ∷ ws
behind_minus ((b ∷ bs) ∷ ws) = bs ∷ ws

-- "SEMIDIURNAL MIXED DIURNAL", behind a station's count
unfoldable pub with_strides : ℤ → ℕ → List (List ℕ) → Option Call
with_strides latitude count ws =
    onward None (reading largest ws) (λ semidiurnal ws.
    onward None (reading largest ws) (λ mixed ws.
    given None (last_number ws) (λ diurnal.
    Some (Station latitude count (record { semidiurnal = semidiurnal; mixed = mixed; diurnal = diurnal })))))

-- "The line with two numbers stays and means 180 30 360"
abbrev pub behind_count : ℤ → ℕ → List (List ℕ) → Option Call
behind_count latitude count [] = Some (Station latitude count usual_strides)
behind_count latitude count (w ∷ ws) = with_strides latitude count (w ∷ ws)

unfoldable pub station_at : ℤ → List (List ℕ) → Option Call
station_at latitude ws = onward None (reading largest ws) (λ count ws. behind_count latitude count ws)

-- "station LATITUDE COUNT" and "station LATITUDE COUNT SEMIDIURNAL MIXED DIURNAL": "A minus may stand before a latitude only", "a signed 32-bit number"
unfoldable pub station_of : List (List ℕ) → Option Call
station_of ws =
    cond (has_minus ws)
    (onward None (reading (2 ^ 31) (behind_minus ws)) (λ n ws. station_at (neg_ℤ (pos n)) ws))
    (onward None (reading (2 ^ 31 - 1) ws) (λ n ws. station_at (pos n) ws))

-- "date YEAR MONTH"
unfoldable pub date_of : List (List ℕ) → Option Call
date_of ws = given_two None (last_two ws) (λ year month. Some (Date year month))

-- "height MINUTE"
unfoldable pub height_of : List (List ℕ) → Option Call
height_of ws = given None (last_number ws) (λ minute. Some (Height minute))

-- "series START STEP COUNT"
unfoldable pub series_of : List (List ℕ) → Option Call
series_of ws =
    onward None (reading largest ws) (λ start ws.
    onward None (reading largest ws) (λ step ws.
    given None (last_number ws) (λ count. Some (Series start step count))))

-- "turns FIRST LAST MINUTES HEIGHTS"
unfoldable pub turns_of : List (List ℕ) → Option Call
turns_of ws =
    onward None (reading largest ws) (λ first ws.
    onward None (reading largest ws) (λ last ws.
    onward None (reading largest ws) (λ minutes ws.
    given None (last_number ws) (λ heights. Some (Turns first last minutes heights)))))

-- "FIRST LAST MINUTES HEIGHTS", behind the numbers of a year's series
unfoldable pub year_search_of : ℕ → ℕ → ℕ → ℕ → List (List ℕ) → Option Call
year_search_of year start step count ws =
    onward None (reading largest ws) (λ first ws.
    onward None (reading largest ws) (λ last ws.
    onward None (reading largest ws) (λ minutes ws.
    given None (last_number ws) (λ heights.
    Some (Year (record { year = year; start = start; step = step; count = count; first = first; last = last; minutes = minutes; heights = heights }))))))

-- "year YEAR START STEP COUNT FIRST LAST MINUTES HEIGHTS"
unfoldable pub year_of : List (List ℕ) → Option Call
year_of ws =
    onward None (reading largest ws) (λ year ws.
    onward None (reading largest ws) (λ start ws.
    onward None (reading largest ws) (λ step ws.
    onward None (reading largest ws) (λ count ws. year_search_of year start step count ws))))

-- "bookings COUNT HEIGHTS"
unfoldable pub bookings_of : List (List ℕ) → Option Call
bookings_of ws = given_two None (last_two ws) (λ count heights. Some (Bookings count heights))

-- "hourly STATION BYTES"
unfoldable pub hourly_of : List (List ℕ) → Option Call
hourly_of ws = given_two None (last_two ws) (λ station bytes. Some (Hourly station bytes))

-- the words of the calls, letter by letter
abbrev pub cards_word : List ℕ
cards_word = 99 ∷ 97 ∷ 114 ∷ 100 ∷ 115 ∷ []

abbrev pub station_word : List ℕ
station_word = 115 ∷ 116 ∷ 97 ∷ 116 ∷ 105 ∷ 111 ∷ 110 ∷ []

abbrev pub date_word : List ℕ
date_word = 100 ∷ 97 ∷ 116 ∷ 101 ∷ []

abbrev pub height_word : List ℕ
height_word = 104 ∷ 101 ∷ 105 ∷ 103 ∷ 104 ∷ 116 ∷ []

abbrev pub series_word : List ℕ
series_word = 115 ∷ 101 ∷ 114 ∷ 105 ∷ 101 ∷ 115 ∷ []

abbrev pub turns_word : List ℕ
turns_word = 116 ∷ 117 ∷ 114 ∷ 110 ∷ 115 ∷ []

abbrev pub year_word : List ℕ
year_word = 121 ∷ 101 ∷ 97 ∷ 114 ∷ []

abbrev pub bookings_word : List ℕ
bookings_word = 98 ∷ 111 ∷ 111 ∷ 107 ∷ 105 ∷ 110 ∷ 103 ∷ 115 ∷ []

abbrev pub hourly_word : List ℕ
hourly_word = 104 ∷ 111 ∷ 117 ∷ 114 ∷ 108 ∷ 121 ∷ []

-- "Each call is a line: a word, then decimal numbers"
unfoldable pub call_of_words : List (List ℕ) → Option Call
call_of_words [] = None
call_of_words (w ∷ ws) =
    cond (same w cards_word) (cards_of ws)
    (cond (same w station_word) (station_of ws)
    (cond (same w date_word) (date_of ws)
    (cond (same w height_word) (height_of ws)
    (cond (same w series_word) (series_of ws)
    (cond (same w turns_word) (turns_of ws)
    (cond (same w year_word) (year_of ws)
    (cond (same w bookings_word) (bookings_of ws)
    (cond (same w hourly_word) (hourly_of ws) None))))))))

abbrev pub call_of : List ℕ → Option Call
call_of line = call_of_words (words line)

-- ---- the lines behind a station's

-- "COUNT lines: PLACE AMPLITUDE PHASE", "PLACE one byte"
unfoldable pub record_of_words : List (List ℕ) → Option Record
record_of_words ws =
    onward None (reading 255 ws) (λ place ws.
    onward None (reading largest ws) (λ amplitude ws.
    given None (last_number ws) (λ phase. Some (record { place = place; amplitude = amplitude; phase = phase }))))

abbrev pub record_of : List ℕ → Option Record
record_of line = record_of_words (words line)

-- ---- the lines behind a list of bookings

-- "COUNT lines, a minute each": one number, and nothing behind it
abbrev pub minute_of : List ℕ → Option ℕ
minute_of line = last_number (words line)
