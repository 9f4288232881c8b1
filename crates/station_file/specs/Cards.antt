-- 001, section 3.3: the cards of the station file. Lines, blank cards, names and number fields are as 01 says of the card file, and so are the refusals:
-- "Cards go line by line, 1 first, then fields left to right, each 2, 3, 4, 5".
-- Assumes nothing.
use Rattle.std.specs.Prelude.{ℕ, ◌+◌, ◌*◌, List, Bool, true, false, cond, ◌&&◌, ◌||◌, eqb, ℤ, nat_abs}
use Rattle.limits.specs.Limits.{most_records}
use Rattle.columns.specs.Bytes.{blank}
use Rattle.columns.specs.Columns.{column, columns}
use Rattle.columns.specs.Names.{place_of}
use Rattle.fields.specs.Number.{signed}
use Rattle.refusals.specs.Checked.{good, bad, ◌>>=◌}
use Rattle.card.specs.declared.faults.What.TheVariants.{Mark}
use Rattle.card.specs.declared.faults.Trouble.TheVariants.{BadMark, SouthTwice, TooManyRecords}
use Rattle.card.specs.Faults.{only}
use Rattle.card.specs.Card.{Card, number, place_found, Next, next_card, due_card}
use Rattle.station.specs.declared.records.Record.{Record}
use Rattle.station_file.specs.Formats.{degrees_field, minutes_field, minus_column, degrees_column, latitude_mark_column, second_mark_column, constituent_name, amplitude_field, phase_field}

-- S (byte 83) or s (byte 115)
abbrev pub south_letter : ℕ → Bool
south_letter byte = eqb byte 83 || eqb byte 115

-- N (byte 78) or n (byte 110)
abbrev pub north_letter : ℕ → Bool
north_letter byte = eqb byte 78 || eqb byte 110

-- "The two skipped columns behind the minutes [..] take blanks and at most one letter, N, S, n or s"
abbrev pub mark_good : ℕ → ℕ → Bool
mark_good first second =
    cond (blank second) (blank first || south_letter first || north_letter first) (blank first && (south_letter second || north_letter second))

-- "a minus before the degrees" (byte 45): in the column before them, or in their first
abbrev pub minus_before : List ℕ → Bool
minus_before line = eqb (column line minus_column) 45 || eqb (column line degrees_column) 45

-- an S or s in one of the two columns
abbrev pub south_mark : ℕ → ℕ → Bool
south_mark first second = south_letter first || south_letter second

-- south by a minus or by an S; "refused by 3 [..] is an S beside a minus"
abbrev pub side_of : Bool → Bool → Card Bool
side_of true true = bad (only Mark SouthTwice)
side_of true false = good true
side_of false mark = good mark

-- whether the latitude on a station card is south: "any other byte there is refused by 3"
unfoldable pub is_south : List ℕ → Card Bool
is_south line =
    cond (mark_good (column line latitude_mark_column) (column line second_mark_column))
    (side_of (minus_before line) (south_mark (column line latitude_mark_column) (column line second_mark_column)))
    (bad (only Mark BadMark))

-- "LAD, LAM = station latitude in degrees and minutes", together in minutes
abbrev pub in_minutes : ℕ → ℕ → ℕ
in_minutes degrees minutes = 60 * degrees + minutes

-- the latitude on a station card, in minutes: degrees, minutes, the mark behind them
unfoldable pub latitude_fields : List ℕ → Card ℤ
latitude_fields line = do
  d ← number line degrees_field
  m ← number line minutes_field
  south ← is_south line
  good (signed south (in_minutes (nat_abs d) (nat_abs m)))

-- the station card
unfoldable pub station_card : List ℕ → Card ℤ
station_card line = due_card line (latitude_fields line)

-- the record on a constituent card: its name's place among the frequencies' names, amplitude, phase lag. "5 [..] place not in the table"
unfoldable pub record_fields : List (List ℕ) → List ℕ → Card Record
record_fields names line = do
  place ← place_found (place_of (columns line constituent_name 5) names)
  amplitude ← number line amplitude_field
  phase ← number line phase_field
  good (record { place = place; amplitude = nat_abs amplitude; phase = nat_abs phase })

-- the next constituent card, after so many; "at most 146 constituents": a card past 146 is 6 before its fields
unfoldable pub next_record : List (List ℕ) → ℕ → List ℕ → Next Record
next_record names before line = next_card most_records TooManyRecords before line (record_fields names line)
