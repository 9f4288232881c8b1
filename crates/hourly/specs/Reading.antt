-- 02, No. 4: bytes "read by that format and 01's number rule": what hourly cards say. A card that cannot be read is refused as 01 refuses a
-- card: its line by 1, a malformed number by 2, a negative number where there is none by 3, with the line as the place.
-- Assumes nothing.
use Rattle.std.specs.Prelude.{ℕ, ◌+◌, cond, not, ◌||◌, List, [], ◌∷◌, pos, negsuc, get_or, drop, replicate}
use Rattle.refusals.specs.Outcome.{Outcome, accepted, refused, refuse_if, ◌>>=◌}
use Rattle.columns.specs.Bytes.{blank, every}
use Rattle.columns.specs.Columns.{columns}
use Rattle.columns.specs.Lines.{lines_of, line_good}
use Rattle.columns.specs.Names.{same}
use Rattle.fields.specs.Number.{Contents, malformed, numeric, contents_of}
use Rattle.fields.specs.declared.Format.TheVariants.{Whole}
use Rattle.hourly.specs.Card.{Entry, value, gap, HourlyCard, full_year}
use Rattle.hourly.specs.Format.{Item, I, X, A, card_format}

-- 01: "A number is blanks, perhaps a minus, digits, blanks." 2 where it is none
abbrev pub number_in : ℕ → Contents → Outcome Entry
number_in place malformed = refused 2 place
number_in place (numeric z) = accepted (value z)

abbrev pub number_read : ℕ → List ℕ → Outcome Entry
number_read place field = number_in place (contents_of Whole field)

-- a height, or (No. 12) "Blank or 9999 in a narrow card, blank or 99999 in a wide one, means missing": nines are bytes 57
abbrev pub height_read : ℕ → ℕ → List ℕ → Outcome Entry
height_read place width field = cond (every blank field || same field (replicate width 57)) (accepted gap) (number_read place field)

-- the entries of the columns that are left of a line, by the items that are left of a format
unfoldable pub read_by : ℕ → List Item → List ℕ → Outcome (List Entry)
read_by place [] left = accepted []
read_by place (X n ∷ items) left = read_by place items (drop n left)
read_by place (I width ∷ items) left = do
  entry ← number_read place (columns left 0 width)
  entries ← read_by place items (drop width left)
  accepted (entry ∷ entries)
read_by place (A width ∷ items) left = do
  entry ← height_read place width (columns left 0 width)
  entries ← read_by place items (drop width left)
  accepted (entry ∷ entries)

-- a number that must be there and is not negative
abbrev pub natural : ℕ → Entry → Outcome ℕ
natural place (value (pos n)) = accepted n
natural place (value (negsuc n)) = refused 3 place
natural place gap = refused 2 place

-- the card of a line's entries
abbrev pub card_of : ℕ → List Entry → Outcome HourlyCard
card_of place entries = do
  number ← natural place (get_or entries 0 gap)
  station ← natural place (get_or entries 1 gap)
  day ← natural place (get_or entries 2 gap)
  month ← natural place (get_or entries 3 gap)
  year ← natural place (get_or entries 4 gap)
  accepted (record { number = number; station = station; day = day; month = month; year = full_year year; heights = drop 5 entries })

-- a line
abbrev pub line_read : ℕ → ℕ → List ℕ → Outcome HourlyCard
line_read width place line = refuse_if (not (line_good line)) 1 place (read_by place (card_format width) line >>= card_of place)

-- lines, the first of them with this number
unfoldable pub lines_read : ℕ → ℕ → List (List ℕ) → Outcome (List HourlyCard)
lines_read width place [] = accepted []
lines_read width place (line ∷ lines) = do
  card ← line_read width place line
  cards ← lines_read width (place + 1) lines
  accepted (card ∷ cards)

-- the cards that bytes hold
abbrev pub cards_read : ℕ → List ℕ → Outcome (List HourlyCard)
cards_read width bytes = lines_read width 1 (lines_of bytes)
