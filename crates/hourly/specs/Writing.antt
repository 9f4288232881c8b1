-- 02, No. 4: hourly cards as bytes.
-- Assumes nothing.
use Rattle.std.specs.Prelude.{ℕ, zero, suc, ◌+◌, ◌-◌, ◌/◌, ◌%◌, cond, List, [], ◌∷◌, ◌++◌, ltb, ℤ, pos, negsuc, nat_abs, length, replicate}
use Rattle.hourly.specs.Card.{Entry, value, gap, HourlyCard, two_digits}
use Rattle.hourly.specs.Format.{Item, I, X, A, card_format}

-- a number in decimal, in no more than so many digits, which are bytes 48 to 57
unfoldable pub decimal : ℕ → ℕ → List ℕ
decimal zero n = []
decimal (suc most) n = cond (ltb n 10) ((48 + n) ∷ []) (decimal most (n / 10) ++ ((48 + n % 10) ∷ []))

-- "perhaps a minus" (01), which is byte 45
abbrev pub minus_of : ℤ → List ℕ
minus_of (pos n) = []
minus_of (negsuc n) = 45 ∷ []

-- a number as it is written in a field of a width
abbrev pub text_of : ℕ → ℤ → List ℕ
text_of width z = minus_of z ++ decimal width (nat_abs z)

-- "numbers are padded on the left with blanks": the blank is byte 32
abbrev pub pad_left : ℕ → List ℕ → List ℕ
pad_left width text = replicate (width - length text) 32 ++ text

-- what is written in a field of a width. (No. 12: "Missing is written 9999 or 99999")
unfoldable pub entry_written : ℕ → Entry → List ℕ
entry_written width (value z) = pad_left width (text_of width z)
entry_written width gap = replicate width 57

-- entries by a format, one for each field. "Skipped columns are blank"
unfoldable pub written_by : List Item → List Entry → List ℕ
written_by [] entries = []
written_by (X n ∷ items) entries = replicate n 32 ++ written_by items entries
written_by (I width ∷ items) [] = []
written_by (I width ∷ items) (entry ∷ entries) = entry_written width entry ++ written_by items entries
written_by (A width ∷ items) [] = []
written_by (A width ∷ items) (entry ∷ entries) = entry_written width entry ++ written_by items entries

-- a card's entries, in the order of its fields
abbrev pub entries_of : HourlyCard → List Entry
entries_of card =
    value (pos card.number)
    ∷ value (pos card.station)
    ∷ value (pos card.day)
    ∷ value (pos card.month)
    ∷ value (pos (two_digits card.year))
    ∷ card.heights

-- a card with heights of a width; "LF after each", which is byte 10
abbrev pub card_written : ℕ → HourlyCard → List ℕ
card_written width card = written_by (card_format width) (entries_of card) ++ (10 ∷ [])

-- cards one after another
unfoldable pub cards_written : ℕ → List HourlyCard → List ℕ
cards_written width [] = []
cards_written width (card ∷ cards) = card_written width card ++ cards_written width cards
