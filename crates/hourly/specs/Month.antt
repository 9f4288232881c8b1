-- 02, No. 4: the hourly cards of a month, from the height at each of its minutes, and what is written of them.
-- Assumes nothing.
use Prim.{Unit}
use Rattle.std.specs.Prelude.{ℕ, zero, suc, ◌+◌, ◌-◌, ◌*◌, Bool, true, false, not, ◌&&◌, ◌||◌, List, [], ◌∷◌, ◌++◌, map, ◌≡◌, ltb, ℤ, pos, neg_ℤ, ◌+ℤ◌, length, drop}
use Rattle.std.specs.Int.Signed.{le_z}
use Rattle.angles.specs.Floor.{floor_div}
use Rattle.calendar.specs.Calendar.{in_range, month_days}
use Rattle.heights.specs.Series.{series_of}
use Rattle.refusals.specs.Outcome.{Outcome, accepted, refuse_if, on_accepted, ◌>>◌, ◌>>=◌}
use Rattle.hourly.specs.Card.{Entry, value, gap, HourlyCard}
use Rattle.hourly.specs.Format.{heights_a_card, narrow}
use Rattle.hourly.specs.Writing.{cards_written}
use Rattle.hourly.specs.Reading.{cards_read}

-- ---- the cards

-- "Heights are in centimetres, the nearest, a half going up", from tenths of a millimetre
abbrev pub centimetres : ℤ → ℤ
centimetres height = floor_div (height +ℤ pos 50) 100

-- "Card 1 has 01:00 to 12:00, card 2 has 13:00 to 24:00": the minute of a card's first hour. 24:00 of a day is the first minute of the next.
abbrev pub first_hour : ℕ → ℕ → ℕ
first_hour day number = (day - 1) * 1_440 + (number - 1) * 720 + 60

-- a card, its heights an hour apart
abbrev pub card_on : (ℕ → ℤ) → ℕ → ℕ → ℕ → ℕ → ℕ → HourlyCard
card_on height station year month day number =
    record {
      number = number;
      station = station;
      day = day;
      month = month;
      year = year;
      heights = map (λ h. value (centimetres h)) (series_of height (first_hour day number) 60 heights_a_card);
    }

-- the cards of so many days from a day on: "earliest hours first"
unfoldable pub cards_from : (ℕ → ℤ) → ℕ → ℕ → ℕ → ℕ → ℕ → List HourlyCard
cards_from height station year month day zero = []
cards_from height station year month day (suc left) =
    card_on height station year month day 1
    ∷ card_on height station year month day 2
    ∷ cards_from height station year month (day + 1) left

-- "a prepared month's cards", its days counted from 1
abbrev pub cards_of : (ℕ → ℤ) → ℕ → ℕ → ℕ → List HourlyCard
cards_of height station year month = cards_from height station year month 1 (month_days year month)

-- ---- what is refused, and what is written

-- "32, station number over 99999"
abbrev pub most_station_number : ℕ
most_station_number = 99_999

-- "a height outside -999 to 9998"
abbrev pub outside : Entry → Bool
outside (value z) = not (le_z (neg_ℤ (pos 999)) z && le_z z (pos 9_998))
outside gap = false

unfoldable pub any_outside : List Entry → Bool
any_outside [] = false
any_outside (entry ∷ entries) = outside entry || any_outside entries

-- "33, a height outside -999 to 9998, with the first such card as the place, from 1": the cards from a place on
unfoldable pub heights_asked : ℕ → List HourlyCard → Outcome Unit
heights_asked place [] = accepted tt
heights_asked place (card ∷ cards) = refuse_if (any_outside card.heights) 33 place (heights_asked (place + 1) cards)

-- "34, buffer too short for the month": so many bytes are lent
abbrev pub room_asked : List ℕ → ℕ → Outcome (List ℕ)
room_asked bytes places = refuse_if (ltb places (length bytes)) 34 0 (accepted bytes)

-- the cards' bytes, where none of their heights and not the room is refused
abbrev pub bytes_of : List HourlyCard → ℕ → Outcome (List ℕ)
bytes_of cards places = heights_asked 1 cards >> room_asked (cards_written narrow cards) places

-- what the call returns, "how many bytes they take", and the lent buffer as it leaves it
pub record CardsGiven : Type 0 where
  pub returned : Outcome ℕ
  pub buffer : List ℕ

-- "into a lent buffer, .., the bytes beyond them unchanged"; refused, it is as it was
abbrev pub into_buffer : Outcome (List ℕ) → List ℕ → CardsGiven
into_buffer new buffer =
    record {
      returned = new >>= λ bytes. accepted (length bytes);
      buffer = on_accepted new (λ bytes. bytes ++ drop (length bytes) buffer) buffer;
    }

-- ---- "these cards, read by that format and 01's number rule, give the station number, dates and centimetre heights written"

-- proved in proofs/ReadBack.antt: of every month in range, every station number that is not refused, and every height at its minutes
abbrev pub ReadsBack : Type 0
ReadsBack =
    (height : ℕ → ℤ) (station year month places : ℕ) (bytes : List ℕ) →
    in_range year month ≡ true → ltb most_station_number station ≡ false →
    bytes_of (cards_of height station year month) places ≡ accepted bytes → cards_read narrow bytes ≡ accepted (cards_of height station year month)
