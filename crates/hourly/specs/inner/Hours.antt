-- Only inner contracts cite this: the cards of a month's hours, as the code has them: the heights at 01:00 of the 1st and on, an hour apart.
-- Assumes nothing.
use Rattle.std.specs.Prelude.{ℕ, zero, suc, ◌+◌, ◌*◌, ◌/◌, ◌%◌, List, [], ◌∷◌, map, ℤ, take, drop}
use Rattle.calendar.specs.Calendar.{month_days}
use Rattle.hourly.specs.Card.{value, HourlyCard}
use Rattle.hourly.specs.Format.{heights_a_card}
use Rattle.hourly.specs.Month.{centimetres}

-- card i, from 0
abbrev pub card_at : List ℤ → ℕ → ℕ → ℕ → ℕ → HourlyCard
card_at hours station year month i =
    record {
      number = i % 2 + 1;
      station = station;
      day = i / 2 + 1;
      month = month;
      year = year;
      heights = map (λ h. value (centimetres h)) (take heights_a_card (drop (heights_a_card * i) hours));
    }

-- the n cards from card i on
unfoldable pub cards_after : List ℤ → ℕ → ℕ → ℕ → ℕ → ℕ → List HourlyCard
cards_after hours station year month i zero = []
cards_after hours station year month i (suc n) = card_at hours station year month i ∷ cards_after hours station year month (i + 1) n

-- all of them, two a day
abbrev pub cards_in : List ℤ → ℕ → ℕ → ℕ → List HourlyCard
cards_in hours station year month = cards_after hours station year month 0 (2 * month_days year month)
