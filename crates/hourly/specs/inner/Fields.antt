-- Only inner contracts cite this: which numbers a field of a width holds, what of a month's hours is within a card's range, and a card's length.
-- Assumes nothing.
use Rattle.std.specs.Prelude.{ℕ, ◌+◌, ◌*◌, ◌/◌, ◌%◌, ◌≤◌, ◌<◌, false, List, [], ◌∷◌, map, ◌≡◌, ℤ, pos, length, get_or, take, drop, replicate}
use Prim.{Unit}
use Rattle.refusals.specs.Outcome.{Outcome, accepted}
use Rattle.hourly.specs.Card.{Entry, value, two_digits}
use Rattle.hourly.specs.Format.{A, heading_format, heights_a_card}
use Rattle.hourly.specs.Month.{centimetres, outside, heights_asked}
use Rattle.hourly.specs.Writing.{text_of, written_by}
use Rattle.hourly.specs.inner.Hours.{cards_after}

-- a number's text is no longer than its field
abbrev pub Fitting : ℕ → ℤ → Type 0
Fitting width z = length (text_of width z) ≤ width

-- so is that of every hour, in centimetres
abbrev pub AllFitting : ℕ → List ℤ → Type 0
AllFitting width hours = (k : ℕ) → k < length hours → Fitting width (centimetres (get_or hours k (pos 0)))

-- the heights of a card, from an hour on, as its entries and as its bytes
abbrev pub entries_at : List ℤ → ℕ → List Entry
entries_at hours first = map (λ h. value (centimetres h)) (take heights_a_card (drop first hours))

abbrev pub heights_written : ℕ → List ℤ → ℕ → List ℕ
heights_written width hours first = written_by (replicate heights_a_card (A width)) (entries_at hours first)

-- the columns before the heights, and what card i, from 0, has there
abbrev pub heading_length : ℕ
heading_length = 20

abbrev pub heading_written : ℕ → ℕ → ℕ → ℕ → List ℕ
heading_written station year month i =
    written_by heading_format
    (value (pos (i % 2 + 1))
    ∷ value (pos station)
    ∷ value (pos (i / 2 + 1))
    ∷ value (pos month)
    ∷ value (pos (two_digits year))
    ∷ [])

-- the bytes of a card: its fields before the heights, the heights, LF
abbrev pub card_length : ℕ → ℕ
card_length width = heading_length + heights_a_card * width + 1

-- what is said of all hours of any month that has them: what is asked of its cards, and that none is outside where it is accepted
pub record HeightsAnswered (hours : List ℤ) (outcome : Outcome Unit) : Type 0 where
  pub asked : (station year month n : ℕ) → length hours ≡ heights_a_card * n → outcome ≡ heights_asked 1 (cards_after hours station year month 0 n)
  pub inside : outcome ≡ accepted tt → (k : ℕ) → k < length hours → outside (value (centimetres (get_or hours k (pos 0)))) ≡ false
