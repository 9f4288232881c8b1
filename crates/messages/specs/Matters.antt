-- What a refusal of minutes, 01's 9, is about, by the definitions that the calls go by; which refusals have words of their own; and what the place of a
-- card, 02's 33, is. Assumes nothing.
use Rattle.std.specs.Prelude.{ℕ, ◌+◌, ◌-◌, ◌/◌, ◌%◌, Bool, ◌&&◌, Option, None, cond, eqb, ltb}
use Rattle.calendar.specs.Calendar.{month_days, month_minutes}
use Rattle.refusals.specs.Outcome.{number_of}
use Rattle.refusals.specs.declared.Refusal.{Refusal}
use Rattle.calls.specs.Reasons.{series_reason}
use Rattle.calls.specs.declared.reasons.Reason.{Reason}

-- 9, "minutes outside the month or reversed, or step out of range"
abbrev pub of_minutes : Refusal → Bool
of_minutes refusal = eqb (number_of refusal) 9

-- 10, "more turns than the lent buffers hold"
abbrev pub of_room : Refusal → Bool
of_room refusal = eqb (number_of refusal) 10

-- 35, "a stride outside its range"
abbrev pub of_strides : Refusal → Bool
of_strides refusal = eqb (number_of refusal) 35

-- a day that its month lacks
unfoldable pub lacks_day : Refusal → ℕ → ℕ → ℕ → Bool
lacks_day refusal year month day = of_minutes refusal && ltb (month_days year month) day

-- the question that turns down a series in a month, where one does
unfoldable pub series_matter : Refusal → ℕ → ℕ → ℕ → ℕ → ℕ → Option Reason
series_matter refusal year month start step places =
    cond (of_minutes refusal) (series_reason (month_minutes year month) start step places) None

-- 33, "with the first such card as the place, from 1": the day of the card at a place, two cards a day
abbrev pub card_day : ℕ → ℕ
card_day place = (place + 1) / 2

-- and its number, 1 where the place is odd
abbrev pub card_number : ℕ → ℕ
card_number place = 2 - place % 2
