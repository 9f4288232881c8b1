-- 02, No. 4, "Hourly cards for the harbour office": what the call asks and returns, and how it leaves the lent buffer, from the clock's state
-- and what is lent to it.
-- Assumes nothing.
use Rattle.std.specs.Prelude.{ℕ, List, ltb, length}
use Rattle.refusals.specs.Outcome.{Outcome, accepted, refuse_if, ◌>>=◌}
use Rattle.heights.specs.Height.{height_at}
use Rattle.hourly.specs.Card.{HourlyCard}
use Rattle.hourly.specs.Month.{CardsGiven, cards_of, bytes_of, into_buffer, most_station_number}
use Rattle.calls.specs.State.{Maybe, Dated, State}
use Rattle.calls.specs.Asked.{month_asked}

-- "32, station number over 99999"; 33 and 34 are asked of the cards. "They come after the state checks, in that order."
abbrev pub hourly_asked : {T S M : Type 0} → ℕ → Maybe T → Maybe S → Maybe M → Outcome (T × S × M)
hourly_asked number table station month = do
  all ← month_asked table station month
  refuse_if (ltb most_station_number number) 32 0 (accepted all)

-- "a prepared month's cards", from the height at each of its minutes
abbrev pub month_cards : Dated → ℕ → List HourlyCard
month_cards month number = cards_of (height_at month.prepared.constituents) number month.year month.month

-- the bytes of the cards, where so many are lent
unfoldable pub hourly_bytes : State → ℕ → ℕ → Outcome (List ℕ)
hourly_bytes k number places = do
  (table, station, month) ← hourly_asked number k.table k.station k.month
  bytes_of (month_cards month number) places

-- "Write a prepared month's cards .. into a lent buffer, .., and return how many bytes they take."
unfoldable pub hourly_gives : State → ℕ → List ℕ → CardsGiven
hourly_gives k number buffer = into_buffer (hourly_bytes k number (length buffer)) buffer
