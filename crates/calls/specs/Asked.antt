-- 01, "Turned down by the state": "State comes first, 21 to 23, then the order 8, 11 or 9, 10": what a call asks first, of a table, a station and
-- a month of any kind, each there or not.
-- Assumes nothing.
use Rattle.std.specs.Prelude.{ℕ, ◌+◌, ◌-◌, ◌*◌, Bool, not, ◌||◌, ltb}
use Rattle.limits.specs.Limits.{most_step}
use Rattle.refusals.specs.Outcome.{Outcome, accepted, refused, refuse_if, ◌>>=◌}
use Rattle.calendar.specs.Calendar.{in_range}
use Rattle.calls.specs.State.{Maybe, none, some}

-- ---- the state: "21 no table; 22 no station; 23 no month"

-- something that must be there
abbrev pub asks : {A : Type 0} → ℕ → Maybe A → Outcome A
asks number none = refused number 0
asks number (some a) = accepted a

-- "A station asks 21"
abbrev pub table_asked : {T : Type 0} → Maybe T → Outcome T
table_asked table = asks 21 table

-- "a month 21 and 22"
abbrev pub station_asked : {T S : Type 0} → Maybe T → Maybe S → Outcome (T × S)
station_asked table station = do
  t ← table_asked table
  s ← asks 22 station
  accepted (t, s)

-- "heights, series and turns all three"
abbrev pub month_asked : {T S M : Type 0} → Maybe T → Maybe S → Maybe M → Outcome (T × S × M)
month_asked table station month = do
  (t, s) ← station_asked table station
  m ← asks 23 month
  accepted (t, s, m)

-- ---- then what is asked of a date: 8, "year or month out of range"

abbrev pub date_asked : {T S : Type 0} → Maybe T → Maybe S → ℕ → ℕ → Outcome (T × S)
date_asked table station year month = do
  both ← station_asked table station
  refuse_if (not (in_range year month)) 8 0 (accepted both)

-- ---- and of minutes: 9, "minutes outside the month or reversed, or step out of range"

abbrev pub minutes_asked : {T S M : Type 0} → (M → Bool) → Maybe T → Maybe S → Maybe M → Outcome (T × S × M)
minutes_asked outside table station month = do
  (t, s, m) ← month_asked table station month
  refuse_if (outside m) 9 0 (accepted (t, s, m))

-- a height's minute, in a month with this last minute
abbrev pub minute_outside : ℕ → ℕ → Bool
minute_outside last minute = ltb last minute

-- the minute of the last of n places: "height n, from 0, at start + n × step". "The start is checked even with no place lent."
abbrev pub last_minute : ℕ → ℕ → ℕ → ℕ
last_minute start step places = start + (places - 1) * step

-- "a step of 1 to 1,440 minutes"
abbrev pub step_outside : ℕ → Bool
step_outside step = ltb step 1 || ltb most_step step

-- a series' minutes
abbrev pub series_outside : ℕ → ℕ → ℕ → ℕ → Bool
series_outside last start step places = ltb last start || step_outside step || ltb last (last_minute start step places)

-- the first and the last minute of a search for turns, in a month that ends at a minute
abbrev pub turns_outside : ℕ → ℕ → ℕ → Bool
turns_outside end first last = ltb end last || ltb last first
