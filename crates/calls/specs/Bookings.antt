-- 02, No. 3, "A day's bookings answered together": what the call asks and returns, and how it leaves the lent heights, from the clock's state and
-- what is lent to it.
-- Assumes nothing.
use Prim.{Unit}
use Rattle.std.specs.Prelude.{ℕ, ◌+◌, not, List, [], ◌∷◌, map, ◌≡◌, eqb, ℤ, length}
use Rattle.refusals.specs.Outcome.{Outcome, accepted, refuse_if, ◌>>=◌, ◌>>◌}
use Rattle.heights.specs.Height.{height_at}
use Rattle.calls.specs.State.{Maybe, Dated, State}
use Rattle.calls.specs.Asked.{month_asked, minute_outside}
use Rattle.calls.specs.Calls.{SeriesGiven, filled, height_returns}

-- "9 at the first minute outside the month, its place counted from 1": the minutes from a place on, in a month with this last minute
unfoldable pub minutes_from : ℕ → ℕ → List ℕ → Outcome Unit
minutes_from last place [] = accepted tt
minutes_from last place (minute ∷ minutes) = refuse_if (minute_outside last minute) 9 place (minutes_from last (place + 1) minutes)

-- "31, the two lent buffers differ in length, after the state checks; then 9": so many places are lent for the heights
abbrev pub bookings_asked : {T S M : Type 0} → (M → ℕ) → List ℕ → ℕ → Maybe T → Maybe S → Maybe M → Outcome (T × S × M)
bookings_asked last minutes places table station month = do
  (t, s, m) ← month_asked table station month
  refuse_if (not (eqb (length minutes) places)) 31 0 (minutes_from (last m) 1 minutes >> accepted (t, s, m))

-- "a list of minutes, in any order and with repeats, and wants all heights back in one call": at each place the height at its minute. "An empty
-- list is accepted."
unfoldable pub bookings_heights : State → List ℕ → ℕ → Outcome (List ℤ)
bookings_heights k minutes places = do
  (table, station, month) ← bookings_asked (λ (month : Dated). month.prepared.last) minutes places k.table k.station k.month
  accepted (map (height_at month.prepared.constituents) minutes)

-- "From here on a refusal writes nothing"
unfoldable pub bookings_gives : State → List ℕ → List ℤ → SeriesGiven
bookings_gives k minutes heights = filled (bookings_heights k minutes (length heights)) heights

-- "The height at each place must equal the one that a single request gives for the minute at that place": proved in calls/proofs/Singly.antt
abbrev pub AsSingleRequests : Type 0
AsSingleRequests =
    (k : State) (minutes : List ℕ) (places : ℕ) (heights : List ℤ) →
    bookings_heights k minutes places ≡ accepted heights → map (height_returns k) minutes ≡ map accepted heights
