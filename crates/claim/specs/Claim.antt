-- 01, demand 3: THE CLAIM, as it is proved (proofs/Claim.antt), and what it says of a single height, of a series, of turns, of a year's
-- sheet, of bookings (proofs/AtEachHeight.antt), of hourly cards (proofs/Carded.antt) and of the usual strides (proofs/Usual.antt).
-- Assumes nothing.
use Rattle.std.specs.Prelude.{ℕ, ◌+◌, ◌*◌, ◌<◌, ◌≤◌, Bool, List, [], ◌∷◌, ◌++◌, ◌≡◌, ℤ, pos, nat_abs, ◌-ℤ◌, ◌*ℤ◌, length, get_or, take, drop}
use Rattle.calendar.specs.Calendar.{month_days}
use Rattle.heights.specs.Exact.{Near, NearOver}
use Rattle.refusals.specs.Outcome.{accepted}
use Rattle.station.specs.Station.{Station}
use Rattle.station.specs.Strides.{usual_strides}
use Rattle.hourly.specs.Card.{Entry, value, gap, HourlyCard}
use Rattle.hourly.specs.Format.{narrow}
use Rattle.hourly.specs.Writing.{cards_written}
use Rattle.hourly.specs.Reading.{cards_read}
use Rattle.calls.specs.State.{some, Dated}
use Rattle.calls.specs.Hourly.{month_cards}
use Rattle.calls.specs.Usual.{turns_gives01, year_gives01}
use Rattle.calls.specs.declared.annual.Sheet.{Sheet}
use Rattle.clock.specs.declared.Clock.{Clock}
use Rattle.claim.specs.Document.{Request, Height, Series, Turns, Year, Bookings, Hourly, Gave, predicted, wrote, found, filled, carded, Last, nothing, worked_out, last_constituents, last_year, gives, gives_all, last_after, EachNear}
use Rattle.claim.specs.Calls.{New, Calls}

-- `exactly`: what the calls return and write is what the document gives for the list, all of it and no other: each call accepted or refused
-- by 01's number and place, each height and turn as 01 defines it.
-- `near`: each height among it is within the allowed distance of the exact sum at its own minute, which follows from the card file, the
-- station and the date last accepted before that call, as they were lent.
pub record Claim (qs : List Request) (gs : List Gave) : Type 0 where
  pub exactly : gs ≡ gives_all nothing qs
  pub near : EachNear nothing qs gs

-- "Demand 3 is a single claim about a whole list of calls": it holds of any list, given one after another to a clock that starts with no
-- table, each call known by its contract alone.
abbrev pub OfAnyCalls : Type 2
OfAnyCalls = (c c' : Clock) (qs : List Request) (gs : List Gave) → New c → Calls c qs gs c' → Claim qs gs

-- ---- "The claim covers each height that a call in the list gives": what `near` says of the last call of a list, and every call is the last
-- of those up to it. V, P and Q follow from what the calls before it left.

abbrev Before : List Request → Last
Before qs = last_after nothing qs

-- "a single height at the minute asked"
abbrev pub OfAHeight : Type 0
OfAHeight =
    (qs : List Request) (gs : List Gave) (minute : ℕ) (h : ℤ) → Claim (qs ++ Height minute ∷ []) (gs ++ predicted (accepted h) ∷ [])
    → Near (last_constituents (Before qs)) minute h

-- "a series' height n, from 0, at start + n × step"
abbrev pub OfASeries : Type 0
OfASeries =
    (qs : List Request) (gs : List Gave) (start step : ℕ) (before after : List ℤ)
    → Claim (qs ++ Series start step before ∷ []) (gs ++ wrote (record { returned = accepted tt; heights = after }) ∷ [])
    → (n : ℕ) → n < length after → Near (last_constituents (Before qs)) (start + n * step) (get_or after n (pos 0))

-- "a turn's height at the minute written with it"
abbrev pub OfTurns : Type 0
OfTurns =
    (qs : List Request) (gs : List Gave) (first last : ℕ) (ms ms' : List ℕ) (hs hs' : List ℤ) (count : ℕ) (high : Bool)
    → Claim (qs ++ Turns first last ms hs ∷ []) (gs ++ found (record { returned = accepted (record { count = count; high = high }); minutes = ms'; heights = hs' }) ∷ [])
    → (n : ℕ) → n < count → Near (last_constituents (Before qs)) (get_or ms' n 0) (get_or hs' n (pos 0))

-- 02, No. 1: "Every height on the sheet keeps the distance from its own month's exact sum that a single month has". The series' height n, from 0,
-- belongs to minute start + n × step of the year
abbrev pub OfAYearsSeries : Type 0
OfAYearsSeries =
    (qs : List Request) (gs : List Gave) (sheet : Sheet) (ss ss' : List ℤ) (ms ms' : List ℕ) (hs hs' : List ℤ) (count : ℕ) (high : Bool)
    → Claim (qs ++ Year sheet ss ms hs ∷ []) (gs ++ filled (record { returned = accepted (record { count = count; high = high }); series = ss'; minutes = ms'; heights = hs' }) ∷ [])
    → (n : ℕ) → n < length ss' → NearOver (last_year (Before qs) sheet.year) (sheet.start + n * sheet.step) (get_or ss' n (pos 0))

-- a turn's height to the minute of the year written with it
abbrev pub OfAYearsTurns : Type 0
OfAYearsTurns =
    (qs : List Request) (gs : List Gave) (sheet : Sheet) (ss ss' : List ℤ) (ms ms' : List ℕ) (hs hs' : List ℤ) (count : ℕ) (high : Bool)
    → Claim (qs ++ Year sheet ss ms hs ∷ []) (gs ++ filled (record { returned = accepted (record { count = count; high = high }); series = ss'; minutes = ms'; heights = hs' }) ∷ [])
    → (n : ℕ) → n < count → NearOver (last_year (Before qs) sheet.year) (get_or ms' n 0) (get_or hs' n (pos 0))

-- 02, No. 3: "The height at each place must equal the one that a single request gives for the minute at that place, with its distance"
abbrev pub OfBookings : Type 0
OfBookings =
    (qs : List Request) (gs : List Gave) (minutes : List ℕ) (before after : List ℤ)
    → Claim (qs ++ Bookings minutes before ∷ []) (gs ++ wrote (record { returned = accepted tt; heights = after }) ∷ [])
    → (n : ℕ) → n < length after
    → (predicted (accepted (get_or after n (pos 0))) ≡ gives (Before qs) (Height (get_or minutes n 0)))
    × Near (last_constituents (Before qs)) (get_or minutes n 0) (get_or after n (pos 0))

-- ---- 02, No. 4: hourly cards say a height for each hour of the month

-- the heights on cards, one after another
abbrev pub heights_on : List HourlyCard → List Entry
heights_on [] = []
heights_on (card ∷ cards) = card.heights ++ heights_on cards

-- hour n of the month, from 0, is over at minute 60 × (n + 1), 01:00 being the first: the cards have that minute's height at place n, in
-- centimetres, "the nearest": within half a centimetre of what a single request gives, which keeps its distance
pub record OnCards (l : Last) (cards : List HourlyCard) (n : ℕ) : Type 0 where
  pub height : ℤ
  pub single : predicted (accepted height) ≡ gives l (Height (60 * (n + 1)))
  pub near : Near (last_constituents l) (60 * (n + 1)) height
  pub centimetres : ℤ
  pub stands : get_or (heights_on cards) n gap ≡ value centimetres
  pub nearest : nat_abs (pos 100 *ℤ centimetres -ℤ height) ≤ 50

-- the call returned n and left these bytes in the buffer
pub record Carded (l : Last) (number n : ℕ) (buffer left : List ℕ) : Type 0 where
  -- "Write a prepared month's cards [..] and return how many bytes they take"
  pub month : Dated
  pub prepared : (worked_out l).month ≡ some month
  pub count : n ≡ length (cards_written narrow (month_cards month number))
  pub written : take n left ≡ cards_written narrow (month_cards month number)
  -- "the bytes beyond them unchanged"
  pub beyond : drop n left ≡ drop n buffer
  -- "these cards, read by that format and 01's number rule, give the station number, dates and centimetre heights written"
  pub read : cards_read narrow (take n left) ≡ accepted (month_cards month number)
  pub hours : (hour : ℕ) → hour < 24 * month_days month.year month.month → OnCards l (month_cards month number) hour

abbrev pub OfHourly : Type 0
OfHourly =
    (qs : List Request) (gs : List Gave) (number n : ℕ) (buffer left : List ℕ)
    → Claim (qs ++ Hourly number buffer ∷ []) (gs ++ carded (record { returned = accepted n; buffer = left }) ∷ [])
    → Carded (Before qs) number n buffer left

-- ---- 02, No. 6: "With 180, 30 and 360 every turn is what 01 gives": where the station last accepted has these lengths, a search for turns and
-- a year's sheet give what 01's rule as it stood gives
pub record AsIn01 (l : Last) : Type 0 where
  pub turns : (first last : ℕ) (ms : List ℕ) (hs : List ℤ) → gives l (Turns first last ms hs) ≡ found (turns_gives01 (worked_out l) first last ms hs)
  pub year : (sheet : Sheet) (ss : List ℤ) (ms : List ℕ) (hs : List ℤ) → gives l (Year sheet ss ms hs) ≡ filled (year_gives01 (worked_out l) sheet ss ms hs)

abbrev pub OfUsualStrides : Type 0
OfUsualStrides = (l : Last) (s : Station) → l.station ≡ some s → s.strides ≡ usual_strides → AsIn01 l
