-- 01, "Heights and turns", demand 3, and 02, No. 1, 3, 4 and 6: what the documents say of a list of calls. Over the calls alone, with all that is lent to them:
-- no clock, and nothing that a program keeps.
-- Assumes nothing.
use Prim.{Unit}
use Rattle.std.specs.Prelude.{ℕ, ◌+◌, List, [], ◌∷◌, ◌++◌, take, ℤ}
use Rattle.refusals.specs.Outcome.{Outcome, on_accepted, ◌>>=◌}
use Rattle.table.specs.Table.{Table}
use Rattle.card_file.specs.Cards.{cards_outcome}
use Rattle.station.specs.Station as station
use Rattle.month_prepared.specs.Prepared.{Constituent, Month}
use Rattle.year.specs.Year.{year_of}
use Rattle.heights.specs.Exact.{NearOver}
use Rattle.calls.specs.State.{Maybe, none, some, Dated, State}
use Rattle.calls.specs.Names.{names_in}
use Rattle.turns.specs.Written.{TurnsFound, TurnsGiven}
use Rattle.calls.specs.Calls.{cards_returns, station_returns, date_gives, date_returns, height_returns, SeriesGiven, series_gives, turns_gives}
use Rattle.calls.specs.declared.annual.Sheet.{Sheet}
use Rattle.calls.specs.Year.{year_asked, YearGiven, year_gives}
use Rattle.calls.specs.Bookings.{bookings_gives}
use Rattle.hourly.specs.Month.{CardsGiven}
use Rattle.calls.specs.Hourly.{hourly_gives}

-- "The calls are a card file, a station, a date, a height, a series and turns", each with all that is lent to it; "A call that a change request
-- adds to the clock joins the list": 02's year, its bookings, "a list of minutes, in any order and with repeats", and its hourly cards under a station
-- number; and, though it is no call of the papers and gives nothing of the tide, the clock's handing out of names
pub data Request : Type 0 where
  Cards : List ℕ → Request
  Station : station.Station → Request
  Date : ℕ → ℕ → Request
  Height : ℕ → Request
  Series : ℕ → ℕ → List ℤ → Request
  Turns : ℕ → ℕ → List ℕ → List ℤ → Request
  Year : Sheet → List ℤ → List ℕ → List ℤ → Request
  Bookings : List ℕ → List ℤ → Request
  Hourly : ℕ → List ℕ → Request
  Names : Request

-- what a call gives: what it returns, and its lent buffers as it leaves them
pub data Gave : Type 0 where
  told : Outcome Unit → Gave
  predicted : Outcome ℤ → Gave
  wrote : SeriesGiven → Gave
  found : TurnsGiven → Gave
  filled : YearGiven → Gave
  carded : CardsGiven → Gave
  named : List (List ℕ) → Gave

-- a date as it is lent
pub record Day : Type 0 where
  pub year : ℕ
  pub month : ℕ

-- the card file, the station and the date last accepted, "as lent when accepted"
pub record Last : Type 0 where
  pub cards : Maybe (List ℕ)
  pub station : Maybe station.Station
  pub date : Maybe Day

-- "The first gets a clock with no table, station or month."
abbrev pub nothing : Last
nothing = record { cards = none; station = none; date = none }

-- ---- what follows from these, "by the rules of this document"

abbrev pub table_of_cards : Maybe (List ℕ) → Maybe Table
table_of_cards none = none
table_of_cards (some file) = on_accepted (cards_outcome file) (λ table. some table) none

abbrev pub month_on : Maybe Table → Maybe station.Station → Maybe Day → Maybe Dated
month_on t s none = none
month_on t s (some day) = on_accepted (date_gives t s day.year day.month) (λ month. some month) none

unfoldable pub worked_out : Last → State
worked_out l =
    record {
      table = table_of_cards l.cards;
      station = l.station;
      month = month_on (table_of_cards l.cards) l.station l.date;
    }

-- ---- one call after another

-- "An accepted card file leaves its table, with no station and no month; an accepted station keeps the table and leaves itself, with no
-- month; an accepted date keeps both [..]. Heights, series, turns and every refused call leave all three as they were."
unfoldable pub after : Last → Request → Last
after l (Cards file) = on_accepted (cards_returns file) (λ _. record { cards = some file; station = none; date = none }) l
after l (Station s) =
    on_accepted (station_returns (worked_out l) s)
    (λ _. record { cards = l.cards; station = some s; date = none }) l
after l (Date year month) =
    on_accepted (date_returns (worked_out l) year month)
    (λ _. record { cards = l.cards; station = l.station; date = some (record { year = year; month = month }) }) l
after l (Height minute) = l
after l (Series start step heights) = l
after l (Turns first end minutes heights) = l
-- "the prepared month stays, whether the year is given or refused"
after l (Year sheet series minutes heights) = l
-- "a call that a request adds leaves table, station and month as they were"
after l (Bookings minutes heights) = l
after l (Hourly number buffer) = l
after l Names = l

-- what the document gives for a call, from what was last accepted before it
unfoldable pub gives : Last → Request → Gave
gives l (Cards file) = told (cards_returns file)
gives l (Station s) = told (station_returns (worked_out l) s)
gives l (Date year month) = told (date_returns (worked_out l) year month)
gives l (Height minute) = predicted (height_returns (worked_out l) minute)
gives l (Series start step heights) = wrote (series_gives (worked_out l) start step heights)
gives l (Turns first end minutes heights) = found (turns_gives (worked_out l) first end minutes heights)
gives l (Year sheet series minutes heights) = filled (year_gives (worked_out l) sheet series minutes heights)
gives l (Bookings minutes heights) = wrote (bookings_gives (worked_out l) minutes heights)
gives l (Hourly number buffer) = carded (hourly_gives (worked_out l) number buffer)
gives l Names = named (names_in (worked_out l))

-- what it gives for each call of a list, the first one first
unfoldable pub gives_all : Last → List Request → List Gave
gives_all l [] = []
gives_all l (q ∷ qs) = gives l q ∷ gives_all (after l q) qs

-- what was last accepted after a list of calls
unfoldable pub last_after : Last → List Request → Last
last_after l [] = l
last_after l (q ∷ qs) = last_after (after l q) qs

-- ---- the distance of each height given from the exact sum at its own minute

pub record Point : Type 0 where
  pub minute : ℕ
  pub height : ℤ

-- "a single height at the minute asked"
abbrev pub height_points : ℕ → Outcome ℤ → List Point
height_points minute returned = on_accepted returned (λ h. record { minute = minute; height = h } ∷ []) []

-- "a series' height n, from 0, at start + n × step"
unfoldable pub points_from : ℕ → ℕ → List ℤ → List Point
points_from minute step [] = []
points_from minute step (h ∷ hs) = record { minute = minute; height = h } ∷ points_from (minute + step) step hs

abbrev pub series_points : {A : Type 0} → ℕ → ℕ → Outcome A → List ℤ → List Point
series_points start step returned heights = on_accepted returned (λ _. points_from start step heights) []

-- "a turn's height at the minute written with it"
unfoldable pub points_of : List ℕ → List ℤ → List Point
points_of [] hs = []
points_of (m ∷ ms) [] = []
points_of (m ∷ ms) (h ∷ hs) = record { minute = m; height = h } ∷ points_of ms hs

abbrev pub turns_points : Outcome TurnsFound → List ℕ → List ℤ → List Point
turns_points returned minutes heights = on_accepted returned (λ f. points_of (take f.count minutes) (take f.count heights)) []

-- "Every height on the sheet": those of the series and those of the turns, at minutes "counted from 1 January"
abbrev pub sheet_points : Sheet → YearGiven → List Point
sheet_points sheet y =
    series_points sheet.start sheet.step y.returned y.series ++ turns_points y.returned y.minutes y.heights

-- "The height at each place must equal the one that a single request gives for the minute at that place, with its distance"
abbrev pub bookings_points : {A : Type 0} → List ℕ → Outcome A → List ℤ → List Point
bookings_points minutes returned heights = on_accepted returned (λ _. points_of minutes heights) []

-- the heights in what was given, by its kind: one that is returned, those that are written, those of turns, those of a year's sheet. Hourly cards have
-- centimetres, for which 02 states no distance (what is said of them: `OfHourly` in `Claim`)
abbrev pub points_by : (Outcome ℤ → List Point) → (SeriesGiven → List Point) → (TurnsGiven → List Point) → (YearGiven → List Point) → Gave → List Point
points_by height heights turns sheet (told r) = []
points_by height heights turns sheet (predicted r) = height r
points_by height heights turns sheet (wrote s) = heights s
points_by height heights turns sheet (found t) = turns t
points_by height heights turns sheet (filled y) = sheet y
points_by height heights turns sheet (carded c) = []
points_by height heights turns sheet (named names) = []

abbrev no : {A : Type 0} → A → List Point
no given = []

-- "The claim covers each height that a call in the list gives"
abbrev pub points : Request → Gave → List Point
points (Cards file) = no
points (Station s) = no
points (Date year month) = no
points (Height minute) = points_by (height_points minute) no no no
points (Series start step heights) = points_by no (λ s. series_points start step s.returned s.heights) no no
points (Turns first end minutes heights) = points_by no no (λ t. turns_points t.returned t.minutes t.heights) no
points (Year sheet series minutes heights) = points_by no no no (sheet_points sheet)
points (Bookings minutes heights) = points_by no (λ s. bookings_points minutes s.returned s.heights) no no
points (Hourly number buffer) = no
points Names = no

-- V, P and Q of the station's constituents, worked out from what was last accepted
abbrev pub constituents_there : Maybe Dated → List Constituent
constituents_there none = []
constituents_there (some month) = month.prepared.constituents

abbrev pub last_constituents : Last → List Constituent
last_constituents l = constituents_there (worked_out l).month

-- the prepared month alone, where there is one
abbrev pub prepared_month : Maybe Dated → List Month
prepared_month none = []
prepared_month (some month) = month.prepared ∷ []

-- "Each month uses its own weights": the months of a year, from the cards and the station last accepted; none where the year is refused
abbrev pub months_on : Maybe Table → Maybe station.Station → ℕ → List Month
months_on t s year = on_accepted (year_asked t s year >>= λ (table, station). year_of table station year) (λ months. months) []

abbrev pub last_year : Last → ℕ → List Month
last_year l year = months_on (worked_out l).table (worked_out l).station year

-- the months that the heights of a call belong to: the year's own for a year's sheet, else the prepared one
abbrev pub months_for : Last → Request → List Month
months_for l (Cards file) = prepared_month (worked_out l).month
months_for l (Station s) = prepared_month (worked_out l).month
months_for l (Date year month) = prepared_month (worked_out l).month
months_for l (Height minute) = prepared_month (worked_out l).month
months_for l (Series start step heights) = prepared_month (worked_out l).month
months_for l (Turns first end minutes heights) = prepared_month (worked_out l).month
months_for l (Year sheet series minutes heights) = last_year l sheet.year
months_for l (Bookings minutes heights) = prepared_month (worked_out l).month
months_for l (Hourly number buffer) = prepared_month (worked_out l).month
months_for l Names = prepared_month (worked_out l).month

-- each point near the exact sum of the month that owns its minute
pub data AllNear (months : List Month) : List Point → Type 0 where
  nil : AllNear months []
  cons : {p : Point} {ps : List Point} → NearOver months p.minute p.height → AllNear months ps → AllNear months (p ∷ ps)

-- each height that a call of the list gives, near the exact sum that follows from what was last accepted before that call
pub data EachNear : Last → List Request → List Gave → Type 0 where
  end : {l : Last} → EachNear l [] []
  next : {l : Last} {q : Request} {qs : List Request} {g : Gave} {gs : List Gave}
      → AllNear (months_for l q) (points q g) → EachNear (after l q) qs gs → EachNear l (q ∷ qs) (g ∷ gs)
