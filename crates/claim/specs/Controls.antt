-- The claim speaks of something: each of its premises can be met. Whatever meets what a function of the clock ensures is a call of it, with
-- any values, any buffers and any lent clock; and there are lists with each kind of call in them. (proofs/Backed.antt. That the clock's own
-- functions make such calls, accepted ones too, is shown of their runs: crate claim_runs.)
-- Assumes nothing.
use Prim.{Unit}
use Rattle.std.specs.Prelude.{ℕ, List, [], ◌∷◌, ◌++◌, ◌≡◌, ℤ, pos, Result}
use Rattle.refusals.specs.Outcome.{refused, outcome_of}
use Rattle.refusals.specs.declared.Refused.{Refused}
use Rattle.columns.specs.Names.{names_from}
use Rattle.station.specs.declared.strides.Strides.{Strides}
use Rattle.station.specs.declared.records.Rows.{Rows}
use Rattle.station.specs.Records.{records_of}
use Rattle.station.specs.Station as stations
use Rattle.station.specs.Station.{station_lent}
use Rattle.hourly.specs.Answers.{cards_returned}
use Rattle.calls.specs.declared.annual.Sheet.{Sheet}
use Rattle.clock.specs.declared.Clock.{Clock}
use Rattle.turns.specs.declared.search.Summary.{Summary}
use Rattle.clock.specs.declared.TableNames.{TableNames}
use Rattle.clock.specs.View.{view}
use Rattle.calls.specs.Names.{names_in}
use Rattle.clock.specs.Returned.{height_returned, turns_returned}
use Rattle.clock.specs.Posts.{NewPost, CardsPost, StationPost, DatePost, HeightPost, SeriesPost, TurnsPost, YearPost, BookingsPost, HourlyPost}
use Rattle.cuvalimodo_c.specs.declared.answers.Verdict.{Verdict}
use Rattle.cuvalimodo_c.specs.declared.answers.Reading.{Reading}
use Rattle.cuvalimodo_c.specs.declared.answers.Turnings.{Turnings}
use Rattle.cuvalimodo_c.specs.declared.answers.Cards.{Cards as HeldCards}
use Rattle.cuvalimodo_c.specs.Answers.{verdict_returned, reading_returned, turnings_returned, cards_told, Plain, PlainReading, PlainTurnings, PlainCards}
use Rattle.claim.specs.Document.{Request, Cards, Station, Date, Height, Series, Turns, Year, Bookings, Hourly, Names, Gave, told, predicted, wrote, found, filled, carded, named}
use Rattle.claim.specs.Calls.{New, Call, Calls}

-- the calls of the papers, and what a clock with no table gives for them: an empty card file ends inside its first part, 7 at line 1; the others find
-- no table, 21, and leave the lent places as they were (bookings too, which have a place too few: "31, [..] after the state checks"; and hourly cards,
-- whose station number is over 99999 and whose buffer is too short: 32 to 34 "come after the state checks"; and the station, two of whose strides are
-- out of range: "A station asks 21" first)
abbrev pub a_station : stations.Station
a_station = station_lent (pos 0) (record { semidiurnal = 0; mixed = 30; diurnal = 721 }) []

abbrev pub a_sheet : Sheet
a_sheet = record { year = 1976; start = 0; step = 1; first = 0; last = 1 }

abbrev each : List Request
each =
    Cards [] ∷ Station a_station ∷ Date 1976 7 ∷ Height 0 ∷ Series 0 1 (pos 5 ∷ []) ∷ Turns 0 1 (9 ∷ []) (pos 5 ∷ [])
    ∷ Year a_sheet (pos 3 ∷ []) (9 ∷ []) (pos 5 ∷ []) ∷ Bookings (9 ∷ 0 ∷ []) (pos 5 ∷ []) ∷ Hourly 100_000 (7 ∷ []) ∷ []

abbrev refusals : List Gave
refusals =
    told (refused 7 1) ∷ told (refused 21 0) ∷ told (refused 21 0) ∷ predicted (refused 21 0)
    ∷ wrote (record { returned = refused 21 0; heights = pos 5 ∷ [] })
    ∷ found (record { returned = refused 21 0; minutes = 9 ∷ []; heights = pos 5 ∷ [] })
    ∷ filled (record { returned = refused 21 0; series = pos 3 ∷ []; minutes = 9 ∷ []; heights = pos 5 ∷ [] })
    ∷ wrote (record { returned = refused 21 0; heights = pos 5 ∷ [] })
    ∷ carded (record { returned = refused 21 0; buffer = 7 ∷ [] }) ∷ []

-- a list with each kind of call in it: a call of the papers with the clock by value, and with the clock lent; a height of `clock::height_lent` and
-- bookings of `clock::bookings_lent`, a station whose records are in arrays, and the names, of which there are none, with the clock by value and lent
abbrev pub each_kind : List Request
each_kind = each ++ each ++ Height 0 ∷ Bookings (9 ∷ 0 ∷ []) (pos 5 ∷ []) ∷ Station a_station ∷ Names ∷ Names ∷ []

abbrev pub each_refused : List Gave
each_refused =
    refusals ++ refusals ++ predicted (refused 21 0) ∷ wrote (record { returned = refused 21 0; heights = pos 5 ∷ [] }) ∷ told (refused 21 0) ∷ named [] ∷ named [] ∷ []

pub record Controls : Type 2 where
  pub new : (c : Clock) → NewPost c → New c
  pub cards : (c c' : Clock) (file : List ℕ) (answer : Result Unit Refused) → CardsPost c file (outcome_of answer) c' → Call c (Cards file) (told (outcome_of answer)) c'
  pub station : (c c' : Clock) (s : stations.Station) (answer : Result Unit Refused) → StationPost c s (outcome_of answer) c'
      → Call c (Station s) (told (outcome_of answer)) c'
  pub placing : (c c' : Clock) (latitude : ℤ) (strides : Strides) (n : ℕ) (rows : Rows) (answer : Result Unit Refused) → StationPost c (station_lent latitude strides (records_of rows n)) (outcome_of answer) c'
      → Call c (Station (station_lent latitude strides (records_of rows n))) (told (outcome_of answer)) c'
  pub date : (c c' : Clock) (year month : ℕ) (answer : Result Unit Refused) → DatePost c year month (outcome_of answer) c' → Call c (Date year month) (told (outcome_of answer)) c'
  pub height : (c : Clock) (minute : ℕ) (answer : Result ℤ Refused) → HeightPost c minute (height_returned answer) → Call c (Height minute) (predicted (height_returned answer)) c
  pub series : (c : Clock) (start step : ℕ) (hs hs' : List ℤ) (answer : Result Unit Refused) → SeriesPost c start step hs hs' (outcome_of answer)
      → Call c (Series start step hs) (wrote (record { returned = outcome_of answer; heights = hs' })) c
  pub turns : (c : Clock) (first last : ℕ) (ms ms' : List ℕ) (hs hs' : List ℤ) (answer : Result Summary Refused) → TurnsPost c first last ms ms' hs hs' (turns_returned answer)
      → Call c (Turns first last ms hs) (found (record { returned = turns_returned answer; minutes = ms'; heights = hs' })) c
  pub year : (c : Clock) (sheet : Sheet) (ss ss' : List ℤ) (ms ms' : List ℕ) (hs hs' : List ℤ) (answer : Result Summary Refused) → YearPost c sheet ss ss' ms ms' hs hs' (turns_returned answer)
      → Call c (Year sheet ss ms hs) (filled (record { returned = turns_returned answer; series = ss'; minutes = ms'; heights = hs' })) c
  pub bookings : (c : Clock) (minutes : List ℕ) (hs hs' : List ℤ) (answer : Result Unit Refused) → BookingsPost c minutes hs hs' (outcome_of answer)
      → Call c (Bookings minutes hs) (wrote (record { returned = outcome_of answer; heights = hs' })) c
  pub hourly : (c : Clock) (number : ℕ) (buffer left : List ℕ) (answer : Result ℕ Refused) → HourlyPost c number buffer left (cards_returned answer)
      → Call c (Hourly number buffer) (carded (record { returned = cards_returned answer; buffer = left })) c
  pub names : (c : Clock) (r : TableNames) → names_from r.bytes 0 r.count ≡ names_in (view c) → Call c Names (named (names_from r.bytes 0 r.count)) c
  -- with the clock lent: c is what is behind the reference
  pub held_new : (c c' : Clock) → NewPost c' → New c'
  pub held-cards : (c c' : Clock) (file : List ℕ) (r : Verdict) → CardsPost c file (verdict_returned r) c' → Plain r → Call c (Cards file) (told (verdict_returned r)) c'
  pub held-station : (c c' : Clock) (s : stations.Station) (r : Verdict) → StationPost c s (verdict_returned r) c' → Plain r
      → Call c (Station s) (told (verdict_returned r)) c'
  pub held-date : (c c' : Clock) (year month : ℕ) (r : Verdict) → DatePost c year month (verdict_returned r) c' → Plain r → Call c (Date year month) (told (verdict_returned r)) c'
  pub lent-height : (c : Clock) (minute : ℕ) (answer : Result ℤ Refused) → HeightPost c minute (height_returned answer) → Call c (Height minute) (predicted (height_returned answer)) c
  pub held-height : (c : Clock) (minute : ℕ) (r : Reading) → HeightPost c minute (reading_returned r) → PlainReading r → Call c (Height minute) (predicted (reading_returned r)) c
  pub held-series : (c : Clock) (start step : ℕ) (hs hs' : List ℤ) (r : Verdict) → SeriesPost c start step hs hs' (verdict_returned r) → Plain r
      → Call c (Series start step hs) (wrote (record { returned = verdict_returned r; heights = hs' })) c
  pub held-turns : (c : Clock) (first last : ℕ) (ms ms' : List ℕ) (hs hs' : List ℤ) (r : Turnings) → TurnsPost c first last ms ms' hs hs' (turnings_returned r) → PlainTurnings r
      → Call c (Turns first last ms hs) (found (record { returned = turnings_returned r; minutes = ms'; heights = hs' })) c
  pub held-year : (c : Clock) (sheet : Sheet) (ss ss' : List ℤ) (ms ms' : List ℕ) (hs hs' : List ℤ) (r : Turnings) → YearPost c sheet ss ss' ms ms' hs hs' (turnings_returned r) → PlainTurnings r
      → Call c (Year sheet ss ms hs) (filled (record { returned = turnings_returned r; series = ss'; minutes = ms'; heights = hs' })) c
  pub lent-bookings : (c : Clock) (minutes : List ℕ) (hs hs' : List ℤ) (answer : Result Unit Refused) → BookingsPost c minutes hs hs' (outcome_of answer)
      → Call c (Bookings minutes hs) (wrote (record { returned = outcome_of answer; heights = hs' })) c
  pub held-bookings : (c : Clock) (minutes : List ℕ) (hs hs' : List ℤ) (r : Verdict) → BookingsPost c minutes hs hs' (verdict_returned r) → Plain r
      → Call c (Bookings minutes hs) (wrote (record { returned = verdict_returned r; heights = hs' })) c
  pub held-hourly : (c : Clock) (number : ℕ) (buffer left : List ℕ) (r : HeldCards) → HourlyPost c number buffer left (cards_told r) → PlainCards r
      → Call c (Hourly number buffer) (carded (record { returned = cards_told r; buffer = left })) c
  pub held-names : (c : Clock) (r : TableNames) → names_from r.bytes 0 r.count ≡ names_in (view c) → Call c Names (named (names_from r.bytes 0 r.count)) c
  pub each-kind : (c : Clock) → NewPost c → Calls c each_kind each_refused c
