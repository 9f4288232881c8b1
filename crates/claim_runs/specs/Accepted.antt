-- A list with each kind of call in it: every call is accepted, by the document's own definitions and by the machine (proofs/Accepted.antt).
-- Assumes nothing.
use Rattle.std.specs.Prelude.{ℕ, ◌≡◌, false, List, [], ◌∷◌, ◌++◌, replicate, ℤ, pos}
use mir.Val.{Val}
use prog.Routine.{Env}
use prog.Wired.{Wired}
use Rattle.refusals.specs.Outcome.{accepted}
use Rattle.station.specs.declared.records.Record.{Record}
use Rattle.station.specs.declared.strides.Strides.{Strides}
use Rattle.station.specs.Station as station
use Rattle.station.specs.Station.{station_lent}
use Rattle.hourly.specs.Format.{narrow}
use Rattle.hourly.specs.Writing.{cards_written}
use Rattle.hourly.specs.Month.{cards_of}
use Rattle.calls.specs.declared.annual.Sheet.{Sheet}
use Rattle.clock.specs.contracts.Clock as ClockType
use Rattle.clock.proofs.new.Symbol as new_code
use Rattle.clock.proofs.load_cards.Symbol as load_code
use Rattle.clock.proofs.set_station.Symbol as station_code
use Rattle.clock.proofs.place_station.Symbol as placing_code
use Rattle.clock.proofs.set_date.Symbol as date_code
use Rattle.clock.proofs.height.Symbol as height_code
use Rattle.clock.proofs.height_lent.Symbol as lent_height_code
use Rattle.clock.proofs.series.Symbol as series_code
use Rattle.clock.proofs.turns.Symbol as turns_code
use Rattle.clock.proofs.year.Symbol as year_code
use Rattle.clock.proofs.bookings.Symbol as booking_code
use Rattle.clock.proofs.bookings_lent.Symbol as lent_booking_code
use Rattle.clock.proofs.hourly.Symbol as hourly_code
use Rattle.clock.proofs.names.Symbol as names_code
use Rattle.cuvalimodo_c.proofs.cuvalimodo_new.Symbol as held_new_code
use Rattle.cuvalimodo_c.proofs.cuvalimodo_load_cards.Symbol as held_load_code
use Rattle.cuvalimodo_c.proofs.cuvalimodo_set_station.Symbol as held_station_code
use Rattle.cuvalimodo_c.proofs.cuvalimodo_set_date.Symbol as held_date_code
use Rattle.cuvalimodo_c.proofs.cuvalimodo_height.Symbol as held_height_code
use Rattle.cuvalimodo_c.proofs.cuvalimodo_series.Symbol as held_series_code
use Rattle.cuvalimodo_c.proofs.cuvalimodo_turns.Symbol as held_turns_code
use Rattle.cuvalimodo_c.proofs.cuvalimodo_year.Symbol as held_year_code
use Rattle.cuvalimodo_c.proofs.cuvalimodo_bookings.Symbol as held_booking_code
use Rattle.cuvalimodo_c.proofs.cuvalimodo_hourly.Symbol as held_hourly_code
use Rattle.cuvalimodo_c.proofs.cuvalimodo_names.Symbol as held_names_code
use Rattle.claim.specs.Document.{Request, Cards, Station, Date, Height, Series, Turns, Year, Bookings, Hourly, Names, Gave, told, predicted, wrote, found, filled, carded, named, nothing, gives_all}
use Rattle.claim_runs.specs.Handed.{Function, function, changes, Ran}
use Rattle.claim_runs.specs.Values.{clock_at, zero_memory}
use Rattle.claim_runs.specs.Runs.{Started, Runs, GiveAll, routines_of}

-- ---- a smallest card file: one constituent, Z0, and no other number but 0

abbrev blanks : ℕ → List ℕ
blanks n = replicate n 32

-- `0`, with n blanks in front of it
abbrev nought : ℕ → List ℕ
nought n = blanks n ++ (48 ∷ [])

-- `0.`, with n blanks in front of it
abbrev pointed : ℕ → List ℕ
pointed n = nought n ++ (46 ∷ [])

-- `Z0   `: Z is 90
abbrev pub z0 : List ℕ
z0 = 90 ∷ 48 ∷ blanks 3

-- `    Z0      0.`
unfoldable pub frequency_line : List ℕ
frequency_line = blanks 4 ++ z0 ++ pointed 3

-- `0.           0.           0.           0.           0.`
unfoldable pub five_line : List ℕ
five_line = pointed 0 ++ pointed 11 ++ pointed 11 ++ pointed 11 ++ pointed 11

-- `      Z0      0  0  0  0  0  0   0.   0`
unfoldable pub main_line : List ℕ
main_line = blanks 6 ++ z0 ++ blanks 1 ++ nought 2 ++ nought 2 ++ nought 2 ++ nought 2 ++ nought 2 ++ nought 2 ++ pointed 3 ++ nought 3

-- the four parts, in order; a blank card ends the first, the third and the fourth
abbrev pub card_lines : List (List ℕ)
card_lines = frequency_line ∷ [] ∷ five_line ∷ five_line ∷ main_line ∷ [] ∷ [] ∷ []

-- each line, and behind it LF, byte 10
unfoldable pub ended : List (List ℕ) → List ℕ
ended [] = []
ended (l ∷ ls) = l ++ (10 ∷ ended ls)

abbrev pub small_file : List ℕ
small_file = ended card_lines

-- ---- the calls, and what the document gives for them

abbrev pub z0-record : Record
z0-record = record { place = 0; amplitude = 100; phase = 0 }

abbrev pub z0-records : List Record
z0-records = z0-record ∷ []

-- stride lengths of its own, the least and the largest among them
abbrev pub z0-strides : Strides
z0-strides = record { semidiurnal = 120; mixed = 1; diurnal = 720 }

abbrev pub z0-station : station.Station
z0-station = station_lent (pos 0) z0-strides z0-records

abbrev pub none-station : station.Station
none-station = station_lent (pos 0) z0-strides []

-- the year 1976, its series and its search from midnight on 1 January
abbrev pub year-sheet : Sheet
year-sheet = record { year = 1976; start = 0; step = 1; first = 0; last = 360 }

-- "a list of minutes, in any order and with repeats": a later one first, and once more at the end; and a place for each height
abbrev pub three_minutes : List ℕ
three_minutes = 720 ∷ 0 ∷ 720 ∷ []

abbrev pub three_places : List ℤ
three_places = pos 0 ∷ pos 0 ∷ pos 0 ∷ []

-- hourly cards under a station number, into a buffer of bytes `*` that has 22 more than July's 62 cards of 69 bytes take
abbrev pub station_number : ℕ
station_number = 6_485

unfoldable pub stars : ℕ → List ℕ
stars n = replicate n 42

abbrev pub cards_asked : Request
cards_asked = Hourly station_number (stars 4_300)

-- Z0 is level: the height of each hour is its amplitude, and "the bytes beyond them" are as they were
unfoldable pub july_cards : List ℕ
july_cards = cards_written narrow (cards_of (λ minute. pos 100) station_number 1976 7)

abbrev pub cards_given : Gave
cards_given = carded (record { returned = accepted 4_278; buffer = july_cards ++ stars 22 })

-- Z0, 100 tenths of a millimetre high, on the equator, in July 1976: by value, with a station that has no records before the other; and then
-- over a clock that is lent, with a place for one height
abbrev pub accepted_calls : List Request
accepted_calls =
    Cards small_file
    ∷ Station none-station
    ∷ Station z0-station
    ∷ Date 1976 7
    ∷ Height 0
    ∷ Series 0 1 []
    ∷ Turns 0 360 [] []
    ∷ Year year-sheet [] [] []
    ∷ Bookings three_minutes three_places
    ∷ cards_asked
    ∷ Names
    ∷ Cards small_file
    ∷ Station z0-station
    ∷ Date 1976 7
    ∷ Height 0
    ∷ Height 0
    ∷ Series 0 1 (pos 0 ∷ [])
    ∷ Turns 0 360 [] []
    ∷ Year year-sheet (pos 0 ∷ []) [] []
    ∷ Bookings three_minutes three_places
    ∷ Bookings three_minutes three_places
    ∷ cards_asked
    ∷ Names
    ∷ []

-- the routines that are run for them
abbrev pub accepted_routines : List Function
accepted_routines =
    (function load_code.name load_code.code)
    ∷ (function station_code.name station_code.code)
    ∷ (function placing_code.name placing_code.code)
    ∷ (function date_code.name date_code.code)
    ∷ (function height_code.name height_code.code)
    ∷ (function series_code.name series_code.code)
    ∷ (function turns_code.name turns_code.code)
    ∷ (function year_code.name year_code.code)
    ∷ (function booking_code.name booking_code.code)
    ∷ (function hourly_code.name hourly_code.code)
    ∷ (function names_code.name names_code.code)
    ∷ (function held_load_code.name held_load_code.code)
    ∷ (function held_station_code.name held_station_code.code)
    ∷ (function held_date_code.name held_date_code.code)
    ∷ (function lent_height_code.name lent_height_code.code)
    ∷ (function held_height_code.name held_height_code.code)
    ∷ (function held_series_code.name held_series_code.code)
    ∷ (function held_turns_code.name held_turns_code.code)
    ∷ (function held_year_code.name held_year_code.code)
    ∷ (function lent_booking_code.name lent_booking_code.code)
    ∷ (function held_booking_code.name held_booking_code.code)
    ∷ (function held_hourly_code.name held_hourly_code.code)
    ∷ (function held_names_code.name held_names_code.code)
    ∷ []

-- Z0 is level: its height is its amplitude, and there is no turn
abbrev pub all_accepted : List Gave
all_accepted =
    told (accepted tt)
    ∷ told (accepted tt)
    ∷ told (accepted tt)
    ∷ told (accepted tt)
    ∷ predicted (accepted (pos 100))
    ∷ wrote (record { returned = accepted tt; heights = [] })
    ∷ found (record { returned = accepted (record { count = 0; high = false }); minutes = []; heights = [] })
    ∷ filled (record { returned = accepted (record { count = 0; high = false }); series = []; minutes = []; heights = [] })
    ∷ wrote (record { returned = accepted tt; heights = pos 100 ∷ pos 100 ∷ pos 100 ∷ [] })
    ∷ cards_given
    ∷ named (z0 ∷ [])
    ∷ told (accepted tt)
    ∷ told (accepted tt)
    ∷ told (accepted tt)
    ∷ predicted (accepted (pos 100))
    ∷ predicted (accepted (pos 100))
    ∷ wrote (record { returned = accepted tt; heights = pos 100 ∷ [] })
    ∷ found (record { returned = accepted (record { count = 0; high = false }); minutes = []; heights = [] })
    ∷ filled (record { returned = accepted (record { count = 0; high = false }); series = pos 100 ∷ []; minutes = []; heights = [] })
    ∷ wrote (record { returned = accepted tt; heights = pos 100 ∷ pos 100 ∷ pos 100 ∷ [] })
    ∷ wrote (record { returned = accepted tt; heights = pos 100 ∷ pos 100 ∷ pos 100 ∷ [] })
    ∷ cards_given
    ∷ named (z0 ∷ [])
    ∷ []

abbrev pub AcceptedByTheDocument : Type 0
AcceptedByTheDocument = gives_all nothing accepted_calls ≡ all_accepted

-- There are runs of these calls, of these routines, one after another from a clock's value on, and they give that
abbrev pub AcceptedFrom : Val → Type 2
AcceptedFrom vc = Started vc × ∥ ((vc' : Val) × (xs : Runs vc accepted_calls vc') × (routines_of xs ≡ accepted_routines) × GiveAll xs all_accepted) ∥₁

-- a program that has the code of each function of the clock
pub record HasTheClock (program : Env) : Type 0 where
  pub new : Wired program new_code.code
  pub load : Wired program load_code.code
  pub station : Wired program station_code.code
  pub placing : Wired program placing_code.code
  pub date : Wired program date_code.code
  pub height : Wired program height_code.code
  pub lent_height : Wired program lent_height_code.code
  pub series : Wired program series_code.code
  pub turns : Wired program turns_code.code
  pub year : Wired program year_code.code
  pub booking : Wired program booking_code.code
  pub lent_booking : Wired program lent_booking_code.code
  pub hourly : Wired program hourly_code.code
  pub names : Wired program names_code.code
  pub held_new : Wired program held_new_code.code
  pub held_load : Wired program held_load_code.code
  pub held_station : Wired program held_station_code.code
  pub held_date : Wired program held_date_code.code
  pub held_height : Wired program held_height_code.code
  pub held_series : Wired program held_series_code.code
  pub held_turns : Wired program held_turns_code.code
  pub held_year : Wired program held_year_code.code
  pub held_booking : Wired program held_booking_code.code
  pub held_hourly : Wired program held_hourly_code.code
  pub held_names : Wired program held_names_code.code

-- .. from a value that each of the two `new` gave, and from zeros: so the claim of the machine speaks of each kind of call, accepted. (Whichever
-- calls come next, `AlwaysEnds` says that they return.)
pub record AcceptedByTheMachine : Type 2 where
  pub returned : ∥ ((x : Ran (function new_code.name new_code.code) [] []) × AcceptedFrom x.value) ∥₁
  pub left : ∥ ((vc : Val) × (b : ℕ) × (x : Ran (function held_new_code.name held_new_code.code) [] (changes ClockType.the_row vc b 0 ∷ [])) × AcceptedFrom (clock_at x.left b 0)) ∥₁
  pub zeros : AcceptedFrom (clock_at zero_memory 0 0)

-- .. whatever program it is that has the clock's code
abbrev pub AcceptedInAnyProgram : Type 2
AcceptedInAnyProgram = (program : Env) → HasTheClock program → AcceptedByTheMachine
