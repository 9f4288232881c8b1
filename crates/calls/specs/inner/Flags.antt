-- Only inner contracts cite this: a state by the flags of the code, and what calls ask by these.
use Prim.{Unit}
use Rattle.std.specs.Prelude.{ℕ, Bool, true, false, List}
use Rattle.refusals.specs.Outcome.{Outcome, answered}
use Rattle.table.specs.Table.{Table}
use Rattle.station.specs.Station.{Station}
use Rattle.calls.specs.State.{Maybe, none, some, Dated, State}
use Rattle.calls.specs.Asked.{month_asked, date_asked, minutes_asked}
use Rattle.calls.specs.Year.{year_asked}
use Rattle.calls.specs.Bookings.{bookings_asked}
use Rattle.calls.specs.Hourly.{hourly_asked}

-- what a flag says is there
abbrev pub when : {A : Type 0} → Bool → A → Maybe A
when true a = some a
when false a = none

-- a state by its flags: whether a table, a station and a month are there, and which
abbrev pub state_of : Bool → Table → Bool → Station → Bool → Dated → State
state_of tabled table stationed station dated month =
    record { table = when tabled table; station = when stationed station; month = when dated month }

-- a state with a table or none, and nothing else
abbrev pub tabled_only : Bool → Table → State
tabled_only tabled table = record { table = when tabled table; station = none; month = none }

-- what the state is asked, by the flags
abbrev pub state_by : Bool → Bool → Bool → Outcome Unit
state_by tabled stationed dated = answered (month_asked {T = Unit} {S = Unit} {M = Unit} (when tabled tt) (when stationed tt) (when dated tt))

-- what a date asks first, by the flags
abbrev pub date_by : Bool → Bool → ℕ → ℕ → Outcome Unit
date_by tabled stationed year month = answered (date_asked {T = Unit} {S = Unit} (when tabled tt) (when stationed tt) year month)

-- what heights, series and turns do, their minutes outside the month or not
abbrev pub minutes_by : Bool → Bool → Bool → Bool → Outcome Unit
minutes_by tabled stationed dated outside =
    answered (minutes_asked {T = Unit} {S = Unit} {M = Unit} (λ _. outside) (when tabled tt) (when stationed tt) (when dated tt))

-- what a year's sheet asks first, by the flags
abbrev pub year_by : Bool → Bool → ℕ → Outcome Unit
year_by tabled stationed year = answered (year_asked {T = Unit} {S = Unit} (when tabled tt) (when stationed tt) year)

-- what a list of bookings asks, by the flags, in a month with this last minute
abbrev pub bookings_by : Bool → Bool → Bool → ℕ → List ℕ → ℕ → Outcome Unit
bookings_by tabled stationed dated last minutes places =
    answered (bookings_asked {T = Unit} {S = Unit} {M = Unit} (λ _. last) minutes places (when tabled tt) (when stationed tt) (when dated tt))

-- what hourly cards ask first, by the flags
abbrev pub hourly_by : Bool → Bool → Bool → ℕ → Outcome Unit
hourly_by tabled stationed dated number =
    answered (hourly_asked {T = Unit} {S = Unit} {M = Unit} number (when tabled tt) (when stationed tt) (when dated tt))
