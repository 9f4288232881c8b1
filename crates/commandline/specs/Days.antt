-- What holds of the numbers that a command line asks with. Assumes nothing.
use Rattle.std.specs.Prelude.{ℕ, ◌≤◌, List, get_or}
use Rattle.commandline.specs.declared.Asked.{Asked}
use Rattle.commandline.specs.declared.Asked.TheVariants.{Help, Refusals, Month, Day, Heights, Series, MonthDrawing, DayDrawing, Year, YearTable, YearDrawing, Bookings, Hourly}

-- where a day is asked, it is at least the month's first: day 0 is a wrong word
abbrev pub DayAsked : Asked → Type 0
DayAsked Help = Unit {0}
DayAsked Refusals = Unit {0}
DayAsked (Month year month) = Unit {0}
DayAsked (Day year month day minute) = 1 ≤ day
DayAsked (Heights year month step) = Unit {0}
DayAsked (Series year month day minute step count) = 1 ≤ day
DayAsked (MonthDrawing year month) = Unit {0}
DayAsked (DayDrawing year month day) = 1 ≤ day
DayAsked (Year year) = Unit {0}
DayAsked (YearTable year) = Unit {0}
DayAsked (YearDrawing year) = Unit {0}
DayAsked (Bookings year month file) = Unit {0}
DayAsked (Hourly year month station) = Unit {0}

-- hourly YEAR MONTH STATION: the values of the words behind the command's own, which is word 0
abbrev pub hourly_asked : List ℕ → Asked
hourly_asked values = Hourly (get_or values 1 0) (get_or values 2 0) (get_or values 3 0)
