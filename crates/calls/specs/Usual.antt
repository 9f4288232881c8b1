-- 02, No. 6: "With 180, 30 and 360 every turn is what 01 gives." 01's rule as it stood, and that a station with these lengths gives no other.
-- Assumes nothing.
use Rattle.std.specs.Prelude.{ℕ, List, ◌≡◌, ℤ}
use Rattle.table.specs.Table.{Table}
use Rattle.station.specs.Station.{Station}
use Rattle.station.specs.Strides.{usual_strides}
use Rattle.turns.specs.Strides.{station_stride01}
use Rattle.turns.specs.Written.{TurnsGiven}
use Rattle.calls.specs.State.{Maybe, some, Dated, State}
use Rattle.calls.specs.Calls.{turns_by, turns_gives}
use Rattle.calls.specs.Year.{YearGiven, sheet_by, year_gives}
use Rattle.calls.specs.declared.annual.Sheet.{Sheet}

-- what a search for turns gave before, and a year's sheet: "4(K1+O1) ≤ M2+S2 gives a 180 minute stride; else K1+O1 > 3(M2+S2) gives 360; else 30"
unfoldable pub turns_gives01 : State → ℕ → ℕ → List ℕ → List ℤ → TurnsGiven
turns_gives01 = turns_by station_stride01

unfoldable pub year_gives01 : State → Sheet → List ℤ → List ℕ → List ℤ → YearGiven
year_gives01 = sheet_by station_stride01

-- for every table, station and month, there or not, whatever is asked and lent (proofs/Usual.antt)
abbrev pub UsualTurns : Type 0
UsualTurns =
    (table : Maybe Table) (station : Station) (month : Maybe Dated) → station.strides ≡ usual_strides
    → (first last : ℕ) (minutes : List ℕ) (heights : List ℤ)
    → turns_gives (record { table = table; station = some station; month = month }) first last minutes heights
    ≡ turns_gives01 (record { table = table; station = some station; month = month }) first last minutes heights

abbrev pub UsualYear : Type 0
UsualYear =
    (table : Maybe Table) (station : Station) (month : Maybe Dated) → station.strides ≡ usual_strides
    → (sheet : Sheet) (series : List ℤ) (minutes : List ℕ) (heights : List ℤ)
    → year_gives (record { table = table; station = some station; month = month }) sheet series minutes heights
    ≡ year_gives01 (record { table = table; station = some station; month = month }) sheet series minutes heights
