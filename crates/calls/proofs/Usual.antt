-- 02, No. 6: with the usual lengths a search for turns and a year's sheet give what 01's rule gives. By what is asked first: a refusal, or the
-- same stride (`usual-stride` in turns). Assumes nothing.
use Prim.Native.Nat.{ℕ}
use mathlib.Core.Path.{◌≡◌, refl, ap}
use mathlib.Core.Bool.{Bool, true, false, not}
use mathlib.Core.List.{List}
use lib.IntN.{ℤ}
use lib.ListN.{length}
use Rattle.refusals.specs.Outcome.{Outcome, accepted, refused, refuse_if, ◌>>=◌}
use Rattle.calendar.specs.Calendar.{year_in_range}
use Rattle.table.specs.Table.{Table}
use Rattle.station.specs.Station.{Station}
use Rattle.month_prepared.specs.Prepared.{Month}
use Rattle.year.specs.Year.{year_of}
use Rattle.heights.specs.Height.{height_at}
use Rattle.turns.specs.Slope.{slope_at}
use Rattle.turns.specs.Search.{turns_of}
use Rattle.turns.specs.Written.{TurnsGiven, unless_refused, given}
use Rattle.turns.specs.Strides.{station_stride, station_stride01}
use Rattle.turns.proofs.strides.Usual.{usual-stride}
use Rattle.calls.specs.State.{none, some, Dated}
use Rattle.calls.specs.Asked.{turns_outside}
use Rattle.calls.specs.Calls.{turns_gives}
use Rattle.calls.specs.Year.{YearGiven, year_gives, sheet_asked, sheet_outside, sheet_over, unless_turned_down}
use Rattle.calls.specs.Usual.{turns_gives01, year_gives01, UsualTurns, UsualYear}
use Rattle.calls.specs.declared.annual.Sheet.{Sheet}

-- by a rule, what follows what is asked
abbrev turns-of : (Table → Station → ℕ) → ℕ → ℕ → List ℕ → List ℤ → Outcome (Table × Station × Dated) → TurnsGiven
turns-of rule first last minutes heights o =
    unless_refused o minutes heights λ (table, station, month).
    given (height_at month.prepared.constituents) (turns_of (slope_at month.prepared.constituents) (rule table station) first last) minutes heights

abbrev sheet-of : (Table → Station → ℕ) → Sheet → List ℤ → List ℕ → List ℤ → Outcome (Table × Station × List Month) → YearGiven
sheet-of rule sheet series minutes heights o =
    unless_turned_down o series minutes heights λ (table, station, months). sheet_over months (rule table station) sheet series minutes heights

-- both rules' sheets are the same
abbrev Same : Sheet → List ℤ → List ℕ → List ℤ → Outcome (Table × Station × List Month) → Type 0
Same sheet series minutes heights o = sheet-of station_stride sheet series minutes heights o ≡ sheet-of station_stride01 sheet series minutes heights o

pub usual-turns : UsualTurns
unfolding turns_gives turns_gives01
usual-turns none station month usual first last minutes heights = refl
usual-turns (some table) station none usual first last minutes heights = refl
usual-turns (some table) station (some month) usual first last minutes heights = nine (turns_outside month.prepared.last first last)
  where
    nine : (out : Bool) → turns-of station_stride first last minutes heights (refuse_if out 9 0 (accepted (table, station, month)))
        ≡ turns-of station_stride01 first last minutes heights (refuse_if out 9 0 (accepted (table, station, month)))
    nine true = refl
    nine false =
        ap (λ (stride : ℕ). given (height_at month.prepared.constituents) (turns_of (slope_at month.prepared.constituents) stride first last) minutes heights)
        (usual-stride table station usual)

pub usual-year : UsualYear
unfolding year_gives year_gives01 sheet_asked
usual-year none station month usual sheet series minutes heights = refl
usual-year (some table) station month usual sheet series minutes heights = eight (not (year_in_range sheet.year))
  where
    nine : (months : List Month) (out : Bool) → Same sheet series minutes heights (refuse_if out 9 0 (accepted (table, station, months)))
    nine months true = refl
    nine months false = ap (λ (stride : ℕ). sheet_over months stride sheet series minutes heights) (usual-stride table station usual)

    eleven : (o : Outcome (List Month)) → Same sheet series minutes heights (o >>= λ months. refuse_if (sheet_outside sheet (length series)) 9 0 (accepted (table, station, months)))
    eleven (accepted months) = nine months (sheet_outside sheet (length series))
    eleven (refused number place) = refl

    eight : (out : Bool)
        → Same sheet series minutes heights (refuse_if out 8 0 (accepted (table, station)) >>= λ (t, s). year_of t s sheet.year >>= λ months. refuse_if (sheet_outside sheet (length series)) 9 0 (accepted (t, s, months)))
    eight true = refl
    eight false = eleven (year_of table station sheet.year)
