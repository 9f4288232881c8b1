-- A year's sheet, by what is asked: refused by 21, 22 or 8, by 11, by 9, or what its series and its search give. By the cases of the flags and of
-- the outcomes. Assumes nothing.
use Prim.{Unit}
use mathlib.Core.Path.{◌≡◌, refl, sym, ap}
use Prim.Native.Nat.{ℕ}
use mathlib.Core.Bool.{Bool, true, false, not}
use mathlib.Core.List.{List, map}
use lib.IntN.{ℤ}
use lib.ListN.{length}
use Rattle.refusals.specs.Outcome.{Outcome, accepted, refused, refuse_if, answered, ◌>>=◌}
use Rattle.refusals.proofs.Laws.{not-both}
use Rattle.table.specs.Table.{Table}
use Rattle.station.specs.Station.{Station}
use Rattle.calendar.specs.Calendar.{year_in_range}
use Rattle.month_prepared.specs.Prepared.{Month}
use Rattle.year.specs.Year.{year_of}
use Rattle.heights.specs.Height.{height_over}
use Rattle.heights.specs.Series.{series_of}
use Rattle.turns.specs.Slope.{slope_over}
use Rattle.turns.specs.Search.{Turn, turns_of, first_high, minutes_of}
use Rattle.turns.specs.Strides.{station_stride}
use Rattle.turns.specs.Written.{TurnsFound, TurnsGiven, unless_refused, from_front, too_many, given}
use Rattle.calls.specs.State.{Maybe, some, Dated, State}
use Rattle.calls.specs.Year.{sheet_outside, sheet_asked, YearGiven, unless_turned_down, beside, sheet_over, year_gives}
use Rattle.calls.specs.declared.annual.Sheet.{Sheet}
use Rattle.calls.specs.inner.Flags.{state_of, year_by}
use Rattle.calls.proofs.Posed.{same_refusal}

-- a year that passes is in range, with a table and a station
pub year-passed : (t s : Bool) (year : ℕ) → year_by t s year ≡ accepted tt → (t ≡ true) × (s ≡ true) × (year_in_range year ≡ true)
year-passed true true year e = (refl, refl, by (year_in_range year) e)
  where
    by : (c : Bool) → ◌≡◌ {A = Outcome Unit} (answered (refuse_if {A = Unit {0} × Unit {0}} (not c) 8 0 (accepted (tt, tt)))) (accepted tt) → c ≡ true
    by true e' = refl
    by false e' = not-both e'
year-passed true false year e = not-both e
year-passed false s year e = not-both e

-- a search that is refused leaves both buffers as they were
module _ (height : ℕ → ℤ) (turns : List Turn) (minutes : List ℕ) (heights : List ℤ) where
  abbrev given_by : Bool → TurnsGiven
  given_by many =
      unless_refused (refuse_if many 10 0 (accepted turns)) minutes heights λ turns.
      (record {
        returned = accepted (record { count = length turns; high = first_high turns });
        minutes = from_front (minutes_of turns) minutes;
        heights = from_front (map height (minutes_of turns)) heights;
      })

  given-kept : (number place : ℕ) → (given height turns minutes heights).returned ≡ refused number place
      → given height turns minutes heights ≡ record { returned = refused number place; minutes = minutes; heights = heights }
  unfolding given
  given-kept number place e = by (too_many turns (length minutes) (length heights)) e
    where
      by : (many : Bool) → (given_by many).returned ≡ refused number place → given_by many ≡ record { returned = refused number place; minutes = minutes; heights = heights }
      by true e' = ap (λ (o : Outcome TurnsFound). record { returned = o; minutes = minutes; heights = heights }) e'
      by false e' = not-both (sym e')

module _ (sheet : Sheet) (series : List ℤ) (minutes : List ℕ) (heights : List ℤ) where
  -- what follows what is asked
  abbrev sheet-of : Outcome (Table × Station × List Month) → YearGiven
  sheet-of o = unless_turned_down o series minutes heights λ (table, station, months). sheet_over months (station_stride table station) sheet series minutes heights

  -- a refusal leaves the three buffers as they were
  abbrev pub turned_down : ℕ → ℕ → YearGiven
  turned_down number place = record { returned = refused number place; series = series; minutes = minutes; heights = heights }

  -- whatever refuses it
  pub year-kept : (k : State) (number place : ℕ) → (year_gives k sheet series minutes heights).returned ≡ refused number place
      → year_gives k sheet series minutes heights ≡ turned_down number place
  unfolding year_gives
  year-kept k number place e = by (sheet_asked k sheet (length series)) e
    where
      by : (o : Outcome (Table × Station × List Month)) → (sheet-of o).returned ≡ refused number place → sheet-of o ≡ turned_down number place
      by (refused n p) e' = ap (λ (o : Outcome TurnsFound). record { returned = o; series = series; minutes = minutes; heights = heights }) e'
      by (accepted (table, station, months)) e' =
          ap (λ (t : TurnsGiven). beside t (series_of (height_over months) sheet.start sheet.step (length series)) series)
          (given-kept (height_over months) (turns_of (slope_over months) (station_stride table station) sheet.first sheet.last) minutes heights number place e')

  module _ (table : Table) (station : Station) where
    -- ---- 21, 22 and 8

    asked-refused : (t s d : Bool) (month : Dated) (number place : ℕ) → year_by t s sheet.year ≡ refused number place
        → sheet_asked (state_of t table s station d month) sheet (length series) ≡ refused number place
    unfolding sheet_asked
    asked-refused true true d month number place e = eight (not (year_in_range sheet.year)) _ e
      where
        eight : (outside : Bool) (next : Table × Station → Outcome (Table × Station × List Month))
            → ◌≡◌ {A = Outcome Unit} (answered (refuse_if {A = Unit {0} × Unit {0}} outside 8 0 (accepted (tt, tt)))) (refused number place)
            → (refuse_if outside 8 0 (accepted (table, station)) >>= next) ≡ refused number place
        eight true next e' = same_refusal e'
        eight false next e' = not-both (sym e')
    asked-refused true false d month number place e = same_refusal e
    asked-refused false s d month number place e = same_refusal e

    pub year-refused : (t s d : Bool) (month : Dated) (number place : ℕ) → year_by t s sheet.year ≡ refused number place
        → turned_down number place ≡ year_gives (state_of t table s station d month) sheet series minutes heights
    unfolding year_gives
    year-refused t s d month number place e = sym (ap sheet-of (asked-refused t s d month number place e))

    -- ---- with a table and a station, of a year in range

    module _ (month : Maybe Dated) (inside : year_in_range sheet.year ≡ true) where
      abbrev there : State
      there = record { table = some table; station = some station; month = month }

      asked_of : (o : Outcome (List Month)) → year_of table station sheet.year ≡ o
          → sheet_asked there sheet (length series) ≡ (o >>= λ months. refuse_if (sheet_outside sheet (length series)) 9 0 (accepted (table, station, months)))
      unfolding sheet_asked
      asked_of o e = simp (inside, e)

      -- 11
      pub sheet-too-large : (number place : ℕ) → year_of table station sheet.year ≡ refused number place
          → turned_down number place ≡ year_gives there sheet series minutes heights
      unfolding year_gives
      sheet-too-large number place e = sym (ap sheet-of (asked_of (refused number place) e))

      module _ (months : List Month) (prepared : year_of table station sheet.year ≡ accepted months) where
        -- 9
        pub sheet-outside : sheet_outside sheet (length series) ≡ true → turned_down 9 0 ≡ year_gives there sheet series minutes heights
        unfolding year_gives
        sheet-outside out = sym (ap sheet-of (rw out at (asked_of (accepted months) prepared)))

        -- 10, or the series and the turns
        pub sheet-given : sheet_outside sheet (length series) ≡ false
            → sheet_over months (station_stride table station) sheet series minutes heights ≡ year_gives there sheet series minutes heights
        unfolding year_gives
        sheet-given within = sym (ap sheet-of (rw within at (asked_of (accepted months) prepared)))
