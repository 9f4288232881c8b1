-- A height, a series and turns, by what is asked first: a refusal, or what is worked out. By the cases of the state's flags.
-- Assumes nothing.
use Prim.{Unit}
use mathlib.Core.Path.{◌≡◌, refl, sym, ap}
use Prim.Native.Nat.{ℕ}
use mathlib.Core.Bool.{Bool, true, false}
use mathlib.Core.List.{List}
use lib.IntN.{ℤ}
use lib.ListN.{length}
use Rattle.refusals.specs.Outcome.{Outcome, accepted, refused, refuse_if, answered, ◌>>=◌}
use Rattle.refusals.proofs.Laws.{not-both}
use Rattle.table.specs.Table.{Table}
use Rattle.station.specs.Station.{Station}
use Rattle.turns.specs.Strides.{station_stride}
use Rattle.heights.specs.Height.{height_at}
use Rattle.heights.specs.Series.{series_of}
use Rattle.turns.specs.Slope.{slope_at}
use Rattle.turns.specs.Search.{turns_of}
use Rattle.turns.specs.Written.{TurnsGiven, unless_refused, given}
use Rattle.calls.specs.State.{Dated, State}
use Rattle.calls.specs.Asked.{minute_outside, series_outside, turns_outside}
use Rattle.calls.specs.inner.Flags.{state_of, minutes_by}
use Rattle.calls.specs.Calls.{ready, height_returns, series_heights, series_gives, turns_gives}

-- ---- what follows what is asked

abbrev pub Asked : Type 0
Asked = Outcome (Table × Station × Dated)

abbrev pub height-of : ℕ → Asked → Outcome ℤ
height-of minute o = o >>= λ (table, station, month). accepted (height_at month.prepared.constituents minute)

abbrev pub series-of : ℕ → ℕ → ℕ → Asked → Outcome (List ℤ)
series-of start step places o = o >>= λ (table, station, month). accepted (series_of (height_at month.prepared.constituents) start step places)

abbrev pub turns-of : ℕ → ℕ → List ℕ → List ℤ → Asked → TurnsGiven
turns-of first last minutes heights o =
    unless_refused o minutes heights λ (table, station, month).
    given (height_at month.prepared.constituents) (turns_of (slope_at month.prepared.constituents) (station_stride table station) first last) minutes heights

-- ---- by the flags

-- a refusal is the same, whatever would be given
pub same_refusal : {A B : Type 0} {n p number place : ℕ} → ◌≡◌ {A = Outcome A} (refused n p) (refused number place) → ◌≡◌ {A = Outcome B} (refused n p) (refused number place)
same_refusal {n} {p} {number} {place} e = let y : n ≡ number = cc in let z : p ≡ place = cc in rw (y, z)

module _ (outside : Dated → Bool) (table : Table) (station : Station) (month : Dated) where
  refused-by : (t s d : Bool) (number place : ℕ) → minutes_by t s d (outside month) ≡ refused number place → ready outside (state_of t table s station d month) ≡ refused number place
  refused-by true true true number place e = nine (outside month) e
    where
      nine : (o : Bool) → ◌≡◌ {A = Outcome Unit} (answered (refuse_if {A = Unit {0} × Unit {0} × Unit {0}} o 9 0 (accepted (tt, tt, tt)))) (refused number place)
          → refuse_if {A = Table × Station × Dated} o 9 0 (accepted (table, station, month)) ≡ refused number place
      nine true e' = same_refusal e'
      nine false e' = not-both (sym e')
  refused-by true true false number place e = same_refusal e
  refused-by true false d number place e = same_refusal e
  refused-by false s d number place e = same_refusal e

  given_by : (t s d : Bool) → minutes_by t s d (outside month) ≡ accepted tt → ready outside (state_of t table s station d month) ≡ accepted (table, station, month)
  given_by true true true e = nine (outside month) e
    where
      nine : (o : Bool) → ◌≡◌ {A = Outcome Unit} (answered (refuse_if {A = Unit {0} × Unit {0} × Unit {0}} o 9 0 (accepted (tt, tt, tt)))) (accepted tt)
          → refuse_if {A = Table × Station × Dated} o 9 0 (accepted (table, station, month)) ≡ accepted (table, station, month)
      nine true e' = not-both e'
      nine false e' = refl
  given_by true true false e = not-both e
  given_by true false d e = not-both e
  given_by false s d e = not-both e

module _ (t : Bool) (table : Table) (s : Bool) (station : Station) (d : Bool) (month : Dated) where
  abbrev before : State
  before = state_of t table s station d month

  -- ---- a height

  module _ (minute : ℕ) where
    abbrev outside-height : Dated → Bool
    outside-height m = minute_outside m.prepared.last minute

    pub height-refused : (number place : ℕ) → minutes_by t s d (minute_outside month.prepared.last minute) ≡ refused number place → refused number place ≡ height_returns before minute
    unfolding height_returns
    height-refused number place e = sym (ap (height-of minute) (refused-by outside-height table station month t s d number place e))

    pub height-given : minutes_by t s d (minute_outside month.prepared.last minute) ≡ accepted tt → accepted (height_at month.prepared.constituents minute) ≡ height_returns before minute
    unfolding height_returns
    height-given e = sym (ap (height-of minute) (given_by outside-height table station month t s d e))

  -- ---- a series

  module _ (start step : ℕ) (heights : List ℤ) where
    abbrev outside-series : Dated → Bool
    outside-series m = series_outside m.prepared.last start step (length heights)

    pub series-refused : (number place : ℕ) → minutes_by t s d (series_outside month.prepared.last start step (length heights)) ≡ refused number place
        → record { returned = refused number place; heights = heights } ≡ series_gives before start step heights
    unfolding series_gives series_heights
    series-refused number place e = rw (ap (series-of start step (length heights)) (refused-by outside-series table station month t s d number place e))

    pub series-given : minutes_by t s d (series_outside month.prepared.last start step (length heights)) ≡ accepted tt
        → record { returned = accepted tt; heights = series_of (height_at month.prepared.constituents) start step (length heights) } ≡ series_gives before start step heights
    unfolding series_gives series_heights
    series-given e = rw (ap (series-of start step (length heights)) (given_by outside-series table station month t s d e))

  -- ---- turns

  module _ (first last : ℕ) (minutes : List ℕ) (heights : List ℤ) where
    abbrev outside-turns : Dated → Bool
    outside-turns m = turns_outside m.prepared.last first last

    pub turns-refused : (number place : ℕ) → minutes_by t s d (turns_outside month.prepared.last first last) ≡ refused number place
        → record { returned = refused number place; minutes = minutes; heights = heights } ≡ turns_gives before first last minutes heights
    unfolding turns_gives
    turns-refused number place e = sym (ap (turns-of first last minutes heights) (refused-by outside-turns table station month t s d number place e))

    pub turns-given : minutes_by t s d (turns_outside month.prepared.last first last) ≡ accepted tt
        → given (height_at month.prepared.constituents) (turns_of (slope_at month.prepared.constituents) (station_stride table station) first last) minutes heights
        ≡ turns_gives before first last minutes heights
    unfolding turns_gives
    turns-given e = sym (ap (turns-of first last minutes heights) (given_by outside-turns table station month t s d e))
