-- What the document gives for a call, by its cases: a refusal, with the lent buffers as they were, or what is there, from the month or the
-- year's months that are asked for. By going through what is asked first, in its order. Assumes nothing.
use Prim.Native.Nat.{ℕ}
use mathlib.Core.Bool.{Bool, true, false, not}
use mathlib.Core.List.{List, [], map}
use mathlib.Core.Path.{◌≡◌}
use lib.ListN.{length, length-map}
use lib.IntN.{ℤ}
use Rattle.refusals.specs.Outcome.{Outcome, accepted, refused, refuse_if, on_accepted, ◌>>=◌}
use Rattle.calendar.specs.Calendar.{year_in_range}
use Rattle.table.specs.Table.{Table}
use Rattle.station.specs.Station as station
use Rattle.month_prepared.specs.Prepared.{Month}
use Rattle.year.specs.Year.{year_of}
use Rattle.heights.specs.Height.{height_at, height_over}
use Rattle.heights.specs.Series.{series_of}
use Rattle.turns.specs.Slope.{slope_at, slope_over}
use Rattle.turns.specs.Search.{Turn, turns_of, first_high, minutes_of}
use Rattle.turns.specs.Strides.{station_stride}
use Rattle.turns.specs.Written.{TurnsGiven, unless_refused, too_many, from_front, given}
use Rattle.calls.specs.State as state
use Rattle.calls.specs.State.{Maybe, Dated}
use Rattle.calls.specs.Calls.{ready, turns_gives}
use Rattle.calls.specs.Asked.{turns_outside}
use Rattle.calls.specs.declared.annual.Sheet.{Sheet}
use Rattle.calls.specs.Year.{sheet_outside, sheet_asked, YearGiven, unless_turned_down, beside, sheet_over, year_gives}
use Rattle.calls.proofs.Posed.{Asked, turns-of}
use Rattle.claim.specs.Document.{months_on}

-- ---- what is asked first: a refusal, or the month that is there

pub ready_by : (P : Maybe Dated → Asked → Type 0) (outside : Dated → Bool) → ((m : Maybe Dated) (number : ℕ) → P m (refused number 0))
    → ((t : Table) (s : station.Station) (m : Dated) → P (state.some m) (accepted (t, s, m)))
    → (t : Maybe Table) (s : Maybe station.Station) (m : Maybe Dated) → P m (ready outside (record { table = t; station = s; month = m }))
ready_by P outside turned there state.none s m = turned m 21
ready_by P outside turned there (state.some t) state.none m = turned m 22
ready_by P outside turned there (state.some t) (state.some s) state.none = turned state.none 23
ready_by P outside turned there (state.some t) (state.some s) (state.some m) = nine (outside m)
  where
    nine : (past : Bool) → P (state.some m) (refuse_if past 9 0 (accepted (t, s, m)))
    nine true = turned (state.some m) 9
    nine false = there t s m

-- .. or the year's months
abbrev AskedOfYear : Type 0
AskedOfYear = Outcome (Table × station.Station × List Month)

sheet-by : (P : List Month → AskedOfYear → Type 0) (sheet : Sheet) (places : ℕ) → ((months : List Month) (number place : ℕ) → P months (refused number place))
    → ((t : Table) (s : station.Station) (months : List Month) → P months (accepted (t, s, months)))
    → (t : Maybe Table) (s : Maybe station.Station) (m : Maybe Dated) → P (months_on t s sheet.year) (sheet_asked (record { table = t; station = s; month = m }) sheet places)
unfolding sheet_asked
sheet-by P sheet places turned there state.none s m = turned [] 21 0
sheet-by P sheet places turned there (state.some t) state.none m = turned [] 22 0
sheet-by P sheet places turned there (state.some t) (state.some s) m = eight (not (year_in_range sheet.year))
  where
    nine : (months : List Month) (past : Bool) → P months (refuse_if past 9 0 (accepted (t, s, months)))
    nine months true = turned months 9 0
    nine months false = there t s months

    eleven : (o : Outcome (List Month)) → P (on_accepted o (λ months. months) []) (o >>= λ months. refuse_if (sheet_outside sheet places) 9 0 (accepted (t, s, months)))
    eleven (accepted months) = nine months (sheet_outside sheet places)
    eleven (refused number place) = turned [] number place

    eight : (out : Bool) → P (on_accepted (refuse_if out 8 0 (accepted (t, s)) >>= λ (t, s). year_of t s sheet.year) (λ months. months) [])
        (refuse_if out 8 0 (accepted (t, s)) >>= λ (t, s). year_of t s sheet.year >>= λ months. refuse_if (sheet_outside sheet places) 9 0 (accepted (t, s, months)))
    eight true = turned [] 8 0
    eight false = eleven (year_of t s sheet.year)

-- ---- turns: a refusal, with both buffers as they were, or what was found, in front of both

abbrev pub none_found : ℕ → List ℕ → List ℤ → TurnsGiven
none_found number ms hs = record { returned = refused number 0; minutes = ms; heights = hs }

abbrev pub all_found : (ℕ → ℤ) → List Turn → List ℕ → List ℤ → TurnsGiven
all_found height ts ms hs =
    record {
      returned = accepted (record { count = length ts; high = first_high ts });
      minutes = from_front (minutes_of ts) ms;
      heights = from_front (map height (minutes_of ts)) hs;
    }

given_by : (P : TurnsGiven → Type 0) (height : ℕ → ℤ) (ts : List Turn) (ms : List ℕ) (hs : List ℤ) → P (none_found 10 ms hs) → P (all_found height ts ms hs) → P (given height ts ms hs)
unfolding given
given_by P height ts ms hs none all = room (too_many ts (length ms) (length hs))
  where
    room : (short : Bool) → P (unless_refused (refuse_if short 10 0 (accepted ts)) ms hs λ ts. all_found height ts ms hs)
    room true = none
    room false = all

pub turns-give : (P : Maybe Dated → TurnsGiven → Type 0) (first last : ℕ) (ms : List ℕ) (hs : List ℤ) → ((m : Maybe Dated) (number : ℕ) → P m (none_found number ms hs))
    → ((m : Dated) (ts : List Turn) → P (state.some m) (all_found (height_at m.prepared.constituents) ts ms hs))
    → (t : Maybe Table) (s : Maybe station.Station) (m : Maybe Dated) → P m (turns_gives (record { table = t; station = s; month = m }) first last ms hs)
unfolding turns_gives
turns-give P first last ms hs none all =
    ready_by (λ m o. P m (turns-of first last ms hs o)) (λ m. turns_outside m.prepared.last first last) none (λ t s m.
    let ts : List Turn = turns_of (slope_at m.prepared.constituents) (station_stride t s) first last in
    given_by (P (state.some m)) (height_at m.prepared.constituents) ts ms hs (none (state.some m) 10) (all m ts))

pub as_many : (ts : List Turn) → length (minutes_of ts) ≡ length ts
as_many ts = length-map ts (λ (u : Turn). u.minute)

-- ---- a year's sheet: a refusal, with the three buffers as they were, or the series and the turns

pub year-gives : (P : List Month → YearGiven → Type 0) (sheet : Sheet) (ss : List ℤ) (ms : List ℕ) (hs : List ℤ)
    → ((months : List Month) (number place : ℕ) → P months (record { returned = refused number place; series = ss; minutes = ms; heights = hs }))
    → ((months : List Month) (ts : List Turn) → P months (beside (all_found (height_over months) ts ms hs) (series_of (height_over months) sheet.start sheet.step (length ss)) ss))
    → (t : Maybe Table) (s : Maybe station.Station) (m : Maybe Dated) → P (months_on t s sheet.year) (year_gives (record { table = t; station = s; month = m }) sheet ss ms hs)
unfolding year_gives
year-gives P sheet ss ms hs none all =
    sheet-by (λ months o. P months (unless_turned_down o ss ms hs λ (t, s, months). sheet_over months (station_stride t s) sheet ss ms hs)) sheet (length ss) none (λ t s months.
    let ts : List Turn = turns_of (slope_over months) (station_stride t s) sheet.first sheet.last in
    let new : List ℤ = series_of (height_over months) sheet.start sheet.step (length ss) in
    given_by (λ g. P months (beside g new ss)) (height_over months) ts ms hs (none months 10 0) (all months ts))
