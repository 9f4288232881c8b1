-- A date's cases, by the flags of the state: refused by 21, 22 or 8, and the month that is prepared, or refused by 11. And of which date that month is.
-- Assumes nothing.
use Prim.{Unit}
use mathlib.Core.Path.{◌≡◌, refl, sym, ap}
use Prim.Native.Nat.{ℕ}
use mathlib.Core.Bool.{Bool, true, false, not}
use mathlib.Core.List.{List}
use Rattle.refusals.specs.Outcome.{Outcome, accepted, refused, refuse_if, answered, on_accepted, ◌>>=◌}
use Rattle.refusals.proofs.Laws.{not-both}
use Rattle.table.specs.Table.{Table}
use Rattle.station.specs.Station.{Station}
use Rattle.calendar.specs.Calendar.{in_range, month_minutes}
use Rattle.month_prepared.specs.Prepared.{Constituent}
use Rattle.month.specs.Month.{month_of}
use Rattle.calls.specs.State.{Maybe, none, some, Dated, State}
use Rattle.calls.specs.inner.Flags.{when, state_of, date_by}
use Rattle.calls.specs.Calls.{date_gives, date_returns, date_leaves}

-- a date that passes is in range, with a table and a station
pub date-passed : (t s : Bool) (year m : ℕ) → date_by t s year m ≡ accepted tt → (t ≡ true) × (s ≡ true) × (in_range year m ≡ true)
date-passed true true year m e = (refl, refl, by (in_range year m) e)
  where
    by : (c : Bool) → ◌≡◌ {A = Outcome Unit} (answered (refuse_if {A = Unit {0} × Unit {0}} (not c) 8 0 (accepted (tt, tt)))) (accepted tt) → c ≡ true
    by true e' = refl
    by false e' = not-both e'
date-passed true false year m e = not-both e
date-passed false s year m e = not-both e

-- a month that is prepared for a date
abbrev prepared_for : ℕ → ℕ → List Constituent → Dated
prepared_for year m constituents = record { year = year; month = m; prepared = record { last = month_minutes year m; constituents = constituents } }

module _ (table : Table) (station : Station) (d : Bool) (month : Dated) (year m : ℕ) where
  abbrev before : Bool → Bool → State
  before t s = state_of t table s station d month

  abbrev prepared : List Constituent → Dated
  prepared = prepared_for year m

  -- what is asked first is returned first
  gives-refused : (t s : Bool) (number place : ℕ) → date_by t s year m ≡ refused number place → date_gives (when t table) (when s station) year m ≡ refused number place
  unfolding date_gives
  gives-refused true true number place e = by (in_range year m) e
    where
      by : (c : Bool) → ◌≡◌ {A = Outcome Unit} (answered (refuse_if {A = Unit {0} × Unit {0}} (not c) 8 0 (accepted (tt, tt)))) (refused number place)
          → (refuse_if {A = Table × Station} (not c) 8 0 (accepted (table, station)) >>= λ (t, s). month_of t s year m >>= λ constituents. accepted (prepared constituents)) ≡ refused number place
      by true e' = not-both (sym e')
      by false e' = cc
  gives-refused true false number place e = cc
  gives-refused false s number place e = cc

  -- everything is as it was
  pub date-refused : (t s : Bool) (number place : ℕ) → date_by t s year m ≡ refused number place
      → (refused number place ≡ date_returns (before t s) year m) × (before t s ≡ date_leaves (before t s) year m)
  unfolding date_returns date_leaves
  date-refused t s number place e = (rw (gives-refused t s number place e), rw (gives-refused t s number place e))

  gives-prepared : (t s : Bool) → date_by t s year m ≡ accepted tt
      → date_gives (when t table) (when s station) year m ≡ (month_of table station year m >>= λ constituents. accepted (prepared constituents))
  unfolding date_gives
  gives-prepared t s e = let on = date-passed t s year m e in simp (on.0, on.1, on.2)

  -- table and station are kept, and the month is there where none of its records is too large
  abbrev left : (t s : Bool) → Outcome (List Constituent) → State
  left t s o = on_accepted o (λ constituents. record { table = (before t s).table; station = (before t s).station; month = some (prepared constituents) }) (before t s)

  pub date-prepared : (t s : Bool) → date_by t s year m ≡ accepted tt
      → (answered (month_of table station year m) ≡ date_returns (before t s) year m) × (left t s (month_of table station year m) ≡ date_leaves (before t s) year m)
  unfolding date_returns date_leaves
  date-prepared t s e = rw (gives-prepared t s e) (by (month_of table station year m))
    where
      by : (o : Outcome (List Constituent)) → (answered o ≡ answered (o >>= λ constituents. accepted (prepared constituents)))
          × (left t s o ≡ on_accepted (o >>= λ constituents. accepted (prepared constituents)) (λ left. record { table = (before t s).table; station = (before t s).station; month = some left }) (before t s))
      by (accepted constituents) = (refl, refl)
      by (refused number place) = (refl, refl)

-- what a date gives is prepared for that date, which is in range
pub date-given : (table : Maybe Table) (station : Maybe Station) (year m : ℕ) (dated : Dated) → date_gives table station year m ≡ accepted dated
    → (dated.year ≡ year) × (dated.month ≡ m) × (in_range year m ≡ true)
unfolding date_gives
date-given none station year m dated e = not-both e
date-given (some t) none year m dated e = not-both e
date-given (some t) (some s) year m dated e = by (in_range year m) e
  where
    same : (o : Outcome (List Constituent)) → (o >>= λ constituents. accepted (prepared_for year m constituents)) ≡ accepted dated → (dated.year ≡ year) × (dated.month ≡ m)
    same (accepted constituents) e' = let d : dated ≡ prepared_for year m constituents = cc in (ap (λ (x : Dated). x.year) d, ap (λ (x : Dated). x.month) d)
    same (refused number place) e' = not-both e'

    by : (c : Bool)
        → (refuse_if {A = Table × Station} (not c) 8 0 (accepted (t, s)) >>= λ (t, s). month_of t s year m >>= λ constituents. accepted (prepared_for year m constituents)) ≡ accepted dated
        → (dated.year ≡ year) × (dated.month ≡ m) × (c ≡ true)
    by true e' = let both = same (month_of t s year m) e' in (both.0, both.1, refl)
    by false e' = not-both e'
