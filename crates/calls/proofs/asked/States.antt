-- What calls ask by their flags: the state first, and then their own question. By the cases of the flags. Assumes nothing.
use Prim.{Unit}
use Prim.Native.Nat.{ℕ}
use mathlib.Core.Path.{◌≡◌, refl, sym}
use mathlib.Core.Bool.{Bool, true, false, not}
use lib.Dec.{ltb}
use Rattle.refusals.specs.Outcome.{Outcome, accepted, refused, refuse_if, ◌>>◌, answered}
use Rattle.refusals.proofs.Laws.{not-both}
use Rattle.calendar.specs.Calendar.{in_range, year_in_range}
use Rattle.table.specs.Table.{Table}
use Rattle.station.specs.Station.{Station}
use Rattle.calls.specs.Calls.{station_returns}
use Rattle.hourly.specs.Month.{most_station_number}
use Rattle.calls.specs.inner.Flags.{tabled_only, state_by, date_by, minutes_by, year_by, hourly_by}

pub minutes-by : (t s d outside : Bool) → minutes_by t s d outside ≡ (state_by t s d >> refuse_if outside 9 0 (accepted tt))
minutes-by true true true true = refl
minutes-by true true true false = refl
minutes-by true true false outside = refl
minutes-by true false d outside = refl
minutes-by false s d outside = refl

-- 8 is asked of a table and a station that are there
eight : (outside : Bool) → ◌≡◌ {A = Outcome (Unit {0})} (answered {A = Unit {0} × Unit {0}} (refuse_if outside 8 0 (accepted (tt, tt)))) (refuse_if outside 8 0 (accepted tt))
eight true = refl
eight false = refl

pub date-by : (t s : Bool) (year month : ℕ) → date_by t s year month ≡ (state_by t s true >> refuse_if (not (in_range year month)) 8 0 (accepted tt))
date-by true true year month = eight (not (in_range year month))
date-by true false year month = refl
date-by false s year month = refl

pub year-by : (t s : Bool) (year : ℕ) → year_by t s year ≡ (state_by t s true >> refuse_if (not (year_in_range year)) 8 0 (accepted tt))
year-by true true year = eight (not (year_in_range year))
year-by true false year = refl
year-by false s year = refl

-- 32 is asked of a table, a station and a month that are there
thirty_two : (over : Bool) → ◌≡◌ {A = Outcome (Unit {0})} (answered {A = Unit {0} × Unit {0} × Unit {0}} (refuse_if over 32 0 (accepted (tt, tt, tt)))) (refuse_if over 32 0 (accepted tt))
thirty_two true = refl
thirty_two false = refl

pub hourly-by : (t s d : Bool) (number : ℕ) → hourly_by t s d number ≡ (state_by t s d >> refuse_if (ltb most_station_number number) 32 0 (accepted tt))
hourly-by true true true number = thirty_two (ltb most_station_number number)
hourly-by true true false number = refl
hourly-by true false d number = refl
hourly-by false s d number = refl

-- a station asks for a table alone
pub table-there : (t : Bool) → state_by t true true ≡ accepted tt → t ≡ true
table-there true e = refl
table-there false e = not-both e

pub table-missing : (t : Bool) (table : Table) (station : Station) (number place : ℕ) → state_by t true true ≡ refused number place
    → station_returns (tabled_only t table) station ≡ refused number place
unfolding station_returns
table-missing true table station number place e = not-both (sym e)
table-missing false table station number place e = e
