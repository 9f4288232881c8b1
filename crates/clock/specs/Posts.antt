-- What each call promises, by value or by reference: one record for each. What it returns, in 01's numbers and values, and what it leaves
-- equal the definition of `Calls`.
-- Assumes nothing.
use Prim.{Unit}
use Rattle.std.specs.Prelude.{ℕ, List, ◌≡◌, ℤ}
use Rattle.refusals.specs.Outcome.{Outcome}
use Rattle.station.specs.Station.{Station}
use Rattle.calls.specs.State.{empty_state}
use Rattle.turns.specs.Written.{TurnsFound}
use Rattle.calls.specs.Calls.{cards_returns, cards_leaves, station_returns, station_leaves, date_returns, date_leaves, height_returns, series_gives, turns_gives}
use Rattle.calls.specs.declared.annual.Sheet.{Sheet}
use Rattle.calls.specs.Year.{year_gives}
use Rattle.calls.specs.Bookings.{bookings_gives}
use Rattle.calls.specs.Hourly.{hourly_gives}
use Rattle.clock.specs.View.{view, Made}
use Rattle.clock.specs.declared.Clock.{Clock}

pub record NewPost (r : Clock) : Type 0 where
  pub made : Made r
  pub leaves : view r ≡ empty_state

pub record CardsPost (c : Clock) (file : List ℕ) (returned : Outcome Unit) (left : Clock) : Type 0 where
  pub made : Made left
  pub returns : returned ≡ cards_returns file
  pub leaves : view left ≡ cards_leaves (view c) file

pub record StationPost (c : Clock) (station : Station) (returned : Outcome Unit) (left : Clock) : Type 0 where
  pub made : Made left
  pub returns : returned ≡ station_returns (view c) station
  pub leaves : view left ≡ station_leaves (view c) station

pub record DatePost (c : Clock) (year month : ℕ) (returned : Outcome Unit) (left : Clock) : Type 0 where
  pub made : Made left
  pub returns : returned ≡ date_returns (view c) year month
  pub leaves : view left ≡ date_leaves (view c) year month

pub record HeightPost (c : Clock) (minute : ℕ) (returned : Outcome ℤ) : Type 0 where
  pub returns : returned ≡ height_returns (view c) minute

pub record SeriesPost (c : Clock) (start step : ℕ) (heights left : List ℤ) (returned : Outcome Unit) : Type 0 where
  pub gives : record { returned = returned; heights = left } ≡ series_gives (view c) start step heights

pub record TurnsPost (c : Clock) (first last : ℕ) (minutes minutes_left : List ℕ) (heights heights_left : List ℤ) (returned : Outcome TurnsFound) : Type 0 where
  pub gives : record { returned = returned; minutes = minutes_left; heights = heights_left } ≡ turns_gives (view c) first last minutes heights

-- the clock is given by value, and stays as it was: "the prepared month stays, whether the year is given or refused"
pub record YearPost (c : Clock) (sheet : Sheet) (series series_left : List ℤ) (minutes minutes_left : List ℕ) (heights heights_left : List ℤ) (returned : Outcome TurnsFound) : Type 0 where
  pub gives : record { returned = returned; series = series_left; minutes = minutes_left; heights = heights_left } ≡ year_gives (view c) sheet series minutes heights

-- the clock is given by value, or lent to be read: "a call that a request adds leaves table, station and month as they were"
pub record BookingsPost (c : Clock) (minutes : List ℕ) (heights left : List ℤ) (returned : Outcome Unit) : Type 0 where
  pub gives : record { returned = returned; heights = left } ≡ bookings_gives (view c) minutes heights

-- the clock is given by value, or lent to be read, and stays as it was
pub record HourlyPost (c : Clock) (number : ℕ) (buffer left : List ℕ) (returned : Outcome ℕ) : Type 0 where
  pub gives : record { returned = returned; buffer = left } ≡ hourly_gives (view c) number buffer
