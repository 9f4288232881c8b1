-- The turns of a whole year: those of the clock's own year, and at most three behind them. Assumes nothing.
use Rattle.std.specs.Prelude.{ℕ, List, ℤ, Result}
use Rattle.calendar.specs.Calendar.{year_minutes}
use Rattle.calls.specs.declared.annual.Sheet.{Sheet}
use Rattle.clock.specs.declared.Clock.{Clock}
use Rattle.clock.specs.Returned.{turns_returned}
use Rattle.clock.specs.Posts.{YearPost}
use Rattle.refusals.specs.declared.Refused.{Refused}
use Rattle.turns.specs.declared.search.Summary.{Summary}
use Rattle.monthturns.specs.Month.{Beside, count_of}
use Rattle.monthturns.specs.inner.Kept.{Kept}

-- a series from the year's first minute on, and a search over the whole year
abbrev pub whole_year : ℕ → ℕ → Sheet
whole_year year step = record { year = year; start = 0; step = step; first = 0; last = year_minutes year }

-- the clock's own answer over the whole year and what it writes, of which the series and the first turns are kept
pub record YearTurns (c : Clock) (year step : ℕ) (series series_left : List ℤ) (minutes minutes_left : List ℕ) (heights heights_left : List ℤ) (answer : Result Summary Refused) : Type 0 where
  pub own : Result Summary Refused
  pub minutes_own : List ℕ
  pub heights_own : List ℤ
  pub asked : YearPost c (whole_year year step) series series_left minutes minutes_own heights heights_own (turns_returned own)
  pub beside : Beside own answer
  pub kept : Kept (count_of own) minutes_own minutes_left heights_own heights_left
