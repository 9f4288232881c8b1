-- The months of a year, whose minutes are counted from 1 January: a month's turns, and the highest and the lowest of them. Assumes nothing.
use Rattle.std.specs.Prelude.{ℕ, zero, suc, ◌+◌, ◌-◌, ◌*◌, Bool, true, false, cond, List, ltb, ℤ}
use Rattle.drawing_plots.specs.Heights.{raised}
use Rattle.calendar.specs.Calendar.{month_days, months_days, months_a_year}
use Rattle.swings.specs.Swings.{height_at, turn_from, day_end}
use Rattle.swings.specs.declared.months.Month.{Month}

-- a turn's height, as a drawing counts it
abbrev pub raised_at : List ℤ → ℕ → ℕ
raised_at heights i = raised (height_at heights i)

-- whether a height lies beyond another: above it where the highest is sought, below it where the lowest is
abbrev pub is_beyond : Bool → ℕ → ℕ → Bool
is_beyond high a b = cond high (ltb b a) (ltb a b)

-- the highest or the lowest of n turns from one on, the first of several; that one where there is none
unfoldable pub extreme_turn : Bool → List ℤ → ℕ → ℕ → ℕ
extreme_turn high heights from zero = from
extreme_turn high heights from (suc n) =
    cond (is_beyond high (raised_at heights (from + n)) (raised_at heights (extreme_turn high heights from n))) (from + n) (extreme_turn high heights from n)

abbrev pub highest_turn : List ℤ → ℕ → ℕ → ℕ
highest_turn = extreme_turn true

abbrev pub lowest_turn : List ℤ → ℕ → ℕ → ℕ
lowest_turn = extreme_turn false

-- the days of the year before a month, and those of the whole year
abbrev pub days_before : ℕ → ℕ → ℕ
days_before year month = months_days year (month - 1)

abbrev pub year_days : ℕ → ℕ
year_days year = months_days year months_a_year

-- "Midnight at a month's end belongs to the month that begins": a month's turns begin with the first one at or behind its first minute
abbrev pub month_from : ℕ → ℕ → ℕ → List ℕ → ℕ
month_from year month count minutes = turn_from minutes (days_before year month * 1_440) 0 count

-- and end where those of its last day do; the year's last day has the turn at "the year's last instant"
abbrev pub month_to : ℕ → ℕ → ℕ → List ℕ → ℕ
month_to year month count minutes =
    day_end minutes (month_from year month count minutes) count (days_before year month + month_days year month) (year_days year)

-- how many
abbrev pub month_turns : ℕ → ℕ → ℕ → List ℕ → ℕ
month_turns year month count minutes = month_to year month count minutes - month_from year month count minutes

-- a month of a year that has so many turns
abbrev pub month_of : ℕ → ℕ → ℕ → List ℕ → List ℤ → Month
month_of year month count minutes heights =
    record {
      before = days_before year month;
      days = month_days year month;
      from = month_from year month count minutes;
      to = month_to year month count minutes;
      highest = highest_turn heights (month_from year month count minutes) (month_turns year month count minutes);
      lowest = lowest_turn heights (month_from year month count minutes) (month_turns year month count minutes);
    }
