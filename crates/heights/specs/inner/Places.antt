-- Only inner contracts cite this: the minutes of a list, and the places of a series in months that follow one another.
use Rattle.std.specs.Prelude.{ℕ, ◌+◌, ◌-◌, ◌*◌, ◌≤◌, ◌<◌, List, length, get_or}
use Rattle.limits.specs.Limits.{most_step, most_minutes}
use Rattle.month_prepared.specs.declared.months.Months.{Months}
use Rattle.month_prepared.specs.declared.months.InMonth.{InMonth}

-- minutes of a list, none later than the last
abbrev pub AllWithin : ℕ → List ℕ → Type 0
AllWithin last minutes = (k : ℕ) → k < length minutes → get_or minutes k 0 ≤ last

-- a series whose minutes are within the months: its step in range, and its start, and the minute of its last place, no later than their last
pub record SeriesWithin (last start step places : ℕ) : Type 0 where
  pub some : 0 < step
  pub short : step ≤ most_step
  pub starts : start ≤ last
  pub ends : start + (places - 1) * step ≤ last

-- a minute that a month owns: before its last, unless it is the last month
pub record IsOwn (months : Months) (own : InMonth) : Type 0 where
  pub there : own.month < months.many
  pub within : own.minute ≤ most_minutes
  pub before : own.month + 1 < months.many → own.minute < get_or months.lasts own.month 0

-- of the places left, the first of which stands at the month's own minute: some that all stand at minutes of its own
pub record PlacesPost (months : Months) (own : InMonth) (step left places : ℕ) : Type 0 where
  pub within : places ≤ left
  pub some : 0 < left → 0 < places
  pub before : (i : ℕ) → i < places → own.month + 1 < months.many → own.minute + i * step < get_or months.lasts own.month 0
