-- The band of a year: each day from its lowest to its highest water. Assumes nothing.
use Rattle.std.specs.Prelude.{ℕ, ◌-◌, ◌*◌, ◌≡◌, List, ℤ, take, drop}
use Rattle.drawing_plots.specs.Heights.{highest_at, least_of, most_of}
use Rattle.drawing_plots.specs.declared.scale.Extent.{Extent}

-- a day's heights, of the year's hourly ones: from its midnight to the next, both among them
abbrev pub hours_of : ℕ → List ℤ → List ℤ
hours_of day hourly = take 25 (drop (day * 24) hourly)

-- the heights of the turns from one to before another
abbrev pub turns_from : List ℤ → ℕ → ℕ → List ℤ
turns_from heights from to = take (to - from) (drop from heights)

-- a day's lowest and highest water, of its hours and its turns
pub record DayBand (day : ℕ) (hourly heights : List ℤ) (from to : ℕ) (e : Extent) : Type 0 where
  pub lowest : e.low ≡ least_of (least_of highest_at (hours_of day hourly)) (turns_from heights from to)
  pub highest : e.high ≡ most_of (most_of 0 (hours_of day hourly)) (turns_from heights from to)
