-- Where the plots of a drawing stand, in units of the drawing, and which minutes of the month are theirs: a day has one plot, a month one
-- for each week from its first day on.
-- Assumes nothing.
use Rattle.std.specs.Prelude.{ℕ, ◌+◌, ◌-◌, ◌*◌, min}
use Rattle.drawing_plots.specs.declared.scale.Plot.{Plot}
use Rattle.drawing_plots.specs.declared.scale.Scale.{Scale}

-- the minute of the month after so many days, of 31 at most
abbrev pub after_days : ℕ → ℕ
after_days days = min days 31 * 1_440

-- the first minute of a day of the month
abbrev pub day_first : ℕ → ℕ
day_first day = after_days day - 1_440

-- A day's last minute is the one before midnight; where no day of the month follows, the month's last.
abbrev pub day_last : ℕ → ℕ → ℕ
day_last day days = after_days day - min (days - day) 1

-- how many heights a month of some days has, 20 minutes apart, with both ends
abbrev pub month_count : ℕ → ℕ
month_count days = min days 31 * 72 + 1

-- A day's plot: 8,640 wide and 2,600 deep, six units a minute
abbrev pub day_plot : Scale → ℕ → ℕ → Plot
day_plot lines day days =
    record {
      left = 700;
      width = 8_640;
      top = 1_720;
      depth = 2_600;
      minutes = 1_440;
      low = lines.low;
      span = lines.high - lines.low;
      step = lines.step;
      text = 125;
      first = day_first day;
      last = day_last day days;
    }

-- the days of a month's week; 0 where the month has no such week
abbrev pub week_days : ℕ → ℕ → ℕ
week_days days week = min (days - week * 7) 7

-- A week's last minute is the one before the next week's first; where no week follows, the month's last.
abbrev pub week_last : ℕ → ℕ → ℕ
week_last days week = week * 10_080 + week_days days week * 1_440 - min (week_days days (week + 1)) 1

-- A week's plot: 1,234 to a day, 1,050 deep, 2,270 below that of the week before
abbrev pub week_plot : Scale → ℕ → ℕ → Plot
week_plot lines days week =
    record {
      left = 700;
      width = week_days days week * 1_234;
      top = 1_480 + week * 2_270;
      depth = 1_050;
      minutes = week_days days week * 1_440;
      low = lines.low;
      span = lines.high - lines.low;
      step = lines.step;
      text = 88;
      first = week * 10_080;
      last = week_last days week;
    }

-- where the foot of a month's drawing stands: under its four weeks, and its fifth where it has more than 28 days
abbrev pub month_foot : ℕ → ℕ
month_foot days = 1_480 + (4 + min (days - 28) 1) * 2_270 - 260

-- A year's plot: 24 to a day, 2,600 deep. Hours are counted across it in place of minutes.
abbrev pub year_plot : Scale → ℕ → Plot
year_plot lines days =
    record {
      left = 700;
      width = days * 24;
      top = 1_480;
      depth = 2_600;
      minutes = days * 24;
      low = lines.low;
      span = lines.high - lines.low;
      step = lines.step;
      text = 88;
      first = 0;
      last = days * 24;
    }
