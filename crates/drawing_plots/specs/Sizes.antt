-- Sizes of a plot, in units of the drawing, of which ten make a pixel; they follow from the size of its text.
-- Assumes nothing.
use Rattle.std.specs.Prelude.{ℕ, ◌+◌, ◌-◌, ◌*◌, ◌/◌}
use Rattle.drawing_plots.specs.declared.scale.Plot.{Plot}
use Rattle.drawing_plots.specs.declared.sizes.Frame.{Frame}

-- the right end of a plot, and its foot
abbrev pub right_of : Plot → ℕ
right_of p = p.left + p.width

abbrev pub foot_of : Plot → ℕ
foot_of p = p.top + p.depth

-- above and below a plot there is room for two lanes of labels: five lines and a half of text
abbrev pub margin_of : ℕ → ℕ
margin_of text = text * 5 + text / 2

-- the frame holds the plot and both rooms
abbrev pub frame_top : Plot → ℕ
frame_top p = p.top - margin_of p.text

abbrev pub frame_foot : Plot → ℕ
frame_foot p = foot_of p + margin_of p.text

abbrev pub frame_of : Plot → Frame
frame_of p = record { left = p.left; top = frame_top p; width = p.width; depth = frame_foot p - frame_top p }

-- from the first line of a label to the second: the text and a tenth of it
abbrev pub line_of : ℕ → ℕ
line_of text = text + text / 10

-- half the width that is kept for a label: that of 15/8 of its text
abbrev pub half_of : ℕ → ℕ
half_of text = text + text * 7 / 8
