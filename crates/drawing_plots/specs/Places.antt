-- Places on a drawing: a minute's distance from the left, a height's from the top.
-- Assumes nothing.
use Rattle.std.specs.Prelude.{ℕ, ◌+◌, ◌-◌, ◌*◌, ◌/◌, cond, leb}
use Rattle.drawing_plots.specs.declared.scale.Plot.{Plot}

-- A part of a whole, as the same part of a length, rounded down; the length itself from the whole on
abbrev pub share : ℕ → ℕ → ℕ → ℕ
share part whole length = cond (leb whole part) length (part * length / whole)

-- minutes, counted from the plot's first, go across it from its left
abbrev pub across_of : Plot → ℕ → ℕ
across_of p minute = p.left + share minute p.minutes p.width

-- raised heights go up the plot from its foot
abbrev pub down_of : Plot → ℕ → ℕ
down_of p height = p.top + (p.depth - share (height - p.low) p.span p.depth)
