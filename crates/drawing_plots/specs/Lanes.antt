-- Labels in two lanes: a label stands `half` to both sides of its place, and no two labels of a lane touch.
-- Assumes nothing.
use Rattle.std.specs.Prelude.{ℕ, ◌+◌, cond, leb, Some, None}
use Rattle.drawing_plots.specs.declared.scale.Lane.TheVariants.{Near, Far}
use Rattle.drawing_plots.specs.declared.scale.Lanes.{Lanes}
use Rattle.drawing_plots.specs.declared.scale.Placed.{Placed}

-- A label goes into the first lane that is free from its left end on, which is then free from its right end on; or into none.
abbrev pub placed_of : Lanes → ℕ → ℕ → Placed
placed_of l x half =
    cond (leb (l.first + half) x)
    (record { lane = Some Near; lanes = record { first = x + half; second = l.second } })
    (cond (leb (l.second + half) x)
    (record { lane = Some Far; lanes = record { first = l.first; second = x + half } })
    (record { lane = None; lanes = l }))
