-- Where things stand on a plot: the line of a height with its figure; a high or low water with its mark on the curve, and its label in a
-- lane above or below the plot.
-- Assumes nothing.
use Rattle.std.specs.Prelude.{ℕ, ◌+◌, ◌-◌, ◌*◌, ◌/◌, min, max, Bool, cond, ◌&&◌, ◌≡◌, ℤ, leb, Option, Some, None}
use Rattle.drawing_plots.specs.declared.scale.Lane.{Lane}
use Rattle.drawing_plots.specs.declared.scale.Lane.TheVariants.{Near, Far}
use Rattle.drawing_plots.specs.Heights.{raised}
use Rattle.drawing_plots.specs.Places.{across_of, down_of}
use Rattle.drawing_plots.specs.Lanes.{placed_of}
use Rattle.drawing_plots.specs.declared.scale.Plot.{Plot}
use Rattle.drawing_plots.specs.declared.scale.Lanes.{Lanes}
use Rattle.drawing_plots.specs.Sizes.{right_of, foot_of, line_of, half_of}
use Rattle.drawing_plots.specs.declared.spots.Level.{Level}
use Rattle.drawing_plots.specs.declared.spots.Spot.{Spot}

-- The line of a height goes across the plot. Its figure ends 60 units before the plot, and stands a third of its text below the line.
abbrev pub level_of : Plot → ℕ → Level
level_of p height =
    record {
      left = p.left;
      right = right_of p;
      down = down_of p height;
      end = p.left - 60;
      base = down_of p height + p.text / 3;
    }

-- a place across, kept half a label from the plot's right end, and in any case half a label from its left end
abbrev pub kept_within : Plot → ℕ → ℕ
kept_within p x = max (p.left + half_of p.text) (min x (right_of p - half_of p.text))

-- how far the first line of a label stands from the plot: the near lane is the nearest, and a lane has room for two lines
abbrev pub lane_room : ℕ → Option Lane → ℕ
lane_room text (Some Near) = line_of text + text / 2
lane_room text (Some Far) = line_of text + text / 2 + 2 * line_of text
lane_room text None = line_of text + text / 2 + 2 * line_of text

-- where that line stands from the top of the drawing: labels of high waters above the plot, those of low waters below it
abbrev pub label_down : Plot → Bool → Option Lane → ℕ
label_down p high lane = cond high (p.top - lane_room p.text lane) (foot_of p + lane_room p.text lane)

-- a thin line leads from a mark to 30 units beyond the plot, on its label's side
abbrev pub leader_end : Plot → Bool → ℕ
leader_end p high = cond high (p.top - 30) (foot_of p + 30)

-- The mark stands at the turn's minute and height; its label in the lane that is free for it, as near to it as the plot's ends let it be.
pub record SpotPost (p : Plot) (l : Lanes) (minute : ℕ) (height : ℤ) (high : Bool) (r : Spot) : Type 0 where
  pub x : r.x ≡ across_of p (minute - p.first)
  pub y : r.y ≡ down_of p (raised height)
  pub leader : r.leader ≡ leader_end p high
  pub middle : r.middle ≡ kept_within p r.x
  pub placed : r.placed ≡ placed_of l r.middle (half_of p.text)
  pub down : r.down ≡ label_down p high r.placed.lane

-- a turn belongs to the plot whose first and last minute hold it
abbrev pub belongs_to : Plot → ℕ → Bool
belongs_to p minute = leb p.first minute && leb minute p.last
