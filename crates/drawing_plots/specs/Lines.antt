-- The lines of a height axis: multiples of a round step, few enough to be read.
-- Assumes nothing.
use Rattle.std.specs.Prelude.{ℕ, ◌+◌, ◌-◌, ◌*◌, ◌/◌, ◌≤◌, ◌<◌, Bool, cond, List, [], ◌∷◌, ◌≡◌, leb, ltb}
use Rattle.drawing_plots.specs.declared.scale.Extent.{Extent}
use Rattle.drawing_plots.specs.declared.scale.Scale.{Scale}

-- the last line that is not above a height, and the first that is not below it
abbrev pub line_below : ℕ → ℕ → ℕ
line_below height step = height / step * step

abbrev pub line_above : ℕ → ℕ → ℕ
line_above height step = (height + step - 1) / step * step

-- at most so many steps reach from the line below the lowest to the line above the highest
abbrev pub fits : Extent → ℕ → ℕ → Bool
fits e most step = leb (line_above e.high step) (line_below e.low step + most * step)

-- Round steps, in tenths of a millimetre: 1, 2 and 5 times a power of ten, from a centimetre to 100,000 metres
abbrev pub round_steps : List ℕ
round_steps =
    100
    ∷ 200
    ∷ 500
    ∷ 1_000
    ∷ 2_000
    ∷ 5_000
    ∷ 10_000
    ∷ 20_000
    ∷ 50_000
    ∷ 100_000
    ∷ 200_000
    ∷ 500_000
    ∷ 1_000_000
    ∷ 2_000_000
    ∷ 5_000_000
    ∷ 10_000_000
    ∷ 20_000_000
    ∷ 50_000_000
    ∷ 100_000_000
    ∷ 200_000_000
    ∷ 500_000_000
    ∷ 1_000_000_000
    ∷ []

-- the first of some steps that fits; the largest of all where none does
unfoldable pub first_fit : Extent → ℕ → List ℕ → ℕ
first_fit e most [] = 1_000_000_000
first_fit e most (s ∷ ss) = cond (fits e most s) s (first_fit e most ss)

-- the step of an axis
unfoldable pub round_step : Extent → ℕ → ℕ
round_step e most = first_fit e most round_steps

-- The axis of an extent: its lines run from the line below the lowest height to the line above the highest, or to the next line
-- where those two are one; and so it holds every height between the two.
pub record ScalePost (e : Extent) (most : ℕ) (s : Scale) : Type 0 where
  pub step : s.step ≡ round_step e most
  pub low : s.low ≡ line_below e.low s.step
  pub high :
      s.high ≡ cond (ltb s.low (line_above e.high s.step)) (line_above e.high s.step) (s.low + s.step)
  pub holds-low : s.low ≤ e.low
  pub holds-high : e.high ≤ s.high
  pub rises : s.low < s.high
