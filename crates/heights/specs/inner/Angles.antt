-- Only inner contracts cite this: what an array of angles holds at a minute, place by place.
-- Assumes nothing.
use Rattle.std.specs.Prelude.{ℕ, ◌+◌, ◌*◌, ◌%◌, ◌<◌, ◌≡◌, List, ℤ, get_or}
use Rattle.angles.specs.Ticks.{turn}
use Rattle.month_prepared.specs.inner.View.{constituents_from}
use Rattle.heights.specs.Angle.{angle}
use Rattle.heights.specs.Height.{height_at}

-- each of the first `count` is the angle of the constituent at its place
abbrev pub Angles : List ℕ → List ℕ → List ℕ → ℕ → ℕ → List ℕ → Type 0
Angles arguments lags frequencies count minute angles =
    (k : ℕ) → k < count → get_or angles k 0 ≡ angle (get_or arguments k 0) (get_or lags k 0) (get_or frequencies k 0) minute

-- each of the first `count` is what the constituent at its place advances in `step` minutes
abbrev pub Advances : List ℕ → ℕ → ℕ → List ℕ → Type 0
Advances frequencies count step advances =
    (k : ℕ) → k < count → get_or advances k 0 ≡ 1_314 * get_or frequencies k 0 * step % turn

-- each of the first `count` is less than a turn
abbrev pub Below : ℕ → List ℕ → Type 0
Below count angles = (k : ℕ) → k < count → get_or angles k 0 < turn

-- each of the first `count` is moved on by its own ticks
abbrev pub MovedOn : ℕ → List ℕ → List ℕ → List ℕ → Type 0
MovedOn count ticks angles later = (k : ℕ) → k < count → get_or later k 0 ≡ (get_or angles k 0 + get_or ticks k 0) % turn

-- the height of constituents with these weights, at whatever minute the angles are theirs
abbrev pub HeightOf : List ℕ → List ℤ → List ℤ → ℕ → ℤ → Type 0
HeightOf angles ps qs count height =
    (arguments lags frequencies : List ℕ) (minute : ℕ) →
    Angles arguments lags frequencies count minute angles →
    height ≡ height_at (constituents_from arguments lags frequencies ps qs count) minute
