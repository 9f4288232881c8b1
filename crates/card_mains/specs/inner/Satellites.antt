-- Only inner contracts cite this: what the code's rows of satellites stand for in 01's terms.
use Rattle.std.specs.Prelude.{ℕ, ◌<◌, ◌*◌, ◌≡◌, List, length, ℤ}
use Rattle.limits.specs.Limits.{most_satellites}

-- the entries before one are as they were
abbrev pub AsBefore : {A : Type 0} → (ℕ → A) → (ℕ → A) → ℕ → Type 0
AsBefore now before n = (k : ℕ) → k < n → now k ≡ before k

-- the arrays of satellites have all their rows
abbrev pub SatelliteRoom : List ℤ → List ℕ → Type 0
SatelliteRoom angles ratios = (length angles ≡ 4 * most_satellites) × (length ratios ≡ 2 * most_satellites)
