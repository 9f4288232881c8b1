-- 01, "Heights and turns": a series, for any height (a minute's).
-- Assumes nothing.
use Rattle.std.specs.Prelude.{ℕ, zero, suc, ◌+◌, ◌*◌, List, [], ◌∷◌, ℤ}

-- "a series' height n, from 0, at start + n × step": `left` heights from height n on
unfoldable pub series_from : (ℕ → ℤ) → ℕ → ℕ → ℕ → ℕ → List ℤ
series_from height start step n zero = []
series_from height start step n (suc left) = height (start + n * step) ∷ series_from height start step (n + 1) left

-- "A series has a start, a step .., and one height for each lent place."
abbrev pub series_of : (ℕ → ℤ) → ℕ → ℕ → ℕ → List ℤ
series_of height start step places = series_from height start step 0 places
