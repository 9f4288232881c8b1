-- 01, "Cosine": the cosine of an angle in ticks as an exact fraction, `cosine t / whole`.
-- Assumes nothing.
use Rattle.std.specs.Prelude.{ℕ, zero, suc, ◌+◌, ◌-◌, ◌*◌, ◌/◌, ◌%◌, ◌^◌, cond, eqb, ℤ, pos, neg_ℤ}
use Rattle.std.proofs.Math.IntN.{sub_ℕ}
use Rattle.angles.specs.Ticks.{turn}

-- T/4
abbrev pub quarter : ℕ
quarter = turn / 4

unfoldable pub factorial : ℕ → ℕ
factorial zero = 1
factorial (suc n) = suc n * factorial n

-- "angle 2 × (314159265358979/10^14) × ticks/T": the fraction `arc t / unit`
unfoldable pub arc : ℕ → ℕ
arc t = 2 * 314159265358979 * t

unfoldable pub unit : ℕ
unit = 10 ^ 14 * turn

-- "up to the 16th power": x^n / n! at that angle x is the fraction `term n t / whole`, for n to 16 (16! is a multiple of n!)
unfoldable pub whole : ℕ
whole = factorial 16 * unit ^ 16

unfoldable pub term : ℕ → ℕ → ℕ
term n t = factorial 16 / factorial n * unit ^ (16 - n) * arc t ^ n

-- "the nine terms of the cosine series": five are added, and four taken away
unfoldable pub added : ℕ → ℕ
added t = term 0 t + term 4 t + term 8 t + term 12 t + term 16 t

unfoldable pub taken : ℕ → ℕ
taken t = term 2 t + term 6 t + term 10 t + term 14 t

-- "Base fraction on 0 to T/4: the nine terms ..; exactly 0 at T/4." (`sub_ℕ a b` is a - b in ℤ.)
unfoldable pub base : ℕ → ℤ
base t = cond (eqb t quarter) (pos 0) (sub_ℕ (added t) (taken t))

-- "The usual quadrant signs extend it." In quadrants 0 to 3: f at r, -f at T/4 - r, -f at r, f at T/4 - r, for r ticks past the quadrant's start
abbrev pub in_quadrant : ℕ → ℤ → ℤ → ℤ
in_quadrant zero near far = near
in_quadrant (suc zero) near far = neg_ℤ far
in_quadrant (suc (suc zero)) near far = neg_ℤ near
in_quadrant (suc (suc (suc q))) near far = far

abbrev pub around : (ℕ → ℤ) → ℕ → ℤ
around f t = in_quadrant (t / quarter % 4) (f (t % quarter)) (f (quarter - t % quarter))

unfoldable pub cosine : ℕ → ℤ
cosine t = around base t

-- "Sine is the cosine a quarter turn earlier."
abbrev pub sine : ℕ → ℤ
sine t = cosine (t + 3 * quarter)
