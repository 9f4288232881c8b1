-- 01, "Cosine": the table, and the fixed cosine in units of 2^-30.
-- Assumes nothing.
use Rattle.std.specs.Prelude.{◌≡◌, List, ℕ, ◌+◌, ◌*◌, ◌/◌, ◌%◌, ◌^◌, ◌≤◌, ◌<◌, cond, eqb, ℤ, pos, nat_abs, ◌+ℤ◌, ◌-ℤ◌, ◌*ℤ◌, get_or}
use Rattle.angles.specs.Floor.{floor_div}
use Rattle.cosine.specs.Fraction.{quarter, whole, base, around, cosine, sine}

-- Cosines are counted in units of 2^-30.
abbrev pub one : ℕ
one = 2 ^ 30

-- 02, No. 5: "Divide the quarter turn into 2,048 parts of 96,240,234,375 ticks, 2,049 entries under the same nearest rule. The fixed cosine
-- is then promised within 256". Another table changes these three, and src/constants.rt.
abbrev pub entries : ℕ
entries = 2_049

abbrev pub step : ℕ
step = 96_240_234_375

abbrev pub bound : ℕ
bound = 256

-- the whole number nearest m / n: floor(m / n + 1/2)
abbrev pub nearest : ℤ → ℕ → ℤ
nearest m n = floor_div (pos 2 *ℤ m +ℤ pos n) (2 * n)

-- "each the whole number nearest 2^30 times the base fraction at i × .. ticks", for steps of h ticks: C(i) is `entry step i`.
unfoldable pub entry : ℕ → ℕ → ℤ
entry h i = nearest (pos one *ℤ base (i * h)) whole

-- The same as a relation: c is a whole number nearest 2^30 × m / whole, at most a half from it, both sides times 2 × `whole`. (proofs/Computed.antt: each entry is.)
abbrev pub IsNearest : ℤ → ℤ → Type 0
IsNearest c m = nat_abs (pos 2 *ℤ c *ℤ pos whole -ℤ pos (2 * one) *ℤ m) ≤ whole

-- "For remainder r past entry i the fixed cosine is C(i) when r is 0, else C(i) - floor((C(i) - C(i+1)) × r / ..),"
abbrev pub line : ℕ → ℤ → ℤ → ℕ → ℤ
line h c d r = cond (eqb r 0) c (c -ℤ floor_div ((c -ℤ d) *ℤ pos r) h)

unfoldable pub fixed_base : ℕ → ℕ → ℤ
fixed_base h t = line h (entry h (t / h)) (entry h (t / h + 1)) (t % h)

-- "with the same signs."
unfoldable pub fixed_cosine : ℕ → ℤ
fixed_cosine t = around (fixed_base step) t

-- "Sine is the cosine a quarter turn earlier."
abbrev pub fixed_sine : ℕ → ℤ
fixed_sine t = fixed_cosine (t + 3 * quarter)

-- "It is within .. of 2^30 times the fraction": |f - 2^30 × c / whole| ≤ e, both sides times `whole`
abbrev pub Within : ℕ → ℤ → ℤ → Type 0
Within e f c = nat_abs (f *ℤ pos whole -ℤ pos one *ℤ c) ≤ e * whole

-- What is proved of them (proofs/Computed.antt), of every angle and every entry:
abbrev pub CosineWithin : Type 0
CosineWithin = (t : ℕ) → Within bound (fixed_cosine t) (cosine t)

abbrev pub SineWithin : Type 0
SineWithin = (t : ℕ) → Within bound (fixed_sine t) (sine t)

-- "each the whole number nearest 2^30 times the base fraction"
abbrev pub EntriesNearest : Type 0
EntriesNearest = (i : ℕ) → i < entries → IsNearest (entry step i) (base (i * step))

-- The list is the table.
pub record IsTable (xs : List ℕ) : Type 0 where
  pub each : (i : ℕ) → i < entries → pos (get_or xs i 0) ≡ entry step i
