-- 01, "Heights and turns": the exact sum, and how far a height may lie from it (demand 3).
-- Assumes nothing.
use Rattle.std.specs.Prelude.{ℕ, ◌+◌, ◌*◌, ◌/◌, ◌^◌, ◌≤◌, List, [], ◌∷◌, ℤ, pos, nat_abs, ◌+ℤ◌, ◌-ℤ◌, ◌*ℤ◌, length}
use Rattle.cosine.specs.Fraction.{whole, cosine, sine}
use Rattle.month_prepared.specs.Prepared.{Constituent, Month}
use Rattle.month_prepared.specs.Months.{owner_of}
use Rattle.heights.specs.Angle.{angle_at}
use Rattle.heights.specs.Height.{height_at}

-- "The exact sum is the sum of P × cosine fraction - Q × sine fraction, each at its constituent's angle, over 4,096; for an empty station
-- it is 0." The fractions are over `whole`, so the exact sum is exact_sum / (4,096 × whole).
unfoldable pub exact_sum : List Constituent → ℕ → ℤ
exact_sum [] minute = pos 0
exact_sum (c ∷ cs) minute =
    c.p *ℤ cosine (angle_at c minute) -ℤ c.q *ℤ sine (angle_at c minute) +ℤ exact_sum cs minute

-- "the sum of the sizes of all P and Q"
unfoldable pub sizes : List Constituent → ℕ
sizes [] = 0
sizes (c ∷ cs) = nat_abs c.p + nat_abs c.q + sizes cs

-- 02, No. 5: "the third part of the allowed distance falls to the sum of the weights' sizes over 2^34."
abbrev pub scale : ℕ
scale = 2 ^ 34

-- The height lies within 1/2 + n/4,096 + sizes/2^34 of the exact sum, n the number of constituents. "Fractions .. are compared as whole
-- numbers, both sides multiplied by the denominators": here by 2^34 × whole.
abbrev pub Near : List Constituent → ℕ → ℤ → Type 0
Near cs minute height =
    nat_abs (pos (scale * whole) *ℤ height -ℤ pos (scale / 4_096) *ℤ exact_sum cs minute)
    ≤ (scale / 2 + scale / 4_096 * length cs + sizes cs) * whole

-- 02, No. 1: "Every height on the sheet keeps the distance from its own month's exact sum that a single month has": of months that follow one
-- another, the one that owns the minute, at the minute there
abbrev pub NearOver : List Month → ℕ → ℤ → Type 0
NearOver months minute height = Near (owner_of months minute).month.constituents (owner_of months minute).minute height

-- What is proved (proofs/distance/Distance.antt), of every list of constituents and every minute:
abbrev pub HeightsNear : Type 0
HeightsNear = (cs : List Constituent) (minute : ℕ) → Near cs minute (height_at cs minute)
