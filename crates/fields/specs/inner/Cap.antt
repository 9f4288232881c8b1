-- Only inner contracts cite this: what the reader keeps of a number's size: itself, or a cap that lies outside every range of 64-bit numbers.
-- Only inner functions cite this; the contract of `fields::ranged_field` knows no cap (`cap-loses-nothing` of its proofs/Ranges.antt).
use Rattle.std.specs.Prelude.{ℕ, min, Bool, cond, Option, Some, None}

-- 2^63 + 1
abbrev pub cap : ℕ
cap = 9223372036854775809

-- nothing of a size that is malformed
abbrev pub kept : Bool → ℕ → Option ℕ
kept good size = cond good (Some (min cap size)) None
