-- Laws of the latitude: a size in minutes stands in 32 bits with either sign.
use mathlib.Core.Path.{◌≡◌, ◌∙◌}
use Prim.Native.Nat.{ℕ, zero, suc, ◌^◌, ◌≤◌, ◌<◌}
use lib.IntN.{pos, neg_ℤ, ◌-ℤ◌, +ℤ_idl}
use mir.Syntax.{w32}
use mir.Val.{SFits, to_z, of_z}
use mir.ValLaws.{to_z-of_z}
use native.Mathlib.Omega.{arith}

-- a size of minutes, in 32 bits
pub north-bits : (n : ℕ) → n ≤ 7_739 → to_z w32 n ≡ pos n
north-bits n h = let fits : n < 2 ^ 31 = omega arith in to_z-of_z w32 (pos n) (record { sfits = fits })

-- and its negative
pub south-fits : (n : ℕ) → n ≤ 7_739 → SFits w32 (pos 0 -ℤ to_z w32 n)
south-fits n h = rw (north-bits n h, +ℤ_idl (neg_ℤ (pos n))) (fits n h)
  where
    fits : (n : ℕ) → n ≤ 7_739 → SFits w32 (neg_ℤ (pos n))
    fits zero h = record { sfits = omega arith }
    fits (suc n) h = record { sfits = omega arith }

pub south-bits : (n : ℕ) → n ≤ 7_739 → to_z w32 (of_z w32 (pos 0 -ℤ to_z w32 n)) ≡ neg_ℤ (pos n)
south-bits n h = to_z-of_z w32 (pos 0 -ℤ to_z w32 n) (south-fits n h) ∙ rw (north-bits n h, +ℤ_idl (neg_ℤ (pos n)))
