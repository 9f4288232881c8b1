-- A sum of shares in a register. Assumes nothing.
use Prim.Native.Nat.{ℕ, ◌+◌, ◌*◌, ◌^◌, ◌≤◌, ◌<◌}
use native.Mathlib.Omega.{arith}
use lib.Dec.{lit<}
use lib.IntN.{ℤ, nat_abs, ◌+ℤ◌}
use mir.Syntax.{w64}
use mir.Val.{to_z, of_z}
use Rattle.limits.specs.Limits.{most_records}
use Rattle.angles.proofs.Known.{Known, plainly, read, plus, bounded}

-- a sum of k shares and one share more
pub one_more : (z r : ℤ) (k : ℕ) → k < most_records → nat_abs z ≤ k * 2 ^ 32 → nat_abs r ≤ 2 ^ 32 → Known (z +ℤ to_z w64 (of_z w64 r)) (z +ℤ r) ((k + 1) * 2 ^ 32)
one_more z r k h hz hr = bounded (plus (plainly z hz) (read r hr (lit< tt))) (omega (arith, (plus (plainly z hz) (plainly r hr)).size))
