-- A height in centimetres is within half a centimetre of the height in tenths of a millimetre. From the laws of floors. Assumes nothing.
use mathlib.Core.Path.{◌≡◌, sym, ap, ◌∙◌, subst}
use Prim.Native.Nat.{ℕ, zero, suc, ◌≤◌, ◌<◌}
use lib.IntN.{ℤ, pos, neg_ℤ, nat_abs, ◌+ℤ◌, ◌-ℤ◌, ◌*ℤ◌, +ℤ_comm, *ℤ_comm, +ℤ-neg_ℤ_cancel}
use native.Mathlib.Omega.{arith}
use Rattle.angles.proofs.Floors.{floor_rest, floor-split, rest_below}
use Rattle.angles.proofs.Ints.{by_order, swap}
use Rattle.hourly.specs.Month.{centimetres}

-- what the floor of h + 50 leaves is taken from 50
distance_is : (h : ℤ) → pos 100 *ℤ centimetres h -ℤ h ≡ pos 50 -ℤ pos (floor_rest (h +ℤ pos 50) 100)
distance_is h =
    let q = centimetres h in
    let r : ℕ = floor_rest (h +ℤ pos 50) 100 in
    ap (λ (x : ℤ). x -ℤ h) (*ℤ_comm (pos 100) q ∙ sym (+ℤ-neg_ℤ_cancel (q *ℤ pos 100) (pos r)) ∙ ap (λ (x : ℤ). x -ℤ pos r) (sym (floor-split 100 (omega arith) (h +ℤ pos 50))))
    ∙ swap (h +ℤ pos 50) (neg_ℤ (pos r)) (neg_ℤ h)
    ∙ ap (λ (x : ℤ). (x -ℤ h) -ℤ pos r) (+ℤ_comm h (pos 50))
    ∙ ap (λ (x : ℤ). x -ℤ pos r) (+ℤ-neg_ℤ_cancel (pos 50) h)

rest-near : (r : ℕ) → r < 100 → nat_abs (pos 50 -ℤ pos r) ≤ 50
rest-near zero l = omega arith
rest-near (suc m) l = by_order (λ z. nat_abs z ≤ 50) 50 (suc m) (λ b. omega arith) (λ b. omega arith)

pub near-centimetre : (h : ℤ) → nat_abs (pos 100 *ℤ centimetres h -ℤ h) ≤ 50
near-centimetre h = subst (λ (z : ℤ). nat_abs z ≤ 50) (sym (distance_is h)) (rest-near (floor_rest (h +ℤ pos 50) 100) (rest_below 100 (omega arith) (h +ℤ pos 50)))
