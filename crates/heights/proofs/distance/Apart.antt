-- How far whole numbers lie apart, `nat_abs (x -ℤ y)`: of sums, of products, of a floor times its divisor.
-- By the laws of ℤ and what a floor leaves. Assumes nothing.
use Prim.Native.Nat.{ℕ, zero, suc, ◌+◌, ◌*◌, ◌≤◌, ◌<◌}
use native.Mathlib.Omega.{arith}
use mathlib.Core.Path.{◌≡◌, sym, ap, subst, ◌∙◌}
use lib.IntN.{ℤ, pos, neg_ℤ, nat_abs, ◌+ℤ◌, ◌-ℤ◌, ◌*ℤ◌, +ℤ_assoc, +ℤ_idl, +ℤ_idr, +ℤ_invr, -ℤ-+ℤ_cancel, *ℤ_comm}
use Rattle.angles.specs.Floor.{floor_div}
use Rattle.angles.proofs.Ints.{by_order, triangle, nat_abs_mul, distrib-sub}
use Rattle.angles.proofs.Floors.{floor_rest, floor-split, rest_below}
use Rattle.angles.proofs.Sums.{difference-of-sums}

pub apart-sums : (a b c d : ℤ) → nat_abs ((a +ℤ b) -ℤ (c +ℤ d)) ≤ nat_abs (a -ℤ c) + nat_abs (b -ℤ d)
apart-sums a b c d = rw (difference-of-sums a c b d) (triangle (a -ℤ c) (b -ℤ d))

pub apart-through : (x y z : ℤ) → nat_abs (x -ℤ z) ≤ nat_abs (x -ℤ y) + nat_abs (y -ℤ z)
apart-through x y z =
    subst (λ (k : ℤ). nat_abs k ≤ nat_abs (x -ℤ y) + nat_abs (y -ℤ z))
    (sym (+ℤ_assoc (x -ℤ y) y (neg_ℤ z)) ∙ ap (λ (k : ℤ). k -ℤ z) (-ℤ-+ℤ_cancel x y))
    (triangle (x -ℤ y) (y -ℤ z))

pub apart-times : (a x y : ℤ) → nat_abs (a *ℤ x -ℤ a *ℤ y) ≡ nat_abs a * nat_abs (x -ℤ y)
apart-times a x y = ap nat_abs (sym (distrib-sub a x y)) ∙ nat_abs_mul a (x -ℤ y)

apart-naturals : (a b e : ℕ) → a ≤ b + e → b ≤ a + e → nat_abs (pos a -ℤ pos b) ≤ e
apart-naturals a zero e h k = omega arith
apart-naturals a (suc b) e h k = by_order (λ z. nat_abs z ≤ e) a (suc b) (λ l. omega arith) (λ l. omega arith)

-- x and y, a natural added to each
apart-shifted : (x y : ℤ) (r m e : ℕ) → x +ℤ pos r ≡ y +ℤ pos m → m ≤ r + e → r ≤ m + e → nat_abs (x -ℤ y) ≤ e
apart-shifted x y r m e eq h k =
    subst (λ (z : ℤ). nat_abs z ≤ e) (sym same) (apart-naturals m r e h k)
  where
    same : x -ℤ y ≡ pos m -ℤ pos r
    same =
        sym (difference-of-sums x y (pos r) (pos r) ∙ (ap (λ (z : ℤ). x -ℤ y +ℤ z) (+ℤ_invr (pos r)) ∙ +ℤ_idr (x -ℤ y)))
        ∙ (ap (λ (z : ℤ). z -ℤ (y +ℤ pos r)) eq ∙ (difference-of-sums y y (pos m) (pos r) ∙ (ap (λ (z : ℤ). z +ℤ (pos m -ℤ pos r)) (+ℤ_invr y) ∙ +ℤ_idl (pos m -ℤ pos r))))

-- a floor, times its divisor n, and what it leaves
module _ (z : ℤ) (n : ℕ) (some : 0 < n) where
  split : pos n *ℤ floor_div z n +ℤ pos (floor_rest z n) ≡ z
  split = ap (λ (y : ℤ). y +ℤ pos (floor_rest z n)) (*ℤ_comm (pos n) (floor_div z n)) ∙ sym (floor-split n some z)

  pub apart-floor : nat_abs (pos n *ℤ floor_div z n -ℤ z) ≤ n
  apart-floor =
      apart-shifted (pos n *ℤ floor_div z n) z (floor_rest z n) 0 n (split ∙ sym (+ℤ_idr z)) (omega arith) (omega (arith, rest_below n some z))

-- with half the divisor added first: the nearest
pub apart-nearest : (z : ℤ) (m : ℕ) → 0 < m → nat_abs (pos (2 * m) *ℤ floor_div (z +ℤ pos m) (2 * m) -ℤ z) ≤ m
apart-nearest z m h =
    let d : 0 < 2 * m = omega arith in
    let y = z +ℤ pos m in
    apart-shifted (pos (2 * m) *ℤ floor_div y (2 * m)) z (floor_rest y (2 * m)) m m (split y (2 * m) d) (omega arith) (omega (arith, rest_below (2 * m) d y))
