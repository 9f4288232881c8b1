-- Sums of whole numbers: of two lists joined, their size, and the distance of two sums whose terms are near each other.
-- By induction on the lists. Assumes nothing.
use mathlib.Core.Path.{◌≡◌, sym, ◌∙◌, ap, subst}
use mathlib.Core.List.{List, [], ◌∷◌, ◌++◌}
use Prim.Native.Nat.{ℕ, suc, ◌*◌, ◌≤◌}
use native.Mathlib.Nat.{suc-mul}
use native.Mathlib.Omega.{arith}
use lib.ListN.{length}
use lib.IntN.{ℤ, neg_ℤ, nat_abs, ◌+ℤ◌, ◌-ℤ◌, +ℤ_assoc, +ℤ_idl, neg_ℤ-+ℤ}
use Rattle.angles.specs.Sums.{sum}
use Rattle.angles.proofs.Ints.{triangle, four}

pub sum-append : (xs ys : List ℤ) → sum (xs ++ ys) ≡ sum xs +ℤ sum ys
unfolding sum
sum-append [] ys = sym (+ℤ_idl (sum ys))
sum-append (x ∷ xs) ys = ap (λ (z : ℤ). x +ℤ z) (sum-append xs ys) ∙ sym (+ℤ_assoc x (sum xs) (sum ys))

-- each term's size is at most e
pub data Small (e : ℕ) : List ℤ → Type 0 where
  none : Small e []
  more : {x : ℤ} {xs : List ℤ} → nat_abs x ≤ e → Small e xs → Small e (x ∷ xs)

pub sum-size : {e : ℕ} {xs : List ℤ} → Small e xs → nat_abs (sum xs) ≤ length xs * e
unfolding sum
sum-size none = omega arith
sum-size {e} (more {x} {xs} h p) = omega (arith, triangle x (sum xs), sum-size p, h, suc-mul (length xs) e)

-- the terms of two lists are in pairs at most e apart
pub data Pairs (e : ℕ) : List ℤ → List ℤ → Type 0 where
  none : Pairs e [] []
  more : {x y : ℤ} {xs ys : List ℤ} → nat_abs (x -ℤ y) ≤ e → Pairs e xs ys → Pairs e (x ∷ xs) (y ∷ ys)

pub difference-of-sums : (x y s t : ℤ) → (x +ℤ s) -ℤ (y +ℤ t) ≡ (x -ℤ y) +ℤ (s -ℤ t)
difference-of-sums x y s t = ap (λ (z : ℤ). (x +ℤ s) +ℤ z) (neg_ℤ-+ℤ y t) ∙ four x s (neg_ℤ y) (neg_ℤ t)

pub sums-near : {e : ℕ} {xs ys : List ℤ} → Pairs e xs ys → nat_abs (sum xs -ℤ sum ys) ≤ length xs * e
unfolding sum
sums-near none = omega arith
sums-near {e} (more {x} {y} {xs} {ys} h p) =
    subst (λ (z : ℤ). nat_abs z ≤ suc (length xs) * e) (sym (difference-of-sums x y (sum xs) (sum ys)))
    (omega (arith, triangle (x -ℤ y) (sum xs -ℤ sum ys), sums-near p, h, suc-mul (length xs) e))
