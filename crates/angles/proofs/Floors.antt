-- Division that rounds down: z is n times its floor quotient and a remainder below n, and the only such pair is that of `floor_div` and `floor_rest`.
-- All else follows from these two laws. Assumes nothing.
use mathlib.Core.Path.{◌≡◌, refl, sym, ◌∙◌, ap, subst}
use Prim.Native.Nat.{ℕ, zero, suc, ◌+◌, ◌-◌, ◌*◌, ◌/◌, ◌%◌, ◌≤◌, ◌<◌}
use native.Mathlib.Nat.{div-add-mod', mod-lt, mul_comm, mul-add-mod_self_right, mod-eq_of_lt, add-mul-div_right, div-eq_of_lt, div-le_of_le-mul, div-lt_iff_lt-mul, le_trans, le_of_eq, mul-le-mul_left}
use native.Mathlib.Omega.{arith}
use borrow.Author.Tests.{lt-ltb}
use lib.IntN.{ℤ, pos, negsuc, neg_ℤ, nat_abs, ◌+ℤ◌, ◌-ℤ◌, ◌*ℤ◌, +ℤ_comm, +ℤ-neg_ℤ_cancel}
use lib.Signed.{shr_z}
use Rattle.angles.specs.Floor.{floor_div}
use Rattle.angles.proofs.Ints.{swap, distrib-right}

-- the remainder that goes with `floor_div`
abbrev pub floor_rest : ℤ → ℕ → ℕ
floor_rest (pos a) n = a % n
floor_rest (negsuc a) n = n - 1 - a % n

-- x >> k is floor(x / 2^k)
pub shift-is-floor : (z : ℤ) (n : ℕ) → shr_z z n ≡ floor_div z n
shift-is-floor (pos a) n = refl
shift-is-floor (negsuc a) n = refl

-- a negative quotient, times n, and a remainder
below-zero : (k n r : ℕ) → r < n → negsuc k *ℤ pos n +ℤ pos r ≡ negsuc (k * n + (n - 1 - r))
below-zero k n r l = at n (suc k * n) refl l
  where
    at : (n s : ℕ) → s ≡ suc k * n → r < n → neg_ℤ (pos s) +ℤ pos r ≡ negsuc (k * n + (n - 1 - r))
    at n zero e l = let no : ⊥ = omega (arith, e) in absurd no
    at n (suc s) e l = let h : r < suc s = omega (arith, e) in simp (lt-ltb r (suc s) h) (ap negsuc (omega (arith, e)))

module _ (n : ℕ) (some : zero < n) where
  pub floor-split : (z : ℤ) → z ≡ floor_div z n *ℤ pos n +ℤ pos (floor_rest z n)
  floor-split (pos a) = ap pos (sym (div-add-mod' a n))
  floor-split (negsuc a) = ap negsuc (omega (arith, div-add-mod' a n, mod-lt a some)) ∙ sym (below-zero (a / n) n (n - 1 - a % n) (omega (arith, some)))

  pub rest_below : (z : ℤ) → floor_rest z n < n
  rest_below (pos a) = mod-lt a some
  rest_below (negsuc a) = omega (arith, some)

  module _ (r : ℕ) (l : r < n) where
    quotient : (k : ℕ) → (k * n + r) / n ≡ k
    quotient k = ap (λ (m : ℕ). m / n) (omega arith) ∙ add-mul-div_right r k some ∙ rw (div-eq_of_lt l) (omega arith)

    rest : (k : ℕ) → (k * n + r) % n ≡ r
    rest k = mul-add-mod_self_right k n r ∙ mod-eq_of_lt l

  pub floor-of : (q : ℤ) (r : ℕ) → r < n → floor_div (q *ℤ pos n +ℤ pos r) n ≡ q
  floor-of (pos k) r l = ap pos (quotient r l k)
  floor-of (negsuc k) r l = ap (λ (z : ℤ). floor_div z n) (below-zero k n r l) ∙ ap negsuc (quotient (n - 1 - r) (omega arith) k)

  pub rest_of : (q : ℤ) (r : ℕ) → r < n → floor_rest (q *ℤ pos n +ℤ pos r) n ≡ r
  rest_of (pos k) r l = rest r l k
  rest_of (negsuc k) r l =
      ap (λ (z : ℤ). floor_rest z n) (below-zero k n r l) ∙ ap (λ (m : ℕ). n - 1 - m) (rest (n - 1 - r) (omega arith) k) ∙ omega arith

  -- n times k more
  module _ (z k : ℤ) where
    moved : z +ℤ k *ℤ pos n ≡ (floor_div z n +ℤ k) *ℤ pos n +ℤ pos (floor_rest z n)
    moved =
        ap (λ (x : ℤ). x +ℤ k *ℤ pos n) (floor-split z) ∙ swap (floor_div z n *ℤ pos n) (pos (floor_rest z n)) (k *ℤ pos n)
        ∙ ap (λ (x : ℤ). x +ℤ pos (floor_rest z n)) (sym (distrib-right (floor_div z n) k (pos n)))

    pub floor-shift : floor_div (z +ℤ k *ℤ pos n) n ≡ floor_div z n +ℤ k
    floor-shift = ap (λ (x : ℤ). floor_div x n) moved ∙ floor-of (floor_div z n +ℤ k) (floor_rest z n) (rest_below z)

    pub rest-periodic : floor_rest (z +ℤ k *ℤ pos n) n ≡ floor_rest z n
    rest-periodic = ap (λ (x : ℤ). floor_rest x n) moved ∙ rest_of (floor_div z n +ℤ k) (floor_rest z n) (rest_below z)

  -- what the floor leaves is its remainder
  pub floor-leaves : (z : ℤ) → z -ℤ floor_div z n *ℤ pos n ≡ pos (floor_rest z n)
  floor-leaves z =
      ap (λ (x : ℤ). x -ℤ floor_div z n *ℤ pos n) (floor-split z ∙ +ℤ_comm (floor_div z n *ℤ pos n) (pos (floor_rest z n)))
      ∙ +ℤ-neg_ℤ_cancel (pos (floor_rest z n)) (floor_div z n *ℤ pos n)

  pub floor-near : (z : ℤ) → nat_abs (z -ℤ floor_div z n *ℤ pos n) < n
  floor-near z = subst (λ (x : ℤ). nat_abs x < n) (sym (floor-leaves z)) (rest_below z)

  -- sizes
  pub floor-size : (z : ℤ) (m : ℕ) → nat_abs z ≤ m * n → nat_abs (floor_div z n) ≤ m
  floor-size (pos a) m h = div-le_of_le-mul n (le_trans h (le_of_eq (mul_comm m n)))
  floor-size (negsuc a) m h = (div-lt_iff_lt-mul some).1 h

  pub floor-no-larger : (z : ℤ) → nat_abs (floor_div z n) ≤ nat_abs z
  floor-no-larger z = floor-size z (nat_abs z) (omega (arith, mul-le-mul_left (nat_abs z) some))

  pub floor-size-quotient : (z : ℤ) → nat_abs (floor_div z n) ≤ nat_abs z / n + 1
  floor-size-quotient z = floor-size z (nat_abs z / n + 1) (omega (arith, div-add-mod' (nat_abs z) n, mod-lt (nat_abs z) some))
