-- Laws of ℤ that `lib.IntN` lacks: sizes of sums and products, products over sums, sums rearranged.
-- By the signs of the numbers, or by ℤ's own induction. Assumes nothing.
use Prim.Native.Nat.{ℕ, zero, suc, ◌+◌, ◌*◌, ◌-◌, ◌≤◌, ◌<◌}
use native.Mathlib.Omega.{arith}
use native.Mathlib.Nat.{le_refl, le-suc}
use mathlib.Core.Bool.{Bool, true, false, cond}
use mathlib.Core.Path.{◌≡◌, refl, sym, ap, ap₂, subst, ◌∙◌}
use lib.Dec.{ltb}
use borrow.Author.Tests.{ltb-true, ltb-false}
use lib.Signed.{mag}
use lib.IntN.{ℤ, pos, negsuc, suc_ℤ, pred_ℤ, neg_ℤ, nat_abs, sub_ℕ, ◌+ℤ◌, ◌-ℤ◌, ◌*ℤ◌, +ℤ_assoc, +ℤ_comm, +ℤ_one, -ℤ_one, neg_ℤ-+ℤ, neg_ℤ-neg_ℤ, suc_ℤ-*ℤ, pred_ℤ-*ℤ, zero-*ℤ, *ℤ-zero, *ℤ-negsuc, *ℤ_comm, ℤ_ind}

-- ---- sizes

pub nat_abs-neg : (z : ℤ) → nat_abs (neg_ℤ z) ≡ nat_abs z
nat_abs-neg (pos zero) = refl
nat_abs-neg (pos (suc n)) = refl
nat_abs-neg (negsuc n) = refl

pub mag-nat_abs : (z : ℤ) → mag z ≤ nat_abs z
mag-nat_abs (pos n) = le_refl n
mag-nat_abs (negsuc n) = le-suc n

-- a fact of a difference of naturals, from the two cases of their order
pub by_order : (P : ℤ → Type 0) (a b : ℕ) → (a < b → P (negsuc (b - suc a))) → (b ≤ a → P (pos (a - b))) → P (sub_ℕ a b)
by_order P a b f g = at (ltb a b) refl
  where
    at : (t : Bool) → ltb a b ≡ t → P (cond t (negsuc (b - suc a)) (pos (a - b)))
    at true e = f (ltb-true a b e)
    at false e = g (ltb-false a b e)

nat_abs-sub_ℕ : (a b : ℕ) → nat_abs (sub_ℕ a b) ≤ a + b
nat_abs-sub_ℕ a b = by_order (λ z. nat_abs z ≤ a + b) a b (λ h. omega arith) (λ h. omega arith)

pub triangle : (x y : ℤ) → nat_abs (x +ℤ y) ≤ nat_abs x + nat_abs y
triangle (pos a) (pos b) = omega arith
triangle (pos a) (negsuc b) = nat_abs-sub_ℕ a (suc b)
triangle (negsuc a) (pos b) = let h = nat_abs-sub_ℕ b (suc a) in omega arith
triangle (negsuc a) (negsuc b) = omega arith

pub triangle-sub : (x y : ℤ) → nat_abs (x -ℤ y) ≤ nat_abs x + nat_abs y
triangle-sub x y = rw nat_abs-neg at (triangle x (neg_ℤ y))

pub nat_abs_mul : (a b : ℤ) → nat_abs (a *ℤ b) ≡ nat_abs a * nat_abs b
nat_abs_mul (pos a) (pos b) = refl
nat_abs_mul (pos a) (negsuc b) = nat_abs-neg (pos (a * suc b))
nat_abs_mul (negsuc a) (pos b) = nat_abs-neg (pos (suc a * b))
nat_abs_mul (negsuc a) (negsuc b) = refl

-- ---- negation

pub mul-neg : (a b : ℤ) → a *ℤ neg_ℤ b ≡ neg_ℤ (a *ℤ b)
mul-neg a (pos zero) = *ℤ-zero a ∙ sym (ap neg_ℤ (*ℤ-zero a))
mul-neg a (pos (suc n)) = *ℤ-negsuc a n
mul-neg a (negsuc n) = sym (neg_ℤ-neg_ℤ (a *ℤ pos (suc n))) ∙ ap neg_ℤ (sym (*ℤ-negsuc a n))

pub neg-mul : (a b : ℤ) → neg_ℤ a *ℤ b ≡ neg_ℤ (a *ℤ b)
neg-mul a b = *ℤ_comm (neg_ℤ a) b ∙ mul-neg b a ∙ ap neg_ℤ (*ℤ_comm b a)

-- ---- sums and products

-- a sum of four, its middle two exchanged
pub four : (a b c d : ℤ) → (a +ℤ b) +ℤ (c +ℤ d) ≡ (a +ℤ c) +ℤ (b +ℤ d)
four a b c d =
    +ℤ_assoc a b (c +ℤ d) ∙ (ap (λ (z : ℤ). a +ℤ z) (sym (+ℤ_assoc b c d) ∙ (ap (λ (z : ℤ). z +ℤ d) (+ℤ_comm b c) ∙ +ℤ_assoc c b d)) ∙ sym (+ℤ_assoc a c (b +ℤ d)))

-- a sum of three, its last two exchanged
pub swap : (a b c : ℤ) → (a +ℤ b) +ℤ c ≡ (a +ℤ c) +ℤ b
swap a b c = +ℤ_assoc a b c ∙ (ap (λ (z : ℤ). a +ℤ z) (+ℤ_comm b c) ∙ sym (+ℤ_assoc a c b))

pub distrib : (a b c : ℤ) → a *ℤ (b +ℤ c) ≡ a *ℤ b +ℤ a *ℤ c
distrib a b c =
    ℤ_ind (λ (z : ℤ). z *ℤ (b +ℤ c) ≡ z *ℤ b +ℤ z *ℤ c) (zero-*ℤ (b +ℤ c) ∙ sym (ap₂ ◌+ℤ◌ (zero-*ℤ b) (zero-*ℤ c)))
    (λ n h. subst (λ (z : ℤ). z *ℤ (b +ℤ c) ≡ z *ℤ b +ℤ z *ℤ c) (sym (+ℤ_one (pos n))) (up (pos n) h))
    (λ n h. subst (λ (z : ℤ). z *ℤ (b +ℤ c) ≡ z *ℤ b +ℤ z *ℤ c) (sym (-ℤ_one (neg_ℤ (pos n)))) (down (neg_ℤ (pos n)) h)) a
  where
    up : (z : ℤ) → z *ℤ (b +ℤ c) ≡ z *ℤ b +ℤ z *ℤ c → suc_ℤ z *ℤ (b +ℤ c) ≡ suc_ℤ z *ℤ b +ℤ suc_ℤ z *ℤ c
    up z h = suc_ℤ-*ℤ z (b +ℤ c) ∙ (ap (λ (x : ℤ). x +ℤ (b +ℤ c)) h ∙ (four (z *ℤ b) (z *ℤ c) b c ∙ sym (ap₂ ◌+ℤ◌ (suc_ℤ-*ℤ z b) (suc_ℤ-*ℤ z c))))

    down : (z : ℤ) → z *ℤ (b +ℤ c) ≡ z *ℤ b +ℤ z *ℤ c → pred_ℤ z *ℤ (b +ℤ c) ≡ pred_ℤ z *ℤ b +ℤ pred_ℤ z *ℤ c
    down z h =
        pred_ℤ-*ℤ z (b +ℤ c) ∙ (ap₂ ◌+ℤ◌ h (neg_ℤ-+ℤ b c) ∙ (four (z *ℤ b) (z *ℤ c) (neg_ℤ b) (neg_ℤ c) ∙ sym (ap₂ ◌+ℤ◌ (pred_ℤ-*ℤ z b) (pred_ℤ-*ℤ z c))))

pub distrib-sub : (a b c : ℤ) → a *ℤ (b -ℤ c) ≡ a *ℤ b -ℤ a *ℤ c
distrib-sub a b c = distrib a b (neg_ℤ c) ∙ ap (λ (z : ℤ). a *ℤ b +ℤ z) (mul-neg a c)

pub distrib-right : (a b c : ℤ) → (a +ℤ b) *ℤ c ≡ a *ℤ c +ℤ b *ℤ c
distrib-right a b c = *ℤ_comm (a +ℤ b) c ∙ distrib c a b ∙ ap₂ ◌+ℤ◌ (*ℤ_comm c a) (*ℤ_comm c b)

pub assoc : (a b c : ℤ) → (a *ℤ b) *ℤ c ≡ a *ℤ (b *ℤ c)
assoc a b c =
    ℤ_ind (λ (z : ℤ). (z *ℤ b) *ℤ c ≡ z *ℤ (b *ℤ c)) (ap (λ (x : ℤ). x *ℤ c) (zero-*ℤ b) ∙ (zero-*ℤ c ∙ sym (zero-*ℤ (b *ℤ c))))
    (λ n h. subst (λ (z : ℤ). (z *ℤ b) *ℤ c ≡ z *ℤ (b *ℤ c)) (sym (+ℤ_one (pos n))) (up (pos n) h))
    (λ n h. subst (λ (z : ℤ). (z *ℤ b) *ℤ c ≡ z *ℤ (b *ℤ c)) (sym (-ℤ_one (neg_ℤ (pos n)))) (down (neg_ℤ (pos n)) h)) a
  where
    up : (z : ℤ) → (z *ℤ b) *ℤ c ≡ z *ℤ (b *ℤ c) → (suc_ℤ z *ℤ b) *ℤ c ≡ suc_ℤ z *ℤ (b *ℤ c)
    up z h = ap (λ (x : ℤ). x *ℤ c) (suc_ℤ-*ℤ z b) ∙ (distrib-right (z *ℤ b) b c ∙ (ap (λ (x : ℤ). x +ℤ b *ℤ c) h ∙ sym (suc_ℤ-*ℤ z (b *ℤ c))))

    down : (z : ℤ) → (z *ℤ b) *ℤ c ≡ z *ℤ (b *ℤ c) → (pred_ℤ z *ℤ b) *ℤ c ≡ pred_ℤ z *ℤ (b *ℤ c)
    down z h =
        ap (λ (x : ℤ). x *ℤ c) (pred_ℤ-*ℤ z b)
        ∙ (distrib-right (z *ℤ b) (neg_ℤ b) c ∙ (ap₂ ◌+ℤ◌ h (neg-mul b c) ∙ sym (pred_ℤ-*ℤ z (b *ℤ c))))
