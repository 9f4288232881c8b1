-- From two bounds in ℕ to a distance in ℤ, and round the quadrants with the cosine's signs: a distance is the same with both sides negated.
-- Rests on the laws of ℤ in `angles`. Assumes nothing.
use mathlib.Core.Path.{◌≡◌, sym, ◌∙◌, ap, ap₂, subst}
use Prim.Native.Nat.{ℕ, zero, suc, ◌+◌, ◌-◌, ◌*◌, ◌≤◌}
use native.Mathlib.Omega.{arith}
use lib.IntN.{ℤ, pos, negsuc, neg_ℤ, nat_abs, sub_ℕ, ◌+ℤ◌, ◌-ℤ◌, ◌*ℤ◌, neg_ℤ-neg_ℤ, neg_ℤ-+ℤ}
use Rattle.angles.proofs.Ints.{by_order, nat_abs-neg, mul-neg, neg-mul}
use Rattle.cosine.specs.Fraction.{in_quadrant}
use Rattle.cosine.proofs.Line.{Close}

-- how far two naturals are apart
pub apart : (a b n : ℕ) → a ≤ b + n → b ≤ a + n → nat_abs (pos a -ℤ pos b) ≤ n
apart a zero n h k = omega arith
apart a (suc b) n h k = by_order (λ z. nat_abs z ≤ n) a (suc b) (λ l. omega arith) (λ l. omega arith)

-- what is close is near, in ℤ
module _ (E G n F x y : ℕ) (C : Close E G n F x y) where
  over : (k : ℕ) → y ≡ x + suc k → nat_abs (pos F *ℤ pos n -ℤ pos G *ℤ negsuc k) ≤ E * n
  over k e = rw neg_ℤ-neg_ℤ (omega (arith, ap (λ (z : ℕ). G * z) e, C.above))

  under : (z : ℕ) → x ≡ y + z → nat_abs (pos F *ℤ pos n -ℤ pos G *ℤ pos z) ≤ E * n
  under z e = let g = ap (λ (u : ℕ). G * u) e in apart (F * n) (G * z) (E * n) (omega (arith, C.above)) (omega (arith, C.below))

  pub within : nat_abs (pos F *ℤ pos n -ℤ pos G *ℤ sub_ℕ x y) ≤ E * n
  within =
      by_order (λ z. nat_abs (pos F *ℤ pos n -ℤ pos G *ℤ z) ≤ E * n) x y (λ l. over (y - suc x) (omega arith)) (λ l. under (x - y) (omega arith))

-- f is off by at most e, times w, from g times c
abbrev pub Off : ℕ → ℕ → ℕ → ℤ → ℤ → Type 0
Off w g e f c = nat_abs (f *ℤ pos w -ℤ pos g *ℤ c) ≤ e

negated : (w g e : ℕ) (f c : ℤ) → Off w g e f c → Off w g e (neg_ℤ f) (neg_ℤ c)
negated w g e f c h =
    subst (λ (n : ℕ). n ≤ e)
    (sym (nat_abs-neg (f *ℤ pos w -ℤ pos g *ℤ c))
    ∙ ap nat_abs (neg_ℤ-+ℤ (f *ℤ pos w) (neg_ℤ (pos g *ℤ c)) ∙ sym (ap₂ ◌+ℤ◌ (neg-mul f (pos w)) (ap neg_ℤ (mul-neg (pos g) c)))))
    h

pub in-quadrant : (w g e : ℕ) (q : ℕ) (f f' c c' : ℤ) → Off w g e f c → Off w g e f' c' → Off w g e (in_quadrant q f f') (in_quadrant q c c')
in-quadrant w g e zero f f' c c' h h' = h
in-quadrant w g e (suc zero) f f' c c' h h' = negated w g e f' c' h'
in-quadrant w g e (suc (suc zero)) f f' c c' h h' = negated w g e f c h
in-quadrant w g e (suc (suc (suc q))) f f' c c' h h' = h'
