-- Demand 3's distance: a height lies within 1/2 + n/4,096 + sizes/2^34 of the exact sum, for every list of constituents and every minute.
-- Each share is off by its floor, at most 1, and by the cosine's bound times the weights' sizes; the sums add up; the height's floor is off
-- by at most a half. All over any bound e of the fixed cosine, then at cosine's own. Rests on cosine's claim. Assumes nothing.
use Prim.Native.Nat.{ℕ, ◌+◌, ◌*◌, ◌/◌, ◌≤◌, ◌<◌}
use native.Mathlib.Omega.{arith}
use native.Mathlib.Nat.{mul-le-mul_left}
use mathlib.Core.List.{List, [], ◌∷◌}
use mathlib.Core.Path.{◌≡◌, sym, ap, ap₂, subst, ◌∙◌}
use lib.Dec.{lit<}
use lib.IntN.{ℤ, pos, neg_ℤ, nat_abs, ◌+ℤ◌, ◌-ℤ◌, ◌*ℤ◌, *ℤ_comm}
use lib.ListN.{length, get_or}
use Rattle.angles.specs.Floor.{floor_div}
use Rattle.angles.proofs.Ints.{nat_abs-neg, neg-mul, assoc, distrib, distrib-right}
use Rattle.cosine.specs.Fraction.{quarter, whole, cosine, sine}
use Rattle.cosine.specs.Fixed.{one, bound, fixed_cosine, fixed_sine, Within}
use Rattle.cosine.proofs.Computed.{cosine-within}
use Rattle.month_prepared.specs.Prepared.{Constituent}
use Rattle.heights.specs.Angle.{angle_at}
use Rattle.heights.specs.Share.{share}
use Rattle.heights.specs.Height.{sum_of_shares, height_at}
use Rattle.heights.specs.Series.{series_of}
use Rattle.heights.specs.Exact.{exact_sum, sizes, scale, Near, HeightsNear}
use Rattle.heights.proofs.series.Written.{series-height}
use Rattle.heights.proofs.distance.Apart.{apart-sums, apart-through, apart-times, apart-floor, apart-nearest}

-- a weight times a fixed number f that is near k × c / w
weighted : (p f c : ℤ) (w k d : ℕ) → nat_abs (f *ℤ pos w -ℤ pos k *ℤ c) ≤ d → nat_abs (p *ℤ f *ℤ pos w -ℤ pos k *ℤ (p *ℤ c)) ≤ nat_abs p * d
weighted p f c w k d h =
    subst (λ (z : ℤ). nat_abs z ≤ nat_abs p * d) (sym same) (subst (λ (n : ℕ). n ≤ nat_abs p * d) (sym (apart-times p (f *ℤ pos w) (pos k *ℤ c))) (mul-le-mul_left (nat_abs p) h))
  where
    same : p *ℤ f *ℤ pos w -ℤ pos k *ℤ (p *ℤ c) ≡ p *ℤ (f *ℤ pos w) -ℤ p *ℤ (pos k *ℤ c)
    same =
        ap₂ ◌-ℤ◌ (assoc p f (pos w)) (sym (assoc (pos k) p c) ∙ (ap (λ (z : ℤ). z *ℤ c) (*ℤ_comm (pos k) p) ∙ assoc p (pos k) c))

-- the sum of two
both : (p q f g c s : ℤ) (w k d : ℕ) → nat_abs (f *ℤ pos w -ℤ pos k *ℤ c) ≤ d → nat_abs (g *ℤ pos w -ℤ pos k *ℤ s) ≤ d → nat_abs ((p *ℤ f +ℤ q *ℤ g) *ℤ pos w -ℤ pos k *ℤ (p *ℤ c +ℤ q *ℤ s)) ≤ (nat_abs p + nat_abs q) * d
both p q f g c s w k d hf hg =
    rw (distrib-right (p *ℤ f) (q *ℤ g) (pos w), distrib (pos k) (p *ℤ c) (q *ℤ s))
    (omega (arith, apart-sums (p *ℤ f *ℤ pos w) (q *ℤ g *ℤ pos w) (pos k *ℤ (p *ℤ c)) (pos k *ℤ (q *ℤ s)), weighted p f c w k d hf, weighted q g s w k d hg))

-- P × cosine - Q × sine
difference : (p q f g c s : ℤ) (w k d : ℕ) → nat_abs (f *ℤ pos w -ℤ pos k *ℤ c) ≤ d → nat_abs (g *ℤ pos w -ℤ pos k *ℤ s) ≤ d → nat_abs ((p *ℤ f -ℤ q *ℤ g) *ℤ pos w -ℤ pos k *ℤ (p *ℤ c -ℤ q *ℤ s)) ≤ (nat_abs p + nat_abs q) * d
difference p q f g c s w k d hf hg = rw (neg-mul q g, neg-mul q s, nat_abs-neg q) at (both p (neg_ℤ q) f g c s w k d hf hg)

-- the floor of x / k, times k, against y, where x × w is near y
floored : (x y : ℤ) (w k d : ℕ) → 0 < k → nat_abs (x *ℤ pos w -ℤ y) ≤ d → nat_abs (pos w *ℤ (pos k *ℤ floor_div x k) -ℤ y) ≤ k * w + d
floored x y w k d hk h =
    omega (arith, apart-through (pos w *ℤ (pos k *ℤ floor_div x k)) (pos w *ℤ x) y, apart-times (pos w) (pos k *ℤ floor_div x k) x, mul-le-mul_left w (apart-floor x k hk), (rw (*ℤ_comm x (pos w)) at h))

scaled-thrice : (a b c : ℕ) (z : ℤ) → pos (a * b * c) *ℤ z ≡ pos a *ℤ (pos b *ℤ (pos c *ℤ z))
scaled-thrice a b c z = assoc (pos (a * b)) (pos c) z ∙ assoc (pos a) (pos b) (pos c *ℤ z)

-- ---- over any bound e of the fixed cosine

module _ (e : ℕ) (claim : (t : ℕ) → Within e (fixed_cosine t) (cosine t)) where
  pub share-near : (p q : ℤ) (t : ℕ) → nat_abs (pos whole *ℤ (pos one *ℤ share p q t) -ℤ pos one *ℤ (p *ℤ cosine t -ℤ q *ℤ sine t)) ≤ one * whole + (nat_abs p + nat_abs q) * (e * whole)
  unfolding share
  share-near p q t =
      floored (p *ℤ fixed_cosine t -ℤ q *ℤ fixed_sine t) (pos one *ℤ (p *ℤ cosine t -ℤ q *ℤ sine t)) whole one ((nat_abs p + nat_abs q) * (e * whole)) (lit< tt)
      (difference p q (fixed_cosine t) (fixed_sine t) (cosine t) (sine t) whole one (e * whole) (claim t) (claim (t + 3 * quarter)))

  pub shares-near : (cs : List Constituent) (minute : ℕ) → nat_abs (pos whole *ℤ (pos one *ℤ sum_of_shares cs minute) -ℤ pos one *ℤ exact_sum cs minute) ≤ (one * length cs + e * sizes cs) * whole
  unfolding sum_of_shares exact_sum sizes
  shares-near [] minute = omega arith
  shares-near (c ∷ cs) minute =
      let a = share c.p c.q (angle_at c minute) in
      let x = c.p *ℤ cosine (angle_at c minute) -ℤ c.q *ℤ sine (angle_at c minute) in
      rw (distrib (pos one) a (sum_of_shares cs minute), distrib (pos whole) (pos one *ℤ a) (pos one *ℤ sum_of_shares cs minute), distrib (pos one) x (exact_sum cs minute))
      (omega (arith, apart-sums (pos whole *ℤ (pos one *ℤ a)) (pos whole *ℤ (pos one *ℤ sum_of_shares cs minute)) (pos one *ℤ x) (pos one *ℤ exact_sum cs minute), share-near c.p c.q (angle_at c minute), shares-near cs minute))

  -- the height, both sides times 2^42 × whole
  pub height-near : (cs : List Constituent) (minute : ℕ) → nat_abs (pos (whole * one * 4_096) *ℤ height_at cs minute -ℤ pos one *ℤ exact_sum cs minute) ≤ (2_048 * one + one * length cs + e * sizes cs) * whole
  unfolding height_at
  height-near cs minute =
      let s = sum_of_shares cs minute in
      let x = pos one *ℤ exact_sum cs minute in
      let h = height_at cs minute in
      rw (scaled-thrice whole one 4_096 h)
      (omega (arith, apart-through (pos whole *ℤ (pos one *ℤ (pos 4_096 *ℤ h))) (pos whole *ℤ (pos one *ℤ s)) x, apart-times (pos whole) (pos one *ℤ (pos 4_096 *ℤ h)) (pos one *ℤ s), ap (λ (n : ℕ). whole * n) (apart-times (pos one) (pos 4_096 *ℤ h) s), mul-le-mul_left (whole * one) (apart-nearest s 2_048 (lit< tt)), shares-near cs minute))

-- ---- at cosine's own bound: both sides are divided by it

pub height-is-near : HeightsNear
height-is-near cs minute =
    let h = height_at cs minute in
    let a = pos (scale * whole) *ℤ h in
    let b = pos (scale / 4_096) *ℤ exact_sum cs minute in
    let ea : pos bound *ℤ a ≡ pos (whole * one * 4_096) *ℤ h = sym (assoc (pos bound) (pos (scale * whole)) h) ∙ ap (λ (n : ℕ). pos n *ℤ h) (omega arith) in
    let eb : pos bound *ℤ b ≡ pos one *ℤ exact_sum cs minute = sym (assoc (pos bound) (pos (scale / 4_096)) (exact_sum cs minute)) in
    omega (arith, apart-times (pos bound) a b, ap₂ (λ (x y : ℤ). nat_abs (x -ℤ y)) ea eb, height-near bound cosine-within cs minute)

-- "a series' height n, from 0, at start + n × step"
pub series-is-near : (cs : List Constituent) (start step places n : ℕ) → n < places → Near cs (start + n * step) (get_or (series_of (height_at cs) start step places) n (pos 0))
series-is-near cs start step places n h = rw (series-height (height_at cs) start step places n h) (height-is-near cs (start + n * step))
