-- A constituent's angle in unsigned numbers: at a minute, and some minutes on.
-- The angle's sum is brought to a difference of two naturals, and the remainder of such a difference is read off from an equation of
-- naturals that has whole turns added on both sides. Rests on the laws of angles. Assumes nothing.
use Prim.Native.Nat.{ℕ, zero, suc, ◌+◌, ◌-◌, ◌*◌, ◌/◌, ◌%◌, ◌≤◌, ◌<◌}
use native.Mathlib.Omega.{arith}
use native.Mathlib.Nat.{div-add-mod}
use mathlib.Core.Path.{◌≡◌, sym, ap, ◌∙◌}
use lib.IntN.{ℤ, pos, neg_ℤ, ◌+ℤ◌, ◌-ℤ◌, ◌*ℤ◌, +ℤ_assoc, neg_ℤ-+ℤ}
use Rattle.angles.specs.Ticks.{turn, centidegree}
use Rattle.angles.specs.Floor.{mod_turn}
use Rattle.angles.proofs.Ints.{by_order, distrib, distrib-sub, four, swap}
use Rattle.angles.proofs.Angles.{below-turn, of-both}
use Rattle.heights.specs.Angle.{angle}

-- ---- the angle at a minute

of-naturals : (a b x u v : ℕ) → a + u * turn ≡ b + x + v * turn → mod_turn (pos a -ℤ pos b) ≡ x % turn
of-naturals a zero x u v e = omega arith
of-naturals a (suc b) x u v e = by_order (λ z. mod_turn z ≡ x % turn) a (suc b) (λ h. omega arith) (λ h. omega arith)

as-difference : (v l g m i : ℕ) → pos v -ℤ pos l +ℤ pos g *ℤ (pos m -ℤ pos i) ≡ pos (v + g * m) -ℤ pos (l + g * i)
as-difference v l g m i =
    ap (λ (z : ℤ). pos v -ℤ pos l +ℤ z) (distrib-sub (pos g) (pos m) (pos i))
    ∙ (four (pos v) (neg_ℤ (pos l)) (pos (g * m)) (neg_ℤ (pos (g * i))) ∙ ap (λ (z : ℤ). pos (v + g * m) +ℤ z) (sym (neg_ℤ-+ℤ (pos l) (pos (g * i)))))

-- a frequency of this many moves an angle by a whole turn a minute
abbrev pub lap : ℕ
lap = turn / 1_314

-- f × (m - 21,600), without whole laps of f, and not negative
abbrev laps : ℕ → ℕ → ℕ
laps f m = f % lap * m + (lap - f % lap) * 21_600

-- the whole turns on both sides: with v = turn × q + x, f = lap × r + s, n = lap - s, and the laps s × m + n × 21,600 = lap × t + w
balance : (v q x f r s n m t w l : ℕ) → turn * q + x ≡ v → lap * r + s ≡ f → s + n ≡ lap → lap * t + w ≡ s * m + n * 21_600 → l ≤ 2 * turn → v + 1_314 * f * m + (r * 21_600 + 21_602) * turn ≡ l + 1_314 * f * 21_600 + (x + (2 * turn - l) + w * 1_314) + (q + r * m + t) * turn
balance v q x f r s n m t w l ev ef en ew h = omega (arith, ap (λ (k : ℕ). k * m) ef)

pub angle-is : (v lag f m : ℕ) → lag * centidegree ≤ 2 * turn → angle v lag f m ≡ (v % turn + (2 * turn - lag * centidegree) + laps f m % lap * 1_314) % turn
unfolding angle
angle-is v lag f m h =
    let l = lag * centidegree in
    let en : f % lap + (lap - f % lap) ≡ lap = omega arith in
    ap mod_turn (as-difference v l (1_314 * f) m 21_600)
    ∙ of-naturals (v + 1_314 * f * m) (l + 1_314 * f * 21_600) (v % turn + (2 * turn - l) + laps f m % lap * 1_314) (f / lap * 21_600 + 21_602) (v / turn + f / lap * m + laps f m / lap)
    (balance v (v / turn) (v % turn) f (f / lap) (f % lap) (lap - f % lap) m (laps f m / lap) (laps f m % lap) l (div-add-mod v turn) (div-add-mod f lap) en (div-add-mod (laps f m) lap) h)

-- of a V and a frequency that fit: with g = 1,314 × f × 21,600, one remainder
pub angle-of-card : (v lag f m x : ℕ) → x + (lag * centidegree + f * (1_314 * 21_600)) ≡ v + 200 * turn + f * (1_314 * m) → angle v lag f m ≡ x % turn
unfolding angle
angle-of-card v lag f m x e =
    let l = lag * centidegree in
    ap mod_turn (as-difference v l (1_314 * f) m 21_600)
    ∙ of-naturals (v + 1_314 * f * m) (l + 1_314 * f * 21_600) x 200 0 (omega arith)

pub angle-below : (v lag f m : ℕ) → angle v lag f m < turn
unfolding angle
angle-below v lag f m = below-turn (pos v -ℤ pos (lag * centidegree) +ℤ pos (1_314 * f) *ℤ (pos m -ℤ pos 21_600))

-- ---- the angle some minutes on

later : (z : ℤ) (g m s i : ℕ) → z +ℤ pos g *ℤ (pos (m + s) -ℤ pos i) ≡ z +ℤ pos g *ℤ (pos m -ℤ pos i) +ℤ pos (g * s)
later z g m s i =
    ap (λ (k : ℤ). z +ℤ pos g *ℤ k) (swap (pos m) (pos s) (neg_ℤ (pos i)))
    ∙ (ap (λ (k : ℤ). z +ℤ k) (distrib (pos g) (pos m -ℤ pos i) (pos s)) ∙ sym (+ℤ_assoc z (pos g *ℤ (pos m -ℤ pos i)) (pos (g * s))))

pub angle-later : (v lag f m s : ℕ) → angle v lag f (m + s) ≡ (angle v lag f m + 1_314 * f * s % turn) % turn
unfolding angle
angle-later v lag f m s =
    let z = pos v -ℤ pos (lag * centidegree) in
    ap mod_turn (later z (1_314 * f) m s 21_600) ∙ sym (of-both (z +ℤ pos (1_314 * f) *ℤ (pos m -ℤ pos 21_600)) (pos (1_314 * f * s)))
