-- A longitude, from cards that the code reduces before it multiplies; and longitudes are below a turn. From the laws of angles modulo a turn.
use mathlib.Core.Path.{◌≡◌, refl, sym, ap, subst, ◌∙◌}
use Prim.Native.Nat.{ℕ, suc, ◌*◌, ◌/◌, ◌%◌, ◌≤◌, ◌<◌}
use native.Mathlib.Nat.{mod-lt, mod-add-div', div-le_self}
use native.Mathlib.Omega.{arith}
use lib.IntN.{ℤ, pos, negsuc, neg_ℤ, nat_abs, ◌+ℤ◌, ◌*ℤ◌, +ℤ_assoc, *ℤ_comm, neg_ℤ-+ℤ}
use lib.Signed.{rem_z, quot_z}
use Rattle.angles.specs.Ticks.{turn, ten_billionth}
use Rattle.angles.specs.Floor.{mod_turn}
use Rattle.angles.proofs.Ints.{nat_abs-neg, neg-mul, distrib, assoc}
use Rattle.angles.proofs.Angles.{below-turn, periodic, of-sum}
use mathlib.Core.List.{List}
use lib.ListN.{get_or}
use Rattle.month_arguments.specs.Longitudes.{longitude, longitudes_on}
use Rattle.month_arguments.specs.inner.Longitudes.{longitudes_of, Reduced}
use Rattle.month_arguments.specs.declared.astronomy.Longitudes as code

-- ---- division toward zero: quotient and remainder

pub rem-quot : (z : ℤ) (n : ℕ) → z ≡ rem_z z (pos n) +ℤ quot_z z (pos n) *ℤ pos n
rem-quot (pos a) n = ap pos (sym (mod-add-div' a n))
rem-quot (negsuc a) n =
    sym
    (ap (λ (z : ℤ). neg_ℤ (pos (suc a % n)) +ℤ z) (neg-mul (pos (suc a / n)) (pos n))
    ∙ sym (neg_ℤ-+ℤ (pos (suc a % n)) (pos (suc a / n * n)))
    ∙ ap (λ (m : ℕ). neg_ℤ (pos m)) (mod-add-div' (suc a) n))

pub rem-size : (z : ℤ) (n : ℕ) → 0 < n → nat_abs (rem_z z (pos n)) < n
rem-size (pos a) n h = mod-lt a h
rem-size (negsuc a) n h = subst (λ (m : ℕ). m < n) (sym (nat_abs-neg (pos (suc a % n)))) (mod-lt (suc a) h)

pub quot-size : (z : ℤ) (n : ℕ) → nat_abs (quot_z z (pos n)) ≤ nat_abs z
quot-size (pos a) n = div-le_self a n
quot-size (negsuc a) n = subst (λ (m : ℕ). m ≤ suc a) (sym (nat_abs-neg (pos (suc a / n)))) (div-le_self (suc a) n)

-- ---- k times a number, which counts modulo T / k

module _ (k part : ℕ) (whole : part * k ≡ turn) where
  parts-dropped : (a r q : ℤ) → mod_turn (a +ℤ pos k *ℤ (r +ℤ q *ℤ pos part)) ≡ mod_turn (a +ℤ pos k *ℤ r)
  parts-dropped a r q =
      ap (λ (z : ℤ). mod_turn (a +ℤ z)) (distrib (pos k) r (q *ℤ pos part) ∙ ap (λ (z : ℤ). pos k *ℤ r +ℤ z) turns)
      ∙ ap mod_turn (sym (+ℤ_assoc a (pos k *ℤ r) (q *ℤ pos turn)))
      ∙ periodic (a +ℤ pos k *ℤ r) q
    where
      turns : pos k *ℤ (q *ℤ pos part) ≡ q *ℤ pos turn
      turns = *ℤ_comm (pos k) (q *ℤ pos part) ∙ assoc q (pos part) (pos k) ∙ ap (λ (n : ℕ). q *ℤ pos n) whole

  -- a factor reduced modulo that, and then the product
  pub rate-reduced : (a d : ℤ) (c : ℕ) → mod_turn (a +ℤ pos k *ℤ rem_z (d *ℤ pos (c % part)) (pos part)) ≡ mod_turn (a +ℤ pos k *ℤ d *ℤ pos c)
  rate-reduced a d c =
      sym (parts-dropped a (rem_z x (pos part)) (quot_z x (pos part)))
      ∙ ap (λ (z : ℤ). mod_turn (a +ℤ pos k *ℤ z)) (sym (rem-quot x part))
      ∙ sym (parts-dropped a x (d *ℤ pos (c / part)))
      ∙ ap (λ (z : ℤ). mod_turn (a +ℤ z)) (ap (λ (z : ℤ). pos k *ℤ z) (sym parts) ∙ sym (assoc (pos k) d (pos c)))
    where
      x : ℤ
      x = d *ℤ pos (c % part)

      parts : d *ℤ pos c ≡ x +ℤ d *ℤ pos (c / part) *ℤ pos part
      parts =
          ap (λ (n : ℕ). d *ℤ pos n) (sym (mod-add-div' c part))
          ∙ distrib d (pos (c % part)) (pos (c / part * part))
          ∙ ap (λ (z : ℤ). x +ℤ z) (sym (assoc d (pos (c / part)) (pos part)))

-- a cycle in 10^-10 cycle, and T / 216
abbrev pub cycle : ℕ
cycle = turn / ten_billionth

abbrev pub span : ℕ
span = turn / 216

-- card one counts modulo a cycle
start-reduced : (c : ℕ) → ten_billionth * (c % cycle) % turn ≡ ten_billionth * c % turn
start-reduced c = omega arith

pub longitude-reduced : (d : ℤ) (card₁ card₂ : ℕ) → mod_turn (pos (ten_billionth * (card₁ % cycle)) +ℤ pos 216 *ℤ rem_z (d *ℤ pos (card₂ % span)) (pos span)) ≡ longitude d card₁ card₂
unfolding longitude
longitude-reduced d card₁ card₂ =
    rate-reduced 216 span refl (pos (ten_billionth * (card₁ % cycle))) d card₂
    ∙ sym (of-sum (pos (ten_billionth * (card₁ % cycle))) (pos 216 *ℤ d *ℤ pos card₂))
    ∙ ap (λ (n : ℕ). mod_turn (pos n +ℤ pos 216 *ℤ d *ℤ pos card₂)) (start-reduced card₁)
    ∙ of-sum (pos (ten_billionth * card₁)) (pos 216 *ℤ d *ℤ pos card₂)

-- every longitude is below a turn
pub longitude-below : (d : ℤ) (card₁ card₂ : ℕ) → longitude d card₁ card₂ < turn
unfolding longitude
longitude-below d card₁ card₂ = below-turn (pos (ten_billionth * card₁) +ℤ pos 216 *ℤ d *ℤ pos card₂)

module _ (l : code.Longitudes) (d : ℤ) (card₁ card₂ : List ℕ) (e : longitudes_of l ≡ longitudes_on d card₁ card₂) where
  pub are-reduced : Reduced l
  unfolding longitudes_on
  are-reduced =
      record {
        perigee = subst (λ (n : ℕ). n < turn) (sym (ap (λ x. x.p) e)) (longitude-below d (get_or card₁ 2 0) (get_or card₂ 2 0));
        node = subst (λ (n : ℕ). n < turn) (sym (ap (λ x. x.n') e)) (longitude-below d (get_or card₁ 3 0) (get_or card₂ 3 0));
        solar = subst (λ (n : ℕ). n < turn) (sym (ap (λ x. x.p') e)) (longitude-below d (get_or card₁ 4 0) (get_or card₂ 4 0));
      }
