-- The remainder modulo a turn: it is below a turn, and any number in a sum or a product may be reduced first.
-- Rests on `Floors`, at a turn. Assumes nothing.
use mathlib.Core.Path.{◌≡◌, refl, sym, ◌∙◌, ap, subst}
use Prim.Native.Nat.{ℕ, zero, ◌+◌, ◌%◌, ◌<◌}
use native.Mathlib.Nat.{mod-eq_of_lt}
use lib.Dec.{lit<}
use lib.IntN.{ℤ, pos, negsuc, neg_ℤ, ◌+ℤ◌, ◌-ℤ◌, ◌*ℤ◌, neg_ℤ-+ℤ, +ℤ_comm}
use Rattle.angles.specs.Ticks.{turn}
use Rattle.angles.specs.Floor.{floor_div, mod_turn}
use Rattle.angles.proofs.Ints.{swap, distrib, assoc, neg-mul}
use Rattle.angles.proofs.Floors.{floor_rest, rest_below, rest-periodic, floor-leaves}

some : zero < turn
some = lit< tt

is-rest : (z : ℤ) → mod_turn z ≡ floor_rest z turn
is-rest (pos a) = refl
is-rest (negsuc a) = refl

pub below-turn : (z : ℤ) → mod_turn z < turn
below-turn z = subst (λ (n : ℕ). n < turn) (sym (is-rest z)) (rest_below turn some z)

pub of-small : (a : ℕ) → a < turn → mod_turn (pos a) ≡ a
of-small a l = mod-eq_of_lt l

-- whole turns do not count
pub periodic : (z k : ℤ) → mod_turn (z +ℤ k *ℤ pos turn) ≡ mod_turn z
periodic z k = is-rest (z +ℤ k *ℤ pos turn) ∙ rest-periodic turn some z k ∙ sym (is-rest z)

-- z less its whole turns
pub less-turns : (z : ℤ) → pos (mod_turn z) ≡ z +ℤ neg_ℤ (floor_div z turn) *ℤ pos turn
less-turns z = ap pos (is-rest z) ∙ sym (floor-leaves turn some z) ∙ ap (λ (x : ℤ). z +ℤ x) (sym (neg-mul (floor_div z turn) (pos turn)))

pub again : (z : ℤ) → mod_turn (pos (mod_turn z)) ≡ mod_turn z
again z = of-small (mod_turn z) (below-turn z)

-- a summand may be reduced first
pub of-sum : (a b : ℤ) → mod_turn (pos (mod_turn a) +ℤ b) ≡ mod_turn (a +ℤ b)
of-sum a b =
    ap (λ (x : ℤ). mod_turn (x +ℤ b)) (less-turns a)
    ∙ ap mod_turn (swap a (neg_ℤ (floor_div a turn) *ℤ pos turn) b)
    ∙ periodic (a +ℤ b) (neg_ℤ (floor_div a turn))

pub of-sum-right : (a b : ℤ) → mod_turn (a +ℤ pos (mod_turn b)) ≡ mod_turn (a +ℤ b)
of-sum-right a b = ap mod_turn (+ℤ_comm a (pos (mod_turn b))) ∙ of-sum b a ∙ ap mod_turn (+ℤ_comm b a)

-- the sum of two angles, as naturals
pub of-both : (a b : ℤ) → (mod_turn a + mod_turn b) % turn ≡ mod_turn (a +ℤ b)
of-both a b = of-sum a (pos (mod_turn b)) ∙ of-sum-right a b

-- a factor may be reduced first
pub of-product : (k a : ℤ) → mod_turn (k *ℤ pos (mod_turn a)) ≡ mod_turn (k *ℤ a)
of-product k a =
    ap (λ (x : ℤ). mod_turn (k *ℤ x)) (less-turns a)
    ∙ ap mod_turn (distrib k a (neg_ℤ (floor_div a turn) *ℤ pos turn) ∙ ap (λ (x : ℤ). k *ℤ a +ℤ x) (sym (assoc k (neg_ℤ (floor_div a turn)) (pos turn))))
    ∙ periodic (k *ℤ a) (k *ℤ neg_ℤ (floor_div a turn))

pub of-negation : (a : ℤ) → mod_turn (neg_ℤ (pos (mod_turn a))) ≡ mod_turn (neg_ℤ a)
of-negation a =
    ap (λ (x : ℤ). mod_turn (neg_ℤ x)) (less-turns a)
    ∙ ap mod_turn (neg_ℤ-+ℤ a (neg_ℤ (floor_div a turn) *ℤ pos turn) ∙ ap (λ (x : ℤ). neg_ℤ a +ℤ x) (sym (neg-mul (neg_ℤ (floor_div a turn)) (pos turn))))
    ∙ periodic (neg_ℤ a) (neg_ℤ (neg_ℤ (floor_div a turn)))

-- a difference, both sides reduced
pub of-difference : (a b : ℤ) → mod_turn (pos (mod_turn a) -ℤ pos (mod_turn b)) ≡ mod_turn (a -ℤ b)
of-difference a b =
    of-sum a (neg_ℤ (pos (mod_turn b))) ∙ sym (of-sum-right a (neg_ℤ (pos (mod_turn b))))
    ∙ ap (λ (n : ℕ). mod_turn (a +ℤ pos n)) (of-negation b) ∙ of-sum-right a (neg_ℤ b)
