-- Angles that the code reduces before it adds. From the laws of angles modulo a turn.
use mathlib.Core.Path.{◌≡◌, refl, sym, ap, ◌∙◌}
use mathlib.Core.List.{List, [], ◌∷◌, map}
use Prim.Native.Nat.{ℕ, ◌%◌}
use native.Mathlib.Nat.{one-mul}
use lib.IntN.{ℤ, pos, negsuc, neg_ℤ, ◌+ℤ◌, ◌-ℤ◌, ◌*ℤ◌, +ℤ_assoc, +ℤ_comm}
use Rattle.angles.specs.Ticks.{turn}
use Rattle.angles.specs.Floor.{mod_turn}
use Rattle.angles.proofs.Angles.{of-sum, of-sum-right, of-product}
use Rattle.month_arguments.specs.Longitudes.{times}

-- a factor may be reduced first, in the last term or in the first
pub last-reduced : (a n b : ℤ) → mod_turn (a +ℤ n *ℤ pos (mod_turn b)) ≡ mod_turn (a +ℤ n *ℤ b)
last-reduced a n b =
    sym (of-sum-right a (n *ℤ pos (mod_turn b))) ∙ ap (λ (m : ℕ). mod_turn (a +ℤ pos m)) (of-product n b) ∙ of-sum-right a (n *ℤ b)

pub first_reduced : (n b r : ℤ) → mod_turn (n *ℤ pos (mod_turn b) +ℤ r) ≡ mod_turn (n *ℤ b +ℤ r)
first_reduced n b r =
    sym (of-sum (n *ℤ pos (mod_turn b)) r) ∙ ap (λ (m : ℕ). mod_turn (pos m +ℤ r)) (of-product n b) ∙ of-sum (n *ℤ b) r

-- and in every term
pub times-reduced : (ns angles : List ℤ) (r : ℤ) → mod_turn (times ns (map (λ a. pos (mod_turn a)) angles) +ℤ r) ≡ mod_turn (times ns angles +ℤ r)
unfolding times
times-reduced [] angles r = refl
times-reduced (n ∷ ns) [] r = refl
times-reduced (n ∷ ns) (a ∷ angles) r =
    ap mod_turn (+ℤ_assoc (n *ℤ pos (mod_turn a)) (times ns (map (λ a. pos (mod_turn a)) angles)) r)
    ∙ first_reduced n a (times ns (map (λ a. pos (mod_turn a)) angles) +ℤ r)
    ∙ ap mod_turn (exchanged (n *ℤ a) (times ns (map (λ a. pos (mod_turn a)) angles)) r)
    ∙ times-reduced ns angles (n *ℤ a +ℤ r)
    ∙ ap mod_turn (sym (exchanged (n *ℤ a) (times ns angles) r) ∙ sym (+ℤ_assoc (n *ℤ a) (times ns angles) r))
  where
    exchanged : (a b c : ℤ) → a +ℤ (b +ℤ c) ≡ b +ℤ (a +ℤ c)
    exchanged a b c = sym (+ℤ_assoc a b c) ∙ ap (λ (z : ℤ). z +ℤ c) (+ℤ_comm a b) ∙ +ℤ_assoc b a c

-- one time and minus one time
pub once : (n : ℕ) → pos 1 *ℤ pos n ≡ pos n
once n = ap pos (one-mul n)

pub minus-once : (a : ℤ) (n : ℕ) → a +ℤ negsuc 0 *ℤ pos n ≡ a -ℤ pos n
minus-once a n = ap (λ (m : ℕ). a +ℤ neg_ℤ (pos m)) (one-mul n)

-- two angles joined: one as it is, a number of times the other
pub joined : (n : ℤ) (a b : ℕ) → mod_turn (pos 1 *ℤ pos (a % turn) +ℤ n *ℤ pos (b % turn)) ≡ mod_turn (pos a +ℤ n *ℤ pos b)
joined n a b =
    first_reduced (pos 1) (pos a) (n *ℤ pos (b % turn)) ∙ ap (λ (z : ℤ). mod_turn (z +ℤ n *ℤ pos (b % turn))) (once a) ∙ last-reduced (pos a) n (pos b)
