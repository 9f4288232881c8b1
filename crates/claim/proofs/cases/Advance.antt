-- From a minute to the next, every angle advances by 1,314 times its frequency, modulo T: what else the two angles are made of cancels.
-- Assumes nothing.
use mathlib.Core.Path.{◌≡◌, sym, ◌∙◌, ap, ap₂}
use Prim.Native.Nat.{ℕ, ◌+◌, ◌*◌}
use native.Mathlib.Nat.{add_comm}
use lib.IntN.{ℤ, pos, neg_ℤ, one, ◌+ℤ◌, ◌-ℤ◌, ◌*ℤ◌, +ℤ_idl, +ℤ_invr, +ℤ-neg_ℤ_cancel, *ℤ-one}
use Rattle.angles.specs.Ticks.{centidegree}
use Rattle.angles.specs.Floor.{mod_turn}
use Rattle.angles.proofs.Ints.{distrib-sub}
use Rattle.angles.proofs.Angles.{of-difference}
use Rattle.angles.proofs.Sums.{difference-of-sums}
use Rattle.heights.specs.Angle.{angle}

-- a minute later is one more, from whatever the minutes are counted
one_later : (minute : ℕ) (c : ℤ) → (pos (minute + 1) -ℤ c) -ℤ (pos minute -ℤ c) ≡ pos 1
one_later minute c =
    difference-of-sums (pos (minute + 1)) (pos minute) (neg_ℤ c) (neg_ℤ c)
    ∙ ap₂ ◌+ℤ◌ (ap (λ (m : ℕ). pos m -ℤ pos minute) (add_comm minute 1) ∙ +ℤ-neg_ℤ_cancel (pos 1) (pos minute)) (+ℤ_invr (neg_ℤ c))

-- x + k × y less x + k × y', where y is one more than y'
one_more : (x k y y' : ℤ) → y -ℤ y' ≡ pos 1 → (x +ℤ k *ℤ y) -ℤ (x +ℤ k *ℤ y') ≡ k
unfolding one
one_more x k y y' e =
    difference-of-sums x x (k *ℤ y) (k *ℤ y') ∙ ap₂ ◌+ℤ◌ (+ℤ_invr x) (sym (distrib-sub k y y') ∙ ap (λ (z : ℤ). k *ℤ z) e ∙ *ℤ-one k) ∙ +ℤ_idl k

pub advance-is : (v lag frequency minute : ℕ) → mod_turn (pos (angle v lag frequency (minute + 1)) -ℤ pos (angle v lag frequency minute)) ≡ mod_turn (pos (1_314 * frequency))
unfolding angle
advance-is v lag frequency minute =
    of-difference (at (pos (minute + 1))) (at (pos minute))
    ∙ ap mod_turn (one_more (pos v -ℤ pos (lag * centidegree)) (pos (1_314 * frequency)) (pos (minute + 1) -ℤ pos 21_600) (pos minute -ℤ pos 21_600) (one_later minute (pos 21_600)))
  where
    at : ℤ → ℤ
    at m = pos v -ℤ pos (lag * centidegree) +ℤ pos (1_314 * frequency) *ℤ (m -ℤ pos 21_600)
