-- V as the code adds it up. From the laws of angles modulo a turn.
use mathlib.Core.Path.{◌≡◌, sym, ap, ◌∙◌}
use mathlib.Core.List.{List, [], ◌∷◌}
use Prim.Native.Nat.{ℕ, ◌+◌, ◌-◌, ◌≤◌, ◌<◌, ◌%◌}
use native.Mathlib.Nat.{sub-zero}
use native.Mathlib.Omega.{arith}
use lib.IntN.{ℤ, pos, ◌+ℤ◌, ◌*ℤ◌, +ℤ_assoc, +ℤ_idl, +ℤ_idr}
use lib.ListN.{get_or}
use Rattle.angles.specs.Ticks.{turn, centicycle}
use Rattle.angles.specs.Floor.{mod_turn}
use Rattle.angles.proofs.Angles.{of-sum, again}
use Rattle.table.specs.inner.View.{listed, part_of, naturals, integers, shallow_of}
use Rattle.table.proofs.Rows.{listed_next, listed-end}
use Rattle.month_arguments.specs.Longitudes.{Longitudes, times}
use Rattle.month_arguments.specs.Arguments.{lunar_time, astronomical, argument, sum_of_parts, argument_from_parts}
use Rattle.month_arguments.proofs.arguments.Reduced.{times-reduced}

seven : (a b c d e f p : ℤ) → a +ℤ b +ℤ c +ℤ d +ℤ e +ℤ f +ℤ p ≡ a +ℤ (b +ℤ (c +ℤ (d +ℤ (e +ℤ (f +ℤ pos 0))))) +ℤ p
seven a b c d e f p = simp (+ℤ_assoc, +ℤ_idr)

-- V from its seven terms, each with its angle reduced
pub seven-terms : (l : Longitudes) (n₀ n₁ n₂ n₃ n₄ n₅ n₆ : ℤ) (t : ℕ) → t ≡ mod_turn (lunar_time l.h l.s)
    → mod_turn (n₀ *ℤ pos (t % turn) +ℤ n₁ *ℤ pos (l.s % turn) +ℤ n₂ *ℤ pos (l.h % turn) +ℤ n₃ *ℤ pos (l.p % turn) +ℤ n₄ *ℤ pos (l.n' % turn) +ℤ n₅ *ℤ pos (l.p' % turn) +ℤ n₆ *ℤ pos (centicycle % turn))
    ≡ argument l (n₀ ∷ n₁ ∷ n₂ ∷ n₃ ∷ n₄ ∷ n₅ ∷ []) n₆
unfolding argument times
seven-terms l n₀ n₁ n₂ n₃ n₄ n₅ n₆ t e =
    ap (λ (m : ℕ). mod_turn (n₀ *ℤ pos m +ℤ n₁ *ℤ pos (l.s % turn) +ℤ n₂ *ℤ pos (l.h % turn) +ℤ n₃ *ℤ pos (l.p % turn) +ℤ n₄ *ℤ pos (l.n' % turn) +ℤ n₅ *ℤ pos (l.p' % turn) +ℤ n₆ *ℤ pos (centicycle % turn))) reduced
    ∙ ap mod_turn (seven (n₀ *ℤ pos (mod_turn (lunar_time l.h l.s))) (n₁ *ℤ pos (l.s % turn)) (n₂ *ℤ pos (l.h % turn)) (n₃ *ℤ pos (l.p % turn)) (n₄ *ℤ pos (l.n' % turn)) (n₅ *ℤ pos (l.p' % turn)) (n₆ *ℤ pos centicycle))
    ∙ times-reduced (n₀ ∷ n₁ ∷ n₂ ∷ n₃ ∷ n₄ ∷ n₅ ∷ []) (astronomical l) (n₆ *ℤ pos centicycle)
  where
    reduced : t % turn ≡ mod_turn (lunar_time l.h l.s)
    reduced = ap (λ (m : ℕ). m % turn) e ∙ again (lunar_time l.h l.s)

-- the parts that are left, from part j on
module _ (vs card : List ℕ) (coefficients : List ℤ) where
  pub parts_more : (v j n : ℕ) → j < n → mod_turn (pos v +ℤ sum_of_parts vs (listed (part_of card coefficients) j (n - j))) ≡ mod_turn (pos (mod_turn (pos v +ℤ get_or coefficients j (pos 0) *ℤ pos (get_or vs (get_or card (2 + j) 0) 0))) +ℤ sum_of_parts vs (listed (part_of card coefficients) (j + 1) (n - (j + 1))))
  unfolding sum_of_parts part_of
  parts_more v j n h =
      rw (listed_next (part_of card coefficients) j n h)
      (ap mod_turn (sym (+ℤ_assoc (pos v) (get_or coefficients j (pos 0) *ℤ pos (get_or vs (get_or card (2 + j) 0) 0)) (sum_of_parts vs (listed (part_of card coefficients) (j + 1) (n - (j + 1))))))
      ∙ sym (of-sum (pos v +ℤ get_or coefficients j (pos 0) *ℤ pos (get_or vs (get_or card (2 + j) 0) 0)) (sum_of_parts vs (listed (part_of card coefficients) (j + 1) (n - (j + 1))))))

  pub parts_none : (v j n : ℕ) → n ≤ j → v < turn → mod_turn (pos v +ℤ sum_of_parts vs (listed (part_of card coefficients) j (n - j))) ≡ v
  unfolding sum_of_parts
  parts_none v j n h small = rw (listed-end (part_of card coefficients) j n h) (ap mod_turn (+ℤ_idr (pos v)) ∙ omega arith)

-- all of them, from the first on
pub parts_all : (vs cards : List ℕ) (coefficients : List ℤ) (k n : ℕ) → n ≡ get_or (naturals 6 cards k) 1 0 → mod_turn (pos 0 +ℤ sum_of_parts vs (listed (part_of (naturals 6 cards k) (integers 4 coefficients k)) 0 (n - 0))) ≡ argument_from_parts vs (shallow_of cards coefficients k)
unfolding argument_from_parts shallow_of
parts_all vs cards coefficients k n e = rw (sub-zero n, e) (ap mod_turn (+ℤ_idl (sum_of_parts vs (listed (part_of (naturals 6 cards k) (integers 4 coefficients k)) 0 (get_or (naturals 6 cards k) 1 0)))))
