-- A shallow constituent whose parts' mains are worked out: V and the pair from what is kept are those from all mains. By recursion on the parts.
use mathlib.Core.Path.{◌≡◌, refl, ap, ◌∙◌}
use mathlib.Core.List.{List}
use Prim.Native.Nat.{ℕ, zero, suc, ◌+◌, ◌≤◌, ◌<◌}
use native.Mathlib.Omega.{arith}
use lib.IntN.{ℤ}
use lib.ListN.{get_or}
use Rattle.angles.specs.Floor.{mod_turn}
use Rattle.table.specs.inner.View.{listed, part_of, naturals, integers, shallow_of}
use Rattle.month_arguments.specs.Arguments as arguments
use Rattle.month_arguments.specs.Arguments.{sum_of_parts}
use Rattle.month_arguments.specs.inner.Rows.{arguments_in}
use Rattle.month_satellites.specs.Satellites.{Pair}
use Rattle.refusals.specs.Checked.{good, bad, ◌>>=◌}
use Rattle.month_pairs.specs.Pairs.{Corrected, start_pair}
use Rattle.month_pairs.specs.Shallow as nodal
use Rattle.month_pairs.specs.Shallow.{times_part, times_parts}
use Rattle.month_pairs.specs.inner.Rows.{pairs_of}
use Rattle.month_workings.specs.inner.Kept.{WithParts}

-- ---- parts whose mains stand alike in two lists

module _ (card : List ℕ) (coefficients : List ℤ) where
  sums-alike : (vs ws : List ℕ) (j n : ℕ) → ((i : ℕ) → j ≤ i → i < j + n → get_or vs (get_or card (2 + i) 0) 0 ≡ get_or ws (get_or card (2 + i) 0) 0)
      → sum_of_parts vs (listed (part_of card coefficients) j n) ≡ sum_of_parts ws (listed (part_of card coefficients) j n)
  unfolding sum_of_parts listed part_of
  sums-alike vs ws j zero h = refl
  sums-alike vs ws j (suc n) h =
      let first : get_or vs (get_or card (2 + j) 0) 0 ≡ get_or ws (get_or card (2 + j) 0) 0 = h j (omega arith) (omega arith) in
      let rest : sum_of_parts vs (listed (part_of card coefficients) (suc j) n) ≡ sum_of_parts ws (listed (part_of card coefficients) (suc j) n) = sums-alike vs ws (suc j) n (λ i a b. h i (omega arith) (omega arith)) in
      rw (first, rest)

  then-alike : (c : Corrected) (f g : Pair → Corrected) → ((p : Pair) → f p ≡ g p) → (c >>= f) ≡ (c >>= g)
  then-alike (bad number) f g h = refl
  then-alike (good p) f g h = h p

  products-alike : (ps qs : List Corrected) (j n : ℕ) → ((i : ℕ) → j ≤ i → i < j + n → get_or ps (get_or card (2 + i) 0) (good start_pair) ≡ get_or qs (get_or card (2 + i) 0) (good start_pair))
      → (p : Pair) → times_parts ps p (listed (part_of card coefficients) j n) ≡ times_parts qs p (listed (part_of card coefficients) j n)
  unfolding times_parts times_part listed part_of
  products-alike ps qs j zero h p = refl
  products-alike ps qs j (suc n) h p =
      let first : times_part ps p (part_of card coefficients j) ≡ times_part qs p (part_of card coefficients j) = rw (h j (omega arith) (omega arith)) in
      ap (λ c. c >>= (λ q. times_parts ps q (listed (part_of card coefficients) (suc j) n))) first
      ∙ then-alike (times_part qs p (part_of card coefficients j)) _ _ (products-alike ps qs (suc j) n (λ i a b. h i (omega arith) (omega arith)))

-- ---- a shallow constituent

module _ (all : List ℕ) (pairs : List Corrected) (cards : List ℕ) (coefficients : List ℤ) (row : ℕ) (kept : List ℤ)
    (w : WithParts (λ k. get_or all k 0) (λ k. get_or pairs k (good start_pair)) (naturals 6 cards row) kept) where
  pub shallow-argument-is : arguments.argument_from_parts (arguments_in kept) (shallow_of cards coefficients row) ≡ arguments.argument_from_parts all (shallow_of cards coefficients row)
  unfolding arguments.argument_from_parts shallow_of
  shallow-argument-is =
      ap mod_turn (sums-alike (naturals 6 cards row) (integers 4 coefficients row) (arguments_in kept) all 0 (get_or (naturals 6 cards row) 1 0)
      (λ i a b. w.kept.arguments (get_or (naturals 6 cards row) (2 + i) 0) (w.has i (omega arith))))

  pub shallow-pair-is : nodal.pair_from_parts (pairs_of kept) (shallow_of cards coefficients row) ≡ nodal.pair_from_parts pairs (shallow_of cards coefficients row)
  unfolding nodal.pair_from_parts shallow_of
  shallow-pair-is =
      products-alike (naturals 6 cards row) (integers 4 coefficients row) (pairs_of kept) pairs 0 (get_or (naturals 6 cards row) 1 0)
      (λ i a b. w.kept.pairs (get_or (naturals 6 cards row) (2 + i) 0) (w.has i (omega arith))) start_pair
