-- Before any main is worked out: no V is below a turn, and past the table's rows V is 0 and the pair (2^20, 0). By the lengths of its arrays.
use mathlib.Core.Path.{◌≡◌, refl, sym, ap, subst, ◌∙◌}
use mathlib.Core.Bool.{Bool, true, false}
use mathlib.Core.List.{List}
use Prim.Native.Nat.{ℕ, ◌+◌, ◌*◌, ◌≤◌, ◌<◌}
use native.Mathlib.Omega.{arith}
use native.Mathlib.Nat.{lt_irrefl, zero-mul}
use borrow.Author.Tests.{ltb-true, ltb-false}
use lib.Dec.{ltb}
use lib.IntN.{ℤ, pos, nat_abs, zero-*ℤ}
use lib.ListN.{length, get_or, get_or-replicate, length-replicate, get_or-eq_default}
use Rattle.limits.specs.Limits.{most_mains}
use Rattle.angles.specs.Ticks.{turn}
use Rattle.table.specs.inner.View.{listed, row_of, naturals}
use Rattle.table.proofs.entries.Beyond.{past-rows, past-entries, entry_at}
use Rattle.month_arguments.specs.Longitudes.{Longitudes, times}
use Rattle.month_arguments.specs.Arguments.{argument}
use Rattle.month_arguments.specs.inner.Rows.{row_argument, arguments_in}
use Rattle.month_satellites.specs.Latitude.{Factors}
use Rattle.month_satellites.specs.Satellites.{sum_over, main_pair}
use Rattle.refusals.specs.Checked.{good}
use Rattle.month_pairs.specs.Pairs.{checked, start_pair}
use Rattle.month_pairs.specs.inner.Rows.{row_satellites, row_corrected}
use Rattle.month_workings.specs.inner.Kept.{argument_at, corrected_at, Has, none_kept, Kept}

-- V of a row past the array
row-past : (l : Longitudes) (angles : List ℤ) (k : ℕ) → length angles ≤ 7 * k → row_argument l angles k ≡ 0
unfolding row_argument argument times row_of listed
row-past l angles k h =
    rw (past 0, past 1, past 2, past 3, past 4, past 5, past 6) (simp (zero-*ℤ, zero-mul))
  where
    past : (j : ℕ) → get_or angles (7 * k + j) (pos 0) ≡ pos 0
    past j = get_or-eq_default angles (pos 0) (omega arith)

-- the pair of a row past the array
pair-past : (g : Factors) (longitudes cards : List ℕ) (angles : List ℤ) (ratios : List ℕ) (k : ℕ) → length cards ≤ 3 * k → row_corrected g longitudes cards angles ratios k ≡ good start_pair
unfolding row_corrected row_satellites main_pair sum_over checked listed
pair-past g longitudes cards angles ratios k h =
    let none : get_or (naturals 3 cards k) 2 0 ≡ 0 = sym (past-rows 0 3 cards k 2 (omega arith) (omega arith)) in
    rw none

-- an entry of a list that has the default from 64 on
past-mains : {A : Type 0} (none : A) (f : ℕ → A) (n : ℕ) → ((k : ℕ) → most_mains ≤ k → f k ≡ none) → (k : ℕ) → most_mains ≤ k → get_or (listed f 0 n) k none ≡ none
past-mains none f n h k far = by (ltb k n) refl
  where
    by : (t : Bool) → ltb k n ≡ t → get_or (listed f 0 n) k none ≡ none
    by true e = sym (entry_at none f n k (ltb-true k n e)) ∙ h k far
    by false e = sym (past-entries none f n k (ltb-false k n e))

module _ (l : Longitudes) (angles : List ℤ) (g : Factors) (longitudes cards : List ℕ) (satelliteangles : List ℤ) (ratios : List ℕ) (mains : ℕ) (a : length angles ≡ 448) (b : length cards ≡ 3 * most_mains) where
  far-only : (k : ℕ) → Has none_kept k → most_mains ≤ k
  far-only k h = by (ltb k most_mains) refl
    where
      by : (t : Bool) → ltb k most_mains ≡ t → most_mains ≤ k
      by true e =
          let inside : k < most_mains = ltb-true k most_mains e in
          let v : get_or (arguments_in none_kept) k 0 ≡ turn = sym (entry_at 0 (λ j. nat_abs (get_or none_kept (3 * j) (pos 0))) most_mains k inside) ∙ ap nat_abs (get_or-replicate (3 * most_mains) (3 * k) (pos turn) (pos 0) (omega (arith, inside))) in
          absurd (lt_irrefl turn (subst (λ (n : ℕ). n < turn) v h))
      by false e = ltb-false k most_mains e

  pub none_kept_lem : Kept (argument_at l angles mains) (corrected_at g longitudes cards satelliteangles ratios mains) none_kept
  none_kept_lem =
      record {
        room = length-replicate (3 * most_mains) (pos turn);
        arguments = λ k h.
            sym (past-entries 0 (λ j. nat_abs (get_or none_kept (3 * j) (pos 0))) most_mains k (far-only k h))
            ∙ sym (past-mains 0 (row_argument l angles) mains (λ i f. row-past l angles i (omega arith)) k (far-only k h));
        pairs = λ k h.
            sym (past-entries (good start_pair) _ most_mains k (far-only k h))
            ∙ sym (past-mains (good start_pair) (row_corrected g longitudes cards satelliteangles ratios) mains (λ i f. pair-past g longitudes cards satelliteangles ratios i (omega arith)) k (far-only k h));
      }
