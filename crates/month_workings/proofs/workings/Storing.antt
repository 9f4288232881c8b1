-- One main more: what is kept stays, and the new one is its own. From the laws of stores in lists.
use mathlib.Core.Path.{◌≡◌, refl, sym, ap, subst, ◌∙◌}
use mathlib.Core.Bool.{Bool, true, false}
use mathlib.Core.List.{List}
use Prim.Native.Nat.{ℕ, ◌+◌, ◌*◌, ◌≤◌, ◌<◌}
use native.Mathlib.Omega.{arith}
use borrow.Author.Tests.{eqb-true, eqb-false, ltb-true, ltb-false}
use lib.Dec.{eqb, ltb, lit<}
use lib.IntN.{ℤ, pos, nat_abs}
use lib.ListN.{get_or, set, length-set}
use lib.Seq.{get_or-set_same, get_or-set_other}
use Rattle.limits.specs.Limits.{most_mains}
use Rattle.angles.specs.Ticks.{turn}
use Rattle.table.proofs.entries.Beyond.{entry_at, past-entries}
use Rattle.month_arguments.specs.inner.Rows.{arguments_in}
use Rattle.refusals.specs.Checked.{good}
use Rattle.month_pairs.specs.Pairs.{Corrected, checked, start_pair}
use Rattle.month_pairs.specs.inner.Rows.{sum_at, pairs_of}
use Rattle.month_workings.specs.inner.Kept.{Has, Kept, WithMain}

-- V and pair k of 64, and those past the last
argument_is : (kept : List ℤ) (k : ℕ) → k < most_mains → get_or (arguments_in kept) k 0 ≡ nat_abs (get_or kept (3 * k) (pos 0))
argument_is kept k h = sym (entry_at 0 (λ j. nat_abs (get_or kept (3 * j) (pos 0))) most_mains k h)

argument-past : (kept : List ℤ) (k : ℕ) → most_mains ≤ k → get_or (arguments_in kept) k 0 ≡ 0
argument-past kept k h = sym (past-entries 0 (λ j. nat_abs (get_or kept (3 * j) (pos 0))) most_mains k h)

pair_is : (kept : List ℤ) (k : ℕ) → k < most_mains → get_or (pairs_of kept) k (good start_pair) ≡ checked (sum_at kept k)
pair_is kept k h = sym (entry_at (good start_pair) (λ j. checked (sum_at kept j)) most_mains k h)

pair-past : (kept : List ℤ) (k : ℕ) → most_mains ≤ k → get_or (pairs_of kept) k (good start_pair) ≡ good start_pair
pair-past kept k h = sym (past-entries (good start_pair) (λ j. checked (sum_at kept j)) most_mains k h)

module _ (argument : ℕ → ℕ) (corrected : ℕ → Corrected) (k : ℕ) (kept : List ℤ) (old : Kept argument corrected kept) where
  -- nothing is to be done
  pub as-it-is : Has kept k → WithMain argument corrected k kept kept
  as-it-is h = record { kept = old; has = h; still = λ j g. g }

  -- past the array 0 stands, below a turn
  pub past_all : most_mains ≤ k → WithMain argument corrected k kept kept
  past_all h = as-it-is (subst (λ (n : ℕ). n < turn) (sym (argument-past kept k h)) (lit< tt))

  module _ (v : ℕ) (x y : ℤ) (inside : k < most_mains) (low : v < turn) (av : v ≡ argument k) (ap' : checked (record { x = x; y = y }) ≡ corrected k) where
    abbrev with-v : List ℤ
    with-v = set kept (3 * k) (pos v)

    abbrev with-x : List ℤ
    with-x = set with-v (3 * k + 1) x

    abbrev after : List ℤ
    after = set with-x (3 * k + 2) y

    -- ---- the row's three numbers, and the others

    v-stands : get_or after (3 * k) (pos 0) ≡ pos v
    v-stands =
        get_or-set_other with-x (3 * k + 2) (3 * k) y (pos 0) (λ e. omega (arith, e)) ∙ get_or-set_other with-v (3 * k + 1) (3 * k) x (pos 0) (λ e. omega (arith, e))
        ∙ get_or-set_same kept (3 * k) (pos v) (pos 0) (omega (arith, inside, old.room))

    x-stands : get_or after (3 * k + 1) (pos 0) ≡ x
    x-stands =
        get_or-set_other with-x (3 * k + 2) (3 * k + 1) y (pos 0) (λ e. omega (arith, e))
        ∙ get_or-set_same with-v (3 * k + 1) x (pos 0) (omega (arith, inside, old.room, length-set kept (3 * k) (pos v)))

    y-stands : get_or after (3 * k + 2) (pos 0) ≡ y
    y-stands = get_or-set_same with-x (3 * k + 2) y (pos 0) (omega (arith, inside, old.room, length-set kept (3 * k) (pos v), length-set with-v (3 * k + 1) x))

    as_before : (i : ℕ) → (i ≡ 3 * k → ⊥) → (i ≡ 3 * k + 1 → ⊥) → (i ≡ 3 * k + 2 → ⊥) → get_or after i (pos 0) ≡ get_or kept i (pos 0)
    as_before i a b c = get_or-set_other with-x (3 * k + 2) i y (pos 0) c ∙ get_or-set_other with-v (3 * k + 1) i x (pos 0) b ∙ get_or-set_other kept (3 * k) i (pos v) (pos 0) a

    -- ---- V and the pair of each main

    at-k : get_or (arguments_in after) k 0 ≡ v
    at-k = argument_is after k inside ∙ ap nat_abs v-stands

    pair-at-k : get_or (pairs_of after) k (good start_pair) ≡ corrected k
    pair-at-k = pair_is after k inside ∙ (rw (x-stands, y-stands) ap')

    other-argument : (j : ℕ) → (j ≡ k → ⊥) → get_or (arguments_in after) j 0 ≡ get_or (arguments_in kept) j 0
    other-argument j d = by (ltb j most_mains) refl
      where
        by : (t : Bool) → ltb j most_mains ≡ t → get_or (arguments_in after) j 0 ≡ get_or (arguments_in kept) j 0
        by true e =
            let h : j < most_mains = ltb-true j most_mains e in
            argument_is after j h ∙ ap nat_abs (as_before (3 * j) (λ i. d (omega (arith, i))) (λ i. omega (arith, i)) (λ i. omega (arith, i))) ∙ sym (argument_is kept j h)
        by false e =
            let h : most_mains ≤ j = ltb-false j most_mains e in
            argument-past after j h ∙ sym (argument-past kept j h)

    other-pair : (j : ℕ) → (j ≡ k → ⊥) → get_or (pairs_of after) j (good start_pair) ≡ get_or (pairs_of kept) j (good start_pair)
    other-pair j d = by (ltb j most_mains) refl
      where
        by : (t : Bool) → ltb j most_mains ≡ t → get_or (pairs_of after) j (good start_pair) ≡ get_or (pairs_of kept) j (good start_pair)
        by true e =
            let h : j < most_mains = ltb-true j most_mains e in
            let ex : get_or after (3 * j + 1) (pos 0) ≡ get_or kept (3 * j + 1) (pos 0) = as_before (3 * j + 1) (λ i. omega (arith, i)) (λ i. d (omega (arith, i))) (λ i. omega (arith, i)) in
            let ey : get_or after (3 * j + 2) (pos 0) ≡ get_or kept (3 * j + 2) (pos 0) = as_before (3 * j + 2) (λ i. omega (arith, i)) (λ i. omega (arith, i)) (λ i. d (omega (arith, i))) in
            pair_is after j h ∙ (rw (ex, ey) (sym (pair_is kept j h)))
        by false e =
            let h : most_mains ≤ j = ltb-false j most_mains e in
            pair-past after j h ∙ sym (pair-past kept j h)

    -- main j, the new one or another
    of-each : (P : ℕ → Type 0) → P k → ((j : ℕ) → (j ≡ k → ⊥) → P j) → (j : ℕ) → P j
    of-each P same other j = by (eqb j k) refl
      where
        by : (t : Bool) → eqb j k ≡ t → P j
        by true e = subst P (sym (eqb-true j k e)) same
        by false e = other j (eqb-false j k e)

    pub stored : WithMain argument corrected k kept after
    stored =
        record {
          kept =
              record {
                room = length-set with-x (3 * k + 2) y ∙ length-set with-v (3 * k + 1) x ∙ length-set kept (3 * k) (pos v) ∙ old.room;
                arguments = of-each (λ j. Has after j → get_or (arguments_in after) j 0 ≡ argument j) (λ h. at-k ∙ av) (λ j d h. other-argument j d ∙ old.arguments j (was j d h));
                pairs = of-each (λ j. Has after j → get_or (pairs_of after) j (good start_pair) ≡ corrected j) (λ h. pair-at-k) (λ j d h. other-pair j d ∙ old.pairs j (was j d h));
              };
          has = now-has;
          still = of-each (λ j. Has kept j → Has after j) (λ h. now-has) (λ j d h. subst (λ (n : ℕ). n < turn) (sym (other-argument j d)) h);
        }
      where
        now-has : Has after k
        now-has = subst (λ (n : ℕ). n < turn) (sym at-k) low

        was : (j : ℕ) → (j ≡ k → ⊥) → Has after j → Has kept j
        was j d h = subst (λ (n : ℕ). n < turn) (other-argument j d) h

-- one part more: its main is worked out, and those of the parts before still are
module _ (argument : ℕ → ℕ) (corrected : ℕ → Corrected) (k : ℕ) (kept after : List ℤ) (card : List ℕ) (j : ℕ) where
  pub one-part-more : k ≡ get_or card (2 + j) 0 → ((i : ℕ) → i < j → Has kept (get_or card (2 + i) 0)) → WithMain argument corrected k kept after → (i : ℕ) → i < j + 1 → Has after (get_or card (2 + i) 0)
  one-part-more e old w i h = by (ltb i j) refl
    where
      by : (t : Bool) → ltb i j ≡ t → Has after (get_or card (2 + i) 0)
      by true l = w.still (get_or card (2 + i) 0) (old i (ltb-true i j l))
      by false l =
          let same : i ≡ j = omega (arith, h, ltb-false i j l) in
          rw same (subst (λ (m : ℕ). Has after m) e w.has)
