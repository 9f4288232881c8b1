-- The records that are left: one more while there are any, none at the end; and what is done goes before what is left.
-- By the definitions' clauses.
use mathlib.Core.Path.{◌≡◌, refl, sym, ap, subst, ◌∙◌}
use mathlib.Core.List.{List, [], ◌∷◌, ◌++◌, append-nil, append_assoc}
use Prim.Native.Nat.{ℕ, suc, ◌+◌, ◌-◌, ◌^◌, ◌≤◌, ◌<◌}
use native.Mathlib.Omega.{arith}
use native.Mathlib.Nat.{sub-zero}
use lib.ListN.{get_or}
use Rattle.table.specs.Table.{Main, Shallow}
use Rattle.month_prepared.specs.Prepared.{Constituent}
use Rattle.station.specs.Records.{record_from, records_from}
use Rattle.month_arguments.specs.Longitudes.{Longitudes}
use Rattle.table.specs.Definitions.{definition_at}
use Rattle.month_satellites.specs.Latitude.{Factors}
use Rattle.month_satellites.specs.Satellites.{Pair}
use Rattle.refusals.specs.Outcome.{Outcome, accepted, refused, ◌>>=◌}
use Rattle.refusals.specs.Checked.{good, bad, at_place}
use Rattle.month_pairs.specs.inner.Ranges.{Small}
use Rattle.month_satellites.specs.inner.Ranges.{Sized}
use Rattle.month_satellites.specs.inner.View.{pair_of}
use Rattle.month_pairs.specs.inner.Corrected.{corrected_of}
use Rattle.month_satellites.specs.declared.satellites.Pair as code
use Rattle.std.specs.Prelude.{None, Some}
use Rattle.month_workings.specs.Worked.{argument_of, correction_of}
use Rattle.month.specs.Month.{records_prepared, weight, constituent}
use Rattle.month_workings.specs.inner.View.{IsWorked}
use Rattle.month_workings.specs.declared.worked.Worked.{Worked}

-- what is done goes before what is left
abbrev pub before : List Constituent → Outcome (List Constituent) → Outcome (List Constituent)
before cs left = left >>= λ rest. accepted (cs ++ rest)

joined : (cs : List Constituent) (c : Constituent) (rest : Outcome (List Constituent)) → before cs (before (c ∷ []) rest) ≡ before (cs ++ (c ∷ [])) rest
joined cs c (refused number k) = refl
joined cs c (accepted rest) = ap accepted (sym (append_assoc cs (c ∷ []) rest))

none_before : (rest : Outcome (List Constituent)) → before [] rest ≡ rest
none_before (refused number k) = refl
none_before (accepted rest) = refl

module _ (frequencies : List ℕ) (mains : List Main) (shallows : List Shallow) (g : Factors) (l : Longitudes) (places amplitudes lags : List ℕ) where
  -- what is left from record k on, of n
  abbrev pub left : ℕ → ℕ → Outcome (List Constituent)
  left n k = records_prepared frequencies mains shallows g l (k + 1) (records_from places amplitudes lags k (n - k))

  left-more : (k n : ℕ) → k < n
      → left n k ≡ (at_place (k + 1) (correction_of g l mains (definition_at mains shallows (record_from places amplitudes lags k).place)) >>= λ xy.
      before (constituent frequencies (record_from places amplitudes lags k) (argument_of l mains (definition_at mains shallows (record_from places amplitudes lags k).place)) xy ∷ []) (left n (k + 1)))
  unfolding records_from records_prepared
  left-more k n h = let e : n - k ≡ suc (n - (k + 1)) = omega arith in rw e

  left-none : (k n : ℕ) → n ≤ k → left n k ≡ accepted []
  unfolding records_from records_prepared
  left-none k n h = let e : n - k ≡ 0 = omega arith in rw e

  -- a record that is refused ends the work
  pub ends-refused : (cs : List Constituent) (k n : ℕ) → k < n → correction_of g l mains (definition_at mains shallows (record_from places amplitudes lags k).place) ≡ bad 11 → before cs (left n k) ≡ refused 11 (k + 1)
  ends-refused cs k n h e = rw (left-more k n h, e)

  -- one that is not goes to what is done
  pub goes_on_lem : (cs : List Constituent) (k n : ℕ) (xy : Pair) → k < n → correction_of g l mains (definition_at mains shallows (record_from places amplitudes lags k).place) ≡ good xy
      → before cs (left n k) ≡ before (cs ++ (constituent frequencies (record_from places amplitudes lags k) (argument_of l mains (definition_at mains shallows (record_from places amplitudes lags k).place)) xy ∷ [])) (left n (k + 1))
  goes_on_lem cs k n xy h e = rw (left-more k n h, e) (joined cs (constituent frequencies (record_from places amplitudes lags k) (argument_of l mains (definition_at mains shallows (record_from places amplitudes lags k).place)) xy) (left n (k + 1)))

  -- at the end all are done
  pub all_done : (cs : List Constituent) (k n : ℕ) → n ≤ k → before cs (left n k) ≡ accepted cs
  all_done cs k n h = rw (left-none k n h) (ap accepted (append-nil cs))

  -- at the start none is
  pub none_done : (n : ℕ) → before [] (left n 0) ≡ records_prepared frequencies mains shallows g l 1 (records_from places amplitudes lags 0 n)
  none_done n = none_before (left n 0) ∙ rw (sub-zero n)

  -- ---- with what was worked out at record k

  module _ (cs : List Constituent) (k n : ℕ) (whole : Outcome (List Constituent)) (inv : before cs (left n k) ≡ whole) (h : k < n) (w : Worked) (is : IsWorked g l mains shallows (get_or places k 0) w) where
    pub refused-at : w.corrected ≡ None → refused 11 (k + 1) ≡ whole
    refused-at e = sym (ends-refused cs k n h (sym is.correction ∙ ap corrected_of e)) ∙ inv

    module _ (xy : code.Pair) (e : w.corrected ≡ Some xy) where
      pub small_at : Sized (2 ^ 22) xy
      small_at = subst Small e is.small

      pub accepted-at : (f : ℕ) (cs' : List Constituent) → f ≡ get_or frequencies (get_or places k 0) 0
          → cs' ≡ cs ++ (record { argument = w.argument; lag = get_or lags k 0; frequency = f; p = weight (get_or amplitudes k 0) xy.x; q = weight (get_or amplitudes k 0) xy.y } ∷ []) → before cs' (left n (k + 1)) ≡ whole
      unfolding constituent
      accepted-at f cs' ef ec = rw (ec, ef, is.argument) (sym (goes_on_lem cs k n (pair_of xy) h (sym is.correction ∙ ap corrected_of e)) ∙ inv)
