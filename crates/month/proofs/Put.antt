-- A constituent put at place k stands after those before it. By recursion on the places before k, from the laws of stores in lists.
use mathlib.Core.Path.{◌≡◌, ap, ◌∙◌}
use mathlib.Core.List.{List, [], ◌∷◌, ◌++◌}
use Prim.Native.Nat.{ℕ, zero, suc, ◌+◌, ◌<◌}
use native.Mathlib.Numerals.{add-one}
use native.Mathlib.Omega.{arith}
use lib.IntN.{ℤ, pos}
use lib.ListN.{length, set, length-set}
use lib.Seq.{get_or-set_same, get_or-set_other}
use Rattle.limits.specs.Limits.{most_records}
use Rattle.month_prepared.specs.Prepared.{Constituent}
use Rattle.month_prepared.specs.inner.View.{constituent_at, constituents_after}
use Rattle.month_prepared.specs.declared.Month.{Month}
use Rattle.month.specs.inner.View.{held_upto}

module _ (arguments lags frequencies : List ℕ) (ps qs : List ℤ) (k : ℕ) (argument lag frequency : ℕ) (p q : ℤ) where
  -- the five lists with the new numbers, from place j on
  abbrev stored : ℕ → ℕ → List Constituent
  stored j n = constituents_after (set arguments k argument) (set lags k lag) (set frequencies k frequency) (set ps k p) (set qs k q) j n

  module _ (a : k < length arguments) (l : k < length lags) (f : k < length frequencies) (x : k < length ps) (y : k < length qs) where
    put-from : (j n : ℕ) → j + n ≡ k → stored j (suc n) ≡ constituents_after arguments lags frequencies ps qs j n ++ (record { argument = argument; lag = lag; frequency = frequency; p = p; q = q } ∷ [])
    unfolding constituents_after
    put-from j zero e =
        let same : j ≡ k = omega arith in
        rw (same, get_or-set_same arguments k argument 0 a, get_or-set_same lags k lag 0 l, get_or-set_same frequencies k frequency 0 f, get_or-set_same ps k p (pos 0) x, get_or-set_same qs k q (pos 0) y)
    put-from j (suc n) e =
        let less : j ≡ k → ⊥ = λ h. omega arith in
        rw (get_or-set_other arguments k j argument 0 less, get_or-set_other lags k j lag 0 less, get_or-set_other frequencies k j frequency 0 less, get_or-set_other ps k j p (pos 0) less, get_or-set_other qs k j q (pos 0) less)
        (ap (λ cs. constituent_at arguments lags frequencies ps qs j ∷ cs) (put-from (j + 1) n (omega arith)))

    pub put_last : stored 0 (k + 1) ≡ constituents_after arguments lags frequencies ps qs 0 k ++ (record { argument = argument; lag = lag; frequency = frequency; p = p; q = q } ∷ [])
    put_last = rw (add-one k) (put-from 0 k (omega arith))

-- a month's arrays have 146 places
pub record Room (m : Month) : Type 0 where
  pub arguments : length m.arguments ≡ most_records
  pub lags : length m.lags ≡ most_records
  pub frequencies : length m.frequencies ≡ most_records
  pub ps : length m.ps ≡ most_records
  pub qs : length m.qs ≡ most_records

-- a month with a constituent at place k
module _ (m : Month) (k argument lag frequency : ℕ) (p q : ℤ) (r : Room m) where
  abbrev pub with-one : Month
  with-one = record { count = m.count; arguments = set m.arguments k argument; lags = set m.lags k lag; frequencies = set m.frequencies k frequency; ps = set m.ps k p; qs = set m.qs k q }

  pub room-kept : Room with-one
  room-kept =
      record {
        arguments = length-set m.arguments k argument ∙ r.arguments;
        lags = length-set m.lags k lag ∙ r.lags;
        frequencies = length-set m.frequencies k frequency ∙ r.frequencies;
        ps = length-set m.ps k p ∙ r.ps;
        qs = length-set m.qs k q ∙ r.qs;
      }

  pub stands-last : k < most_records → held_upto with-one (k + 1) ≡ held_upto m k ++ (record { argument = argument; lag = lag; frequency = frequency; p = p; q = q } ∷ [])
  stands-last h =
      put_last m.arguments m.lags m.frequencies m.ps m.qs k argument lag frequency p q
      (omega (arith, r.arguments)) (omega (arith, r.lags)) (omega (arith, r.frequencies)) (omega (arith, r.ps)) (omega (arith, r.qs))
