-- A prepared month's frequencies are the table's: where every frequency of the table is at most a bound, so is every constituent's.
-- By recursion on the records.
use mathlib.Core.Path.{◌≡◌, refl, sym, subst}
use mathlib.Core.List.{List, [], ◌∷◌}
use Prim.Native.Nat.{ℕ, zero, suc, ◌+◌, ◌≤◌, zero-le}
use native.Mathlib.Omega.{arith}
use lib.ListN.{get_or, get_or-map}
use Rattle.table.specs.Table.{Table, Frequency, Main, Shallow}
use Rattle.month_prepared.specs.Prepared.{Constituent}
use Rattle.station.specs.Station.{Station}
use Rattle.station.specs.declared.records.Record.{Record}
use Rattle.month_arguments.specs.Longitudes.{Longitudes}
use Rattle.table.specs.Definitions.{definition_at}
use Rattle.month_satellites.specs.Latitude.{Factors}
use Rattle.month_satellites.specs.Satellites.{Pair}
use Rattle.refusals.specs.Outcome.{Outcome, accepted, refused, ◌>>=◌}
use Rattle.refusals.specs.Checked.{good, bad, at_place}
use Rattle.month_pairs.specs.Pairs.{Corrected}
use Rattle.month_workings.specs.Worked.{argument_of, correction_of}
use Rattle.month.proofs.Records.{before}
use Rattle.month.specs.Month.{records_prepared, constituent, frequencies_in, month_of}

module _ (most : ℕ) (none : Constituent) (z : none.frequency ≡ 0) where
  -- every frequency of a list
  abbrev Within : List Constituent → Type 0
  Within cs = (j : ℕ) → (get_or cs j none).frequency ≤ most

  -- one constituent before the others
  with-one : (c : Constituent) (rest : Outcome (List Constituent)) (cs : List Constituent) → before (c ∷ []) rest ≡ accepted cs → c.frequency ≤ most → ((ds : List Constituent) → rest ≡ accepted ds → Within ds) → Within cs
  with-one c (refused number k) cs e h ih = λ j. let w : ◌≡◌ {A = ℕ} 0 1 = cc in absurd (omega arith)
  with-one c (accepted ds) cs e h ih = subst Within (let w : c ∷ ds ≡ cs = cc in w) (joined (ih ds refl))
    where
      joined : Within ds → Within (c ∷ ds)
      joined w zero = h
      joined w (suc j) = w j

  one_more : (co : Corrected) (k : ℕ) (c : Pair → Constituent) (rest : Outcome (List Constituent)) (cs : List Constituent) → (at_place k co >>= λ xy. before (c xy ∷ []) rest) ≡ accepted cs → ((xy : Pair) → (c xy).frequency ≤ most) → ((ds : List Constituent) → rest ≡ accepted ds → Within ds) → Within cs
  one_more (bad number) k c rest cs e h ih = λ j. let w : ◌≡◌ {A = ℕ} 0 1 = cc in absurd (omega arith)
  one_more (good xy) k c rest cs e h ih = with-one (c xy) rest cs e (h xy) ih

  module _ (frequencies : List ℕ) (mains : List Main) (shallows : List Shallow) (g : Factors) (l : Longitudes) (within : (k : ℕ) → get_or frequencies k 0 ≤ most) where
    records-within : (k : ℕ) (rs : List Record) (cs : List Constituent) → records_prepared frequencies mains shallows g l k rs ≡ accepted cs → Within cs
    unfolding records_prepared constituent
    records-within k [] cs e = subst Within (let w : [] ≡ cs = cc in w) (λ j. subst (λ (n : ℕ). n ≤ most) (sym z) zero-le)
    records-within k (r ∷ rs) cs e =
        one_more (correction_of g l mains (definition_at mains shallows r.place)) k (constituent frequencies r (argument_of l mains (definition_at mains shallows r.place))) (records_prepared frequencies mains shallows g l (k + 1) rs) cs e
        (λ xy. within r.place) (λ ds d. records-within (k + 1) rs ds d)

pub prepared-in-range : (t : Table) (s : Station) (year month : ℕ) (cs : List Constituent) (none : Constituent) → none.frequency ≡ 0
    → ((unused : Frequency) → unused.frequency ≡ 0 → (k : ℕ) → (get_or t.frequencies k unused).frequency ≤ 4_999_999_999)
    → month_of t s year month ≡ accepted cs → (k : ℕ) → (get_or cs k none).frequency ≤ 4_999_999_999
unfolding month_of
prepared-in-range t s year month cs none z within e =
    records-within 4_999_999_999 none z (frequencies_in t) t.mains t.shallows _ _
    (λ k. subst (λ (n : ℕ). n ≤ 4_999_999_999) (sym (get_or-map (λ f. f.frequency) t.frequencies k unused)) (within unused refl k)) 1 s.records cs e
  where
    unused : Frequency
    unused = record { name = []; frequency = 0 }
