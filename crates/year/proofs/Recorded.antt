-- In every month the lags and the frequencies of the constituents are those of the station's records, so that one row of them serves every month. By recursion on the records.
use mathlib.Core.Path.{◌≡◌, refl, sym, ap, subst, ◌∙◌}
use mathlib.Core.List.{List, [], ◌∷◌}
use Prim.{Unit}
use Prim.Native.Nat.{ℕ, zero, suc, ◌+◌, ◌≤◌, ◌<◌, min}
use native.Mathlib.Omega.{arith}
use native.Mathlib.Nat.{add-zero, zero-add}
use mathlib.Core.Bool.{Bool, true, false}
use borrow.Author.Tests.{ltb-true, ltb-false}
use lib.Dec.{ltb}
use lib.IntN.{ℤ}
use lib.ListN.{get_or}
use Rattle.limits.specs.Limits.{most_records, most_frequency}
use Rattle.refusals.specs.Outcome.{Outcome, accepted, refused, ◌>>=◌}
use Rattle.refusals.specs.Checked.{good, bad, at_place}
use Rattle.refusals.proofs.Laws.{not-both}
use Rattle.table.specs.Table.{Main, Shallow}
use Rattle.table.specs.Definitions.{definition_at}
use Rattle.table.specs.declared.Table.{Table}
use Rattle.table.specs.inner.View.{table_of}
use Rattle.table.proofs.entries.Beyond.{past-entries, entry_at}
use Rattle.station.specs.Records.{record_from, records_from}
use Rattle.station.specs.declared.Station.{Station}
use Rattle.station.specs.inner.Station.{station_of}
use Rattle.month_arguments.specs.Longitudes.{Longitudes}
use Rattle.month_satellites.specs.Latitude.{Factors}
use Rattle.month_satellites.specs.Satellites.{Pair}
use Rattle.month_pairs.specs.Pairs.{Corrected}
use Rattle.month_workings.specs.Worked.{argument_of, correction_of}
use Rattle.month_prepared.specs.Prepared.{Constituent}
use Rattle.month_prepared.specs.declared.Month.{Month}
use Rattle.month_prepared.specs.inner.View.{constituent_at, constituents_after, constituents_from, constituents_of}
use Rattle.month_prepared.specs.inner.Rows.{InRange}
use Rattle.month.specs.Month.{records_prepared, constituent, month_of}
use Rattle.month.specs.inner.View.{frequencies_of}
use Rattle.month.proofs.Whole.{rows-are-month}
use Rattle.year.specs.inner.Rows.{held_by}

-- an accepted list: its first constituent, and the others, which were accepted
first-and-others : (P : List Constituent → Type 0) (co : Corrected) (k : ℕ) (c : Pair → Constituent) (others : Outcome (List Constituent)) (cs : List Constituent)
    → (at_place k co >>= λ xy. others >>= λ ds. accepted (c xy ∷ ds)) ≡ accepted cs → ((xy : Pair) (ds : List Constituent) → others ≡ accepted ds → P (c xy ∷ ds)) → P cs
first-and-others P (bad number) k c others cs e h = not-both e
first-and-others P (good xy) k c (refused number place) cs e h = not-both e
first-and-others P (good xy) k c (accepted ds) cs e h = subst P (let w : c xy ∷ ds ≡ cs = cc in w) (h xy ds refl)

module _ (frequencies places lags : List ℕ) where
  -- the frequency of record k's place
  abbrev frequency_at : ℕ → ℕ
  frequency_at k = get_or frequencies (get_or places k 0) 0

  -- the n constituents of the records from i on: each with its record's lag and frequency
  abbrev Recorded : ℕ → ℕ → List Constituent → Type 0
  Recorded i zero [] = Unit
  Recorded i zero (c ∷ cs) = ⊥
  Recorded i (suc n) [] = ⊥
  Recorded i (suc n) (c ∷ cs) = (c.lag ≡ get_or lags i 0) × (c.frequency ≡ frequency_at i) × Recorded (i + 1) n cs

  prepared-recorded : (mains : List Main) (shallows : List Shallow) (g : Factors) (l : Longitudes) (amplitudes : List ℕ) (k i n : ℕ) (cs : List Constituent)
      → records_prepared frequencies mains shallows g l k (records_from places amplitudes lags i n) ≡ accepted cs → Recorded i n cs
  unfolding records_prepared records_from constituent
  prepared-recorded mains shallows g l amplitudes k i zero cs e = subst (Recorded i zero) (let w : [] ≡ cs = cc in w) tt
  prepared-recorded mains shallows g l amplitudes k i (suc n) cs e =
      let r = record_from places amplitudes lags i in
      let definition = definition_at mains shallows r.place in
      first-and-others (Recorded i (suc n)) (correction_of g l mains definition) k (constituent frequencies r (argument_of l mains definition)) (records_prepared frequencies mains shallows g l (k + 1) (records_from places amplitudes lags (i + 1) n)) cs e
      (λ xy ds d. (refl, refl, prepared-recorded mains shallows g l amplitudes (k + 1) (i + 1) n ds d))

  module _ (vs ls fs : List ℕ) (ps qs : List ℤ) where
    -- so the frequencies of the constituents are those of the records
    recorded-frequencies : (i n many : ℕ) → Recorded i n (constituents_after vs ls fs ps qs i many) → (j : ℕ) → j < n → get_or fs (i + j) 0 ≡ frequency_at (i + j)
    unfolding constituents_after
    recorded-frequencies i zero many r j h = absurd (omega arith)
    recorded-frequencies i (suc n) zero r j h = absurd r
    recorded-frequencies i (suc n) (suc many) r zero h = rw (add-zero i) r.1
    recorded-frequencies i (suc n) (suc many) r (suc j) h = let e : i + suc j ≡ i + 1 + j = omega arith in rw e (recorded-frequencies (i + 1) n many r.2 j (omega arith))

    -- and the constituents are those with the records' own lags and frequencies
    recorded-same : (gs : List ℕ) (i n many : ℕ) → Recorded i n (constituents_after vs ls fs ps qs i many) → ((j : ℕ) → j < n → get_or gs (i + j) 0 ≡ frequency_at (i + j))
        → constituents_after vs ls fs ps qs i many ≡ constituents_after vs lags gs ps qs i n
    unfolding constituents_after
    recorded-same gs i zero zero r are = refl
    recorded-same gs i zero (suc many) r are = absurd r
    recorded-same gs i (suc n) zero r are = absurd r
    recorded-same gs i (suc n) (suc many) r are =
        let same : get_or fs i 0 ≡ get_or gs i 0 = r.1 ∙ sym (rw (add-zero i) at (are 0 (omega arith))) in
        rw (r.0, same) (ap (λ cs. constituent_at vs lags gs ps qs i ∷ cs) (recorded-same gs (i + 1) n many r.2 (λ j h. let e : i + 1 + j ≡ i + suc j = omega arith in rw e (are (suc j) (omega arith)))))

-- ---- over the structs

module _ (t : Table) (s : Station) where
  -- these are the frequencies of the station's records
  abbrev pub AreFrequencies : List ℕ → Type 0
  AreFrequencies fs = (k : ℕ) → k < held_by s → get_or fs k 0 ≡ frequency_at (frequencies_of t.speeds t.frequencies) s.places s.lags k

  module _ (year month : ℕ) (m : Month) (ready : month_of (table_of t) (station_of s) year month ≡ accepted (constituents_of m)) where
    recorded : Recorded (frequencies_of t.speeds t.frequencies) s.places s.lags 0 (held_by s) (constituents_of m)
    unfolding station_of
    recorded = prepared-recorded (frequencies_of t.speeds t.frequencies) s.places s.lags _ _ _ _ s.amplitudes 1 0 (held_by s) (constituents_of m) (rows-are-month t (station_of s) year month ∙ ready)

    pub month-frequencies : AreFrequencies m.frequencies
    month-frequencies k h =
        rw (zero-add k) at (recorded-frequencies (frequencies_of t.speeds t.frequencies) s.places s.lags m.arguments m.lags m.frequencies m.ps m.qs 0 (held_by s) (min m.count most_records) recorded k h)

    pub month-constituents : (fs : List ℕ) → AreFrequencies fs → month_of (table_of t) (station_of s) year month ≡ accepted (constituents_from m.arguments s.lags fs m.ps m.qs (held_by s))
    month-constituents fs are =
        ready ∙ ap accepted (recorded-same (frequencies_of t.speeds t.frequencies) s.places s.lags m.arguments m.lags m.frequencies m.ps m.qs fs 0 (held_by s) (min m.count most_records) recorded (λ j h. rw (zero-add j) (are j h)))

  -- where those of the table are in range, so are they
  pub frequencies-in-range : InRange t.frequencies t.speeds → (fs : List ℕ) → AreFrequencies fs → InRange (held_by s) fs
  frequencies-in-range within fs are k h = rw (are k h) (by (get_or s.places k 0))
    where
      by : (place : ℕ) → get_or (frequencies_of t.speeds t.frequencies) place 0 ≤ most_frequency
      by place = by-case (ltb place t.frequencies) refl
        where
          by-case : (there : Bool) → ltb place t.frequencies ≡ there → get_or (frequencies_of t.speeds t.frequencies) place 0 ≤ most_frequency
          by-case true e = let l = ltb-true place t.frequencies e in rw (← entry_at 0 (λ j. get_or t.speeds j 0) t.frequencies place l) (within place l)
          by-case false e = rw (← past-entries 0 (λ j. get_or t.speeds j 0) t.frequencies place (ltb-false place t.frequencies e)) (omega arith)
