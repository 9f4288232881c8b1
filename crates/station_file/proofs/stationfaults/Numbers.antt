-- The fault that is said of a refused station falls under the number by which it is refused: by the questions in their order, and record by record.
-- Assumes nothing.
use Prim.{Unit}
use Prim.Native.Nat.{ℕ, ◌+◌, ◌≤◌, ◌<◌}
use mathlib.Core.Path.{◌≡◌, refl, sym, subst}
use mathlib.Core.List.{List, [], ◌∷◌}
use mathlib.Core.Bool.{Bool, true, false, cond}
use native.Mathlib.Omega.{arith}
use lib.Dec.{eqb, leb, ltb}
use lib.ListN.{length, get_or}
use lib.IntN.{pos, neg_ℤ}
use lib.Signed.{lt_z}
use borrow.Author.Tests.{ne_eqb, le-ltb, ltb-false}
use Rattle.limits.specs.Limits.{most_records, most_latitude}
use Rattle.refusals.specs.Outcome.{Outcome, accepted, refused, refuse_if, ◌>>◌}
use Rattle.refusals.specs.Places.{is_among}
use Rattle.refusals.proofs.Laws.{not-both}
use Rattle.card.specs.declared.faults.What.TheVariants.{Amplitude, PhaseLag}
use Rattle.card.specs.declared.faults.Trouble.TheVariants.{OutOfRange}
use Rattle.card.specs.Faults.{only, fault_number}
use Rattle.station.specs.declared.records.Record.{Record}
use Rattle.station.specs.Station.{amplitude_outside, phase_outside, record_outcome, records_outcome, station_outcome}
use Rattle.station_file.specs.Faults.{record_fault, station_fault, FaultsFit}

-- the words of a record's refusal by this number fall under it
abbrev Fits : ℕ → Type 0
Fits number = (amplitude : ℕ) → fault_number (record_fault number amplitude) ≡ number

range-fits : Fits 3
range-fits amplitude = by (amplitude_outside amplitude)
  where
    by : (b : Bool) → fault_number (cond b (only Amplitude OutOfRange) (only PhaseLag OutOfRange)) ≡ 3
    by true = refl
    by false = refl

-- a record is refused at its own number, by 5, 4 or 3
record-number : (frequencies : ℕ) (earlier : List ℕ) (k : ℕ) (r : Record) (number place : ℕ) → record_outcome frequencies earlier k r ≡ refused number place → (k ≡ place) × Fits number
unfolding record_outcome
record-number frequencies earlier k r number place =
    tests (leb frequencies r.place) (is_among r.place earlier) (amplitude_outside r.amplitude) (phase_outside r.phase)
  where
    at : (n : ℕ) → Fits n → ◌≡◌ {A = Outcome Unit} (refused n k) (refused number place) → (k ≡ place) × Fits number
    at n fits e = let p : k ≡ place = cc in let q : n ≡ number = cc in (p, subst Fits q fits)

    tests : (a b c d : Bool) → ◌≡◌ {A = Outcome Unit} (refuse_if a 5 k (refuse_if b 4 k (refuse_if c 3 k (refuse_if d 3 k (accepted tt))))) (refused number place) → (k ≡ place) × Fits number
    tests true b c d e = at 5 (λ a. refl) e
    tests false true c d e = at 4 (λ a. refl) e
    tests false false true d e = at 3 range-fits e
    tests false false false true e = at 3 range-fits e
    tests false false false false e = not-both (sym e)

-- one of the records is
records-number : (frequencies : ℕ) (earlier : List ℕ) (k : ℕ) (rs : List Record) (number place : ℕ) → records_outcome frequencies earlier k rs ≡ refused number place
    → (k ≤ place) × (place < k + length rs) × Fits number
unfolding records_outcome
records-number frequencies earlier k [] number place e = not-both (sym e)
records-number frequencies earlier k (r ∷ rs) number place e =
    by (λ q. records-number frequencies (r.place ∷ earlier) (k + 1) rs number place q) (record_outcome frequencies earlier k r) refl e
  where
    by : (records_outcome frequencies (r.place ∷ earlier) (k + 1) rs ≡ refused number place → (k + 1 ≤ place) × (place < k + 1 + length rs) × Fits number)
        → (o : Outcome Unit) → record_outcome frequencies earlier k r ≡ o → (o >> records_outcome frequencies (r.place ∷ earlier) (k + 1) rs) ≡ refused number place
        → (k ≤ place) × (place < k + length (r ∷ rs)) × Fits number
    by later (accepted u) is q = let l = later q in (omega (arith, l.0), omega (arith, l.1), l.2)
    by later (refused n p) is q =
        let m : n ≡ number = cc in
        let at : p ≡ place = cc in
        let one = record-number frequencies earlier k r n p is in
        (omega (arith, one.0), omega (arith, one.0), subst Fits m one.1)

-- the whole station
pub faults-fit : FaultsFit
unfolding station_outcome station_fault
faults-fit frequencies station rows number place inside =
    rw inside (tests (lt_z station.latitude (neg_ℤ (pos most_latitude))) (lt_z (pos most_latitude) station.latitude) (ltb most_records (length station.records)) refl)
  where
    at : (n p : ℕ) → fault_number (station_fault n p rows) ≡ n → ◌≡◌ {A = Outcome Unit} (refused n p) (refused number place) → fault_number (station_fault number place rows) ≡ number
    at n p fits e =
        let q : n ≡ number = cc in
        let s : p ≡ place = cc in
        rw (← q, ← s) fits

    tests : (a b c : Bool) → ltb most_records (length station.records) ≡ c
        → refuse_if a 3 0 (refuse_if b 3 0 (refuse_if c 6 (most_records + 1) (records_outcome frequencies [] 1 station.records))) ≡ refused number place → fault_number (station_fault number place rows) ≡ number
    tests true b c h e = at 3 0 refl e
    tests false true c h e = at 3 0 refl e
    tests false false true h e = at 6 (most_records + 1) refl e
    tests false false false h e =
        let l = records-number frequencies [] 1 station.records number place e in
        let some : eqb place 0 ≡ false = ne_eqb place 0 (λ z. omega (arith, l.0)) in
        let few : ltb most_records place ≡ false = le-ltb most_records place (omega (arith, l.1, ltb-false most_records (length station.records) h)) in
        rw (some, few) (l.2 (get_or rows.amplitudes _ 0))
