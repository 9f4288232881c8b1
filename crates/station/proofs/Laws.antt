-- Laws of the station's definitions that the loops cite: what one more record adds.
-- Assumes nothing.
use mathlib.Core.Path.{◌≡◌, refl, ap}
use Prim.{Unit}
use Prim.Native.Nat.{ℕ, suc, ◌+◌, ◌-◌, ◌%◌, ◌≤◌, ◌<◌}
use mathlib.Core.List.{List}
use mathlib.Core.Bool.{Bool, true, false}
use native.Mathlib.Nat.{mod-eq_of_lt}
use native.Mathlib.Numerals.{add-one}
use native.Mathlib.Omega.{arith}
use lib.ListN.{get_or}
use lib.Dec.{leb, ltb}
use borrow.Author.Tests.{ltb-false}
use Rattle.limits.specs.Limits.{most_amplitude, most_phase}
use Rattle.refusals.specs.Outcome.{Outcome, accepted, refuse_if, ◌>>◌}
use Rattle.refusals.proofs.Laws.{not-both}
use Rattle.station.specs.declared.records.Record.{Record}
use Rattle.station.specs.declared.records.Rows.{Rows}
use Rattle.station.specs.declared.Station as code
use Rattle.station.specs.Station.{record_outcome, records_outcome}
use Rattle.refusals.specs.Places.{is_among}
use Rattle.station.specs.inner.Station.{places_before, station_upto, put_record}
use Rattle.station.specs.Records.{record_at, records_from}

-- ---- the loop over the records

-- the records from k on are record k and those from k + 1 on
pub records-more : (frequencies : ℕ) (rows : Rows) (k n : ℕ) → k < n
    → records_outcome frequencies (places_before rows.places k) (k + 1) (records_from rows.places rows.amplitudes rows.phases k (n - k))
    ≡ (record_outcome frequencies (places_before rows.places k) (k + 1) (record_at rows k)
    >> records_outcome frequencies (places_before rows.places (k + 1)) (k + 1 + 1) (records_from rows.places rows.amplitudes rows.phases (k + 1) (n - (k + 1))))
unfolding records_outcome records_from places_before
records-more frequencies rows k n h =
    let e : n - k ≡ suc (n - (k + 1)) = omega arith in
    rw (e, add-one k)

pub records-none : (frequencies : ℕ) (rows : Rows) (k n : ℕ) → n ≤ k
    → records_outcome frequencies (places_before rows.places k) (k + 1) (records_from rows.places rows.amplitudes rows.phases k (n - k)) ≡ accepted tt
unfolding records_outcome records_from
records-none frequencies rows k n h = let e : n - k ≡ 0 = omega arith in rw e

-- an accepted record's amplitude and phase lag are in range
pub record-fits : (frequencies : ℕ) (earlier : List ℕ) (k : ℕ) (r : Record) → record_outcome frequencies earlier k r ≡ accepted tt
    → (r.amplitude ≤ most_amplitude) × (r.phase ≤ most_phase)
unfolding record_outcome
record-fits frequencies earlier k r =
    tests (leb frequencies r.place) (is_among r.place earlier) (ltb most_amplitude r.amplitude) (ltb most_phase r.phase) (ltb-false most_amplitude r.amplitude) (ltb-false most_phase r.phase)
  where
    tests : (a b c d : Bool) {P Q : Type 0} → (c ≡ false → P) → (d ≡ false → Q)
        → ◌≡◌ {A = Outcome Unit} (refuse_if a 5 k (refuse_if b 4 k (refuse_if c 3 k (refuse_if d 3 k (accepted tt))))) (accepted tt) → P × Q
    tests true b c d p q e = not-both e
    tests false true c d p q e = not-both e
    tests false false true d p q e = not-both e
    tests false false false true p q e = not-both e
    tests false false false false p q e = (p refl, q refl)

-- the station with one record more
pub upto-more : (empty : code.Station) (rows : Rows) (k : ℕ)
    → station_upto empty rows (k + 1) ≡ put_record (station_upto empty rows k) k (get_or rows.places k 0) (get_or rows.amplitudes k 0) (get_or rows.phases k 0)
unfolding station_upto
upto-more empty rows k = ap (λ (m : ℕ). station_upto empty rows m) (add-one k)

-- what is kept of a number in range is that number
pub narrow-is : (x : ℕ) → x ≤ most_amplitude → x % 65_536 ≡ x
narrow-is x h = mod-eq_of_lt (omega arith)
