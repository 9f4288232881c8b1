-- What is stored place by place stands there: the records kept are the records of the rows.
-- By induction on how many are stored. Assumes nothing.
use mathlib.Core.Path.{◌≡◌, refl, ap}
use Prim.Native.Nat.{ℕ, zero, suc, ◌+◌, ◌≤◌, ◌<◌, min}
use mathlib.Core.List.{List}
use native.Mathlib.Numerals.{add-one}
use native.Mathlib.Omega.{arith}
use lib.ListN.{get_or, set, replicate}
use lib.IntN.{ℤ}
use Rattle.limits.specs.Limits.{most_records}
use Rattle.station.specs.declared.records.Rows.{Rows}
use Rattle.station.specs.declared.strides.Strides.{Strides}
use Rattle.station.specs.Records.{records_from, records_of}
use Rattle.station.specs.Station.{station_lent}
use Rattle.station.proofs.records.Copies.{stored, stored_at}
use Rattle.station.specs.declared.Station as code
use Rattle.station.specs.inner.Station.{no_station, station_upto, station_of}

-- records whose fields agree are the same records
agreeing : (ps ms fs ps' ms' fs' : List ℕ) (k n : ℕ)
    → ((i : ℕ) → i < k + n → get_or ps i 0 ≡ get_or ps' i 0) → ((i : ℕ) → i < k + n → get_or ms i 0 ≡ get_or ms' i 0) → ((i : ℕ) → i < k + n → get_or fs i 0 ≡ get_or fs' i 0)
    → records_from ps ms fs k n ≡ records_from ps' ms' fs' k n
unfolding records_from
agreeing ps ms fs ps' ms' fs' k zero p a f = refl
agreeing ps ms fs ps' ms' fs' k (suc n) p a f =
    rw (p k (omega arith), a k (omega arith), f k (omega arith), agreeing ps ms fs ps' ms' fs' (k + 1) n (λ i h. p i (omega arith)) (λ i h. a i (omega arith)) (λ i h. f i (omega arith)))

-- ---- the station that is kept

module _ (empty : code.Station) (rows : Rows) where
  places-upto : (n : ℕ) → (station_upto empty rows n).places ≡ stored empty.places (λ k. get_or rows.places k 0) n
  unfolding station_upto stored
  places-upto zero = refl
  places-upto (suc n) = ap (λ (l : List ℕ). set l n (get_or rows.places n 0)) (places-upto n)

  amplitudes-upto : (n : ℕ) → (station_upto empty rows n).amplitudes ≡ stored empty.amplitudes (λ k. get_or rows.amplitudes k 0) n
  unfolding station_upto stored
  amplitudes-upto zero = refl
  amplitudes-upto (suc n) = ap (λ (l : List ℕ). set l n (get_or rows.amplitudes n 0)) (amplitudes-upto n)

  lags-upto : (n : ℕ) → (station_upto empty rows n).lags ≡ stored empty.lags (λ k. get_or rows.phases k 0) n
  unfolding station_upto stored
  lags-upto zero = refl
  lags-upto (suc n) = ap (λ (l : List ℕ). set l n (get_or rows.phases n 0)) (lags-upto n)

  latitude-upto : (n : ℕ) → (station_upto empty rows n).latitude ≡ empty.latitude
  unfolding station_upto
  latitude-upto zero = refl
  latitude-upto (suc n) = latitude-upto n

  strides-upto : (n : ℕ) → (station_upto empty rows n).strides ≡ empty.strides
  unfolding station_upto
  strides-upto zero = refl
  strides-upto (suc n) = strides-upto n

  count-upto : (n : ℕ) → empty.count ≡ 0 → (station_upto empty rows n).count ≡ n
  unfolding station_upto
  count-upto zero e = e
  count-upto (suc n) e = add-one n

-- a station with the first n records of the rows has those records
pub kept-is : (latitude : ℤ) (strides : Strides) (rows : Rows) (n : ℕ) → n ≤ most_records
    → station_of (station_upto (no_station latitude strides) rows n) ≡ station_lent latitude strides (records_of rows n)
unfolding station_of
kept-is latitude strides rows n h =
    let empty = no_station latitude strides in
    let at = stored_at (replicate most_records 0) in
    let fewest : min n most_records ≡ n = omega arith in
    rw (
      latitude-upto empty rows n,
      strides-upto empty rows n,
      count-upto empty rows n refl,
      fewest,
      places-upto empty rows n,
      amplitudes-upto empty rows n,
      lags-upto empty rows n,
      agreeing _ _ _ rows.places rows.amplitudes rows.phases 0 n
          (λ i l. at (λ k. get_or rows.places k 0) n i h (omega arith)) (λ i l. at (λ k. get_or rows.amplitudes k 0) n i h (omega arith)) (λ i l. at (λ k. get_or rows.phases k 0) n i h (omega arith)),
    )
