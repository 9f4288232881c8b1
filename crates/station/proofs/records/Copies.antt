-- What is stored place by place stands there: the rows' records are those lent. By induction on how many are stored. Assumes nothing.
use mathlib.Core.Path.{◌≡◌, refl, sym, ap, ◌∙◌}
use mathlib.Core.Bool.{Bool, true, false}
use mathlib.Core.Logic.{⊎_elim}
use Prim.Native.Nat.{ℕ, zero, suc, ◌+◌, ◌≤◌, ◌<◌, min}
use mathlib.Core.List.{List, [], ◌∷◌, ◌++◌, map}
use native.Mathlib.Nat.{eq-or-lt_of_le}
use native.Mathlib.Numerals.{add-one}
use native.Mathlib.Omega.{arith}
use borrow.Author.Tests.{ltb-true, ltb-false}
use lib.Dec.{ltb}
use lib.ListN.{length, get_or, set, replicate, drop, length-set, length-append, drop_of_length-le, get_or-map, get_or-eq_default}
use lib.Seq.{get_or-set_same, get_or-set_other, get_or-take, length-take-le, ext_get_or, drop-cons}
use Rattle.limits.specs.Limits.{most_records}
use Rattle.station.specs.declared.records.Record.{Record}
use Rattle.station.specs.declared.records.Rows.{Rows}
use Rattle.station.specs.Records.{records_from, records_of}
use Rattle.station.specs.inner.Rows.{no_rows, put_row, filled, rows_of}

-- f 0, f 1 and so on, k of them, stored over the start of a list
unfoldable pub stored : List ℕ → (ℕ → ℕ) → ℕ → List ℕ
stored l f zero = l
stored l f (suc k) = set (stored l f k) k (f k)

pub stored-length : (l : List ℕ) (f : ℕ → ℕ) (k : ℕ) → length (stored l f k) ≡ length l
unfolding stored
stored-length l f zero = refl
stored-length l f (suc k) = length-set (stored l f k) k (f k) ∙ stored-length l f k

pub stored_at : (l : List ℕ) (f : ℕ → ℕ) (n i : ℕ) → n ≤ length l → i < n → get_or (stored l f n) i 0 ≡ f i
unfolding stored
stored_at l f zero i room h = absurd (omega arith)
stored_at l f (suc n) i room h =
    let long : n < length (stored l f n) = omega (arith, stored-length l f n) in
    let below : i ≤ n = omega arith in
    ⊎_elim (λ e. rw e (get_or-set_same (stored l f n) n (f n) 0 long)) (λ l'. get_or-set_other (stored l f n) n i (f n) 0 (λ e. omega arith) ∙ stored_at l f n i (omega arith) l') (eq-or-lt_of_le below)

pub records-length : (ps ms fs : List ℕ) (k n : ℕ) → length (records_from ps ms fs k n) ≡ n
unfolding records_from
records-length ps ms fs k zero = refl
records-length ps ms fs k (suc n) = ap suc (records-length ps ms fs (k + 1) n)

pub stored_past : (l : List ℕ) (f : ℕ → ℕ) (n i : ℕ) → n ≤ i → get_or (stored l f n) i 0 ≡ get_or l i 0
unfolding stored
stored_past l f zero i h = refl
stored_past l f (suc n) i h = get_or-set_other (stored l f n) n i (f n) 0 (λ e. omega arith) ∙ stored_past l f n i (omega arith)

-- ---- the records that are lent

abbrev pub blank : Record
blank = record { place = 0; amplitude = 0; phase = 0 }

-- record k of those lent
abbrev pub lent_at : List Record → ℕ → Record
lent_at rs k = get_or rs k blank

abbrev pub put_lent : Rows → ℕ → Record → Rows
put_lent rows k r = put_row rows k r.place r.amplitude r.phase

-- the first k of the records lent, each in its row
unfoldable pub rows_upto : List Record → ℕ → Rows
rows_upto rs zero = no_rows
rows_upto rs (suc k) = put_lent (rows_upto rs k) k (lent_at rs k)

zeros : (n i : ℕ) → get_or {A = ℕ} (replicate n 0) i 0 ≡ 0
zeros zero i = refl
zeros (suc n) zero = refl
zeros (suc n) (suc i) = zeros n i

-- 0 behind a list is what `get_or` gives there
padded-at : (xs : List ℕ) (n i : ℕ) → get_or (xs ++ replicate n 0) i 0 ≡ get_or xs i 0
padded-at [] n i = zeros n i
padded-at (x ∷ xs) n zero = refl
padded-at (x ∷ xs) n (suc i) = padded-at xs n i

filled_at : (xs : List ℕ) (i : ℕ) → i < most_records → get_or (filled xs) i 0 ≡ get_or xs i 0
filled_at xs i h = get_or-take most_records (xs ++ replicate most_records 0) i 0 h ∙ padded-at xs most_records i

module _ (rs : List Record) where
  field_at : (g : Record → ℕ) → g blank ≡ 0 → (i : ℕ) → i < most_records → get_or (filled (map g rs)) i 0 ≡ g (lent_at rs i)
  field_at g z i h = filled_at (map g rs) i h ∙ (rw z at (get_or-map g rs i blank))

  -- a field of all that are stored
  field_is : (g : Record → ℕ) → g blank ≡ 0 → stored (replicate most_records 0) (λ k. g (lent_at rs k)) (min (length rs) most_records) ≡ filled (map g rs)
  field_is g z =
      ext_get_or 0 _ _ (long ∙ sym (length-take-le most_records (map g rs ++ replicate most_records 0) (omega (arith, length-append (map g rs) (replicate most_records 0)))))
      (λ i l. by i (omega (arith, long)) (ltb i (min (length rs) most_records)) refl ∙ sym (field_at g z i (omega (arith, long))))
    where
      long : length (stored (replicate most_records 0) (λ k. g (lent_at rs k)) (min (length rs) most_records)) ≡ most_records
      long = stored-length (replicate most_records 0) (λ k. g (lent_at rs k)) (min (length rs) most_records)

      by : (i : ℕ) → i < most_records → (t : Bool) → ltb i (min (length rs) most_records) ≡ t → get_or (stored (replicate most_records 0) (λ k. g (lent_at rs k)) (min (length rs) most_records)) i 0 ≡ g (lent_at rs i)
      by i l true e = stored_at (replicate most_records 0) (λ k. g (lent_at rs k)) (min (length rs) most_records) i (omega arith) (ltb-true i (min (length rs) most_records) e)
      by i l false e =
          let past : min (length rs) most_records ≤ i = ltb-false i (min (length rs) most_records) e in
          stored_past (replicate most_records 0) (λ k. g (lent_at rs k)) (min (length rs) most_records) i past ∙ zeros most_records i ∙ sym (ap g (get_or-eq_default rs blank {n = i} (omega arith)) ∙ z)

  row-places : (n : ℕ) → (rows_upto rs n).places ≡ stored (replicate most_records 0) (λ k. (lent_at rs k).place) n
  unfolding rows_upto stored
  row-places zero = refl
  row-places (suc n) = ap (λ (l : List ℕ). set l n (lent_at rs n).place) (row-places n)

  row-amplitudes : (n : ℕ) → (rows_upto rs n).amplitudes ≡ stored (replicate most_records 0) (λ k. (lent_at rs k).amplitude) n
  unfolding rows_upto stored
  row-amplitudes zero = refl
  row-amplitudes (suc n) = ap (λ (l : List ℕ). set l n (lent_at rs n).amplitude) (row-amplitudes n)

  row-phases : (n : ℕ) → (rows_upto rs n).phases ≡ stored (replicate most_records 0) (λ k. (lent_at rs k).phase) n
  unfolding rows_upto stored
  row-phases zero = refl
  row-phases (suc n) = ap (λ (l : List ℕ). set l n (lent_at rs n).phase) (row-phases n)

  -- all that are lent, the first 146, are in their rows
  pub rows_are : rows_upto rs (min (length rs) most_records) ≡ rows_of rs
  unfolding rows_of
  rows_are =
      let n = min (length rs) most_records in
      let p = row-places n ∙ field_is (λ r. r.place) refl in
      let a = row-amplitudes n ∙ field_is (λ r. r.amplitude) refl in
      let f = row-phases n ∙ field_is (λ r. r.phase) refl in
      rw (p, a, f)

-- rows that hold a list's records, from k on
rows_drop : (rs : List Record) (ps ms fs : List ℕ) (k n : ℕ) → k + n ≡ length rs
    → ((i : ℕ) → i < k + n → get_or ps i 0 ≡ (lent_at rs i).place) → ((i : ℕ) → i < k + n → get_or ms i 0 ≡ (lent_at rs i).amplitude) → ((i : ℕ) → i < k + n → get_or fs i 0 ≡ (lent_at rs i).phase)
    → records_from ps ms fs k n ≡ drop k rs
unfolding records_from
rows_drop rs ps ms fs k zero e p a f = sym (drop_of_length-le rs {i = k} (omega arith))
rows_drop rs ps ms fs k (suc n) e p a f =
    let within : k < length rs = omega arith in
    rw (p k (omega arith), a k (omega arith), f k (omega arith), rows_drop rs ps ms fs (k + 1) n (omega arith) (λ i h. p i (omega arith)) (λ i h. a i (omega arith)) (λ i h. f i (omega arith)), drop-cons rs k blank within, add-one k)

-- at most 146 records lent are those of their rows
pub lent_is : (rs : List Record) → length rs ≤ most_records → records_of (rows_of rs) (length rs) ≡ rs
unfolding rows_of
lent_is rs h =
    rows_drop rs _ _ _ 0 (length rs) (omega arith) (λ i l. field_at rs (λ r. r.place) refl i (omega arith)) (λ i l. field_at rs (λ r. r.amplitude) refl i (omega arith)) (λ i l. field_at rs (λ r. r.phase) refl i (omega arith))
