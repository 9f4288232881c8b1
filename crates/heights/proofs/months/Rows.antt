-- A month's row of the arrays, and the height at a minute with the weights of the month that owns it: that month's own. By the owner's law.
use Prim.Native.Nat.{ℕ, ◌+◌, ◌-◌, ◌*◌, ◌≤◌, ◌<◌}
use native.Mathlib.Omega.{arith}
use mathlib.Core.Path.{◌≡◌, sym, ap, ◌∙◌}
use mathlib.Core.List.{List}
use lib.IntN.{ℤ, pos}
use lib.ListN.{length, get_or, take, drop, length-drop}
use lib.Seq.{length-take-le}
use borrow.Rule.Slice.PartMut.{mid_of, put_mid, mid_len}
use Rattle.limits.specs.Limits.{most_records}
use Rattle.month_prepared.specs.Months.{Owned}
use Rattle.month_prepared.specs.declared.months.Months.{Months}
use Rattle.month_prepared.specs.declared.months.InMonth.{InMonth}
use Rattle.month_prepared.specs.inner.View.{constituents_from}
use Rattle.month_prepared.specs.inner.Rows.{IsRow, HasRows, OwnerPost, row_at, month_at, months_in}
use Rattle.month_prepared.proofs.Owners.{owner-further}
use Rattle.heights.specs.Height.{height_at, height_over}
use Rattle.heights.specs.Series.{series_of}
use Rattle.heights.specs.inner.Places.{IsOwn, PlacesPost}
use Rattle.heights.proofs.series.Written.{series-height, series-length}
use Rattle.heights.proofs.months.Joined.{Joining, joining-more}

-- the part that is lent is the row
abbrev pub lent : {A : Type 0} → ℕ → List A → List A
lent m xs = take (m * most_records + most_records - m * most_records) (drop (m * most_records) xs)

pub lent_row : {A : Type 0} (m : ℕ) (xs : List A) → lent m xs ≡ row_at m xs
lent_row {A} m xs = let e : m * most_records + most_records - m * most_records ≡ most_records = omega arith in ap (λ (k : ℕ). take k (drop (m * most_records) xs)) e

row-length : {A : Type 0} (m many : ℕ) (xs : List A) → m < many → many * most_records ≤ length xs → length (lent m xs) ≡ most_records
row-length {A} m many xs h l = ap length (lent_row m xs) ∙ length-take-le most_records (drop (m * most_records) xs) (omega (arith, length-drop (m * most_records) xs))

pub is_row : {months : Months} {vs : List ℕ} {ps qs : List ℤ} → HasRows months vs ps qs → (m : ℕ) → m < months.many → IsRow (lent m vs) (lent m ps) (lent m qs)
is_row {months} {vs} {ps} {qs} rows m h =
    record {
      arguments = row-length m months.many vs h rows.arguments;
      cosines = row-length m months.many ps h rows.cosines;
      sines = row-length m months.many qs h rows.sines;
    }

-- so the month's constituents are those of the lent rows
pub lent-month : (m : ℕ) (arguments lags frequencies : List ℕ) (ps qs : List ℤ) (months : Months)
    → constituents_from (lent m arguments) lags frequencies (lent m ps) (lent m qs) months.count ≡ (month_at arguments lags frequencies ps qs months m).constituents
lent-month m arguments lags frequencies ps qs months = rw (lent_row m arguments, lent_row m ps, lent_row m qs)

pub is-own : {months : Months} {minute : ℕ} {own : InMonth} → OwnerPost months minute own → IsOwn months own
is-own o = record { there = o.there; within = o.within; before = o.before }

module _ (arguments lags frequencies : List ℕ) (ps qs : List ℤ) (months : Months) where
  -- a month's height at its own minute is that of the minute
  pub own-height : (minute : ℕ) (own : InMonth) → OwnerPost months minute own
      → height_at (month_at arguments lags frequencies ps qs months own.month).constituents own.minute ≡ height_over (months_in arguments lags frequencies ps qs months) minute
  own-height minute own o = sym (ap (λ (w : Owned). height_at w.month.constituents w.minute) (o.owns arguments lags frequencies ps qs))

  -- a month's places have the heights of the series over all months
  part-heights : (start step n left k : ℕ) (own : InMonth) → OwnerPost months (start + n * step) own → PlacesPost months own step left k
      → (i : ℕ) → i < k → get_or (series_of (height_at (month_at arguments lags frequencies ps qs months own.month).constituents) own.minute step k) i (pos 0)
      ≡ height_over (months_in arguments lags frequencies ps qs months) (start + (n + i) * step)
  part-heights start step n left k own o places i h =
      let e : start + n * step + i * step ≡ start + (n + i) * step = omega arith in
      series-height (height_at (month_at arguments lags frequencies ps qs months own.month).constituents) own.minute step k i h
      ∙ (sym (ap (λ (w : Owned). height_at w.month.constituents w.minute) (owner-further arguments lags frequencies ps qs months (start + n * step) (i * step) own o (places.before i h)))
      ∙ ap (λ (minute : ℕ). height_over (months_in arguments lags frequencies ps qs months) minute) e)

  -- so they may be written by its own series
  pub month-joined : (start step n left k : ℕ) {out₀ out : List ℤ} (own : InMonth) → OwnerPost months (start + n * step) own → PlacesPost months own step left k
      → n + k ≤ length out₀ → Joining (height_over (months_in arguments lags frequencies ps qs months)) start step out₀ out n
      → (part : List ℤ) → part ≡ series_of (height_at (month_at arguments lags frequencies ps qs months own.month).constituents) own.minute step (length (mid_of n (n + k - n) out))
      → length (put_mid n (n + k - n) out part) ≡ length out
      → Joining (height_over (months_in arguments lags frequencies ps qs months)) start step out₀ (put_mid n (n + k - n) out part) (n + k)
  month-joined start step n left k {out₀} {out} own o places room j part is long =
      let height = height_at (month_at arguments lags frequencies ps qs months own.month).constituents in
      let size : length (mid_of n (n + k - n) out) ≡ k = omega (arith, mid_len n (n + k) out (omega (arith, j.long))) in
      let here : part ≡ series_of height own.minute step k = rw size at is in
      joining-more (height_over (months_in arguments lags frequencies ps qs months)) start step j part k room
      (ap length here ∙ series-length height own.minute step 0 k)
      long
      (λ i h. ap (λ (xs : List ℤ). get_or xs i (pos 0)) here ∙ part-heights start step n left k own o places i h)
