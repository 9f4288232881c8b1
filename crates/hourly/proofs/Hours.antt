-- The cards of a month's hours, lent as a series from 01:00 of the 1st, are the month's cards: a part of a series is a series that starts
-- later, and two cards make a day. Assumes nothing.
use mathlib.Core.Path.{◌≡◌, refl, ap, ◌∙◌}
use Prim.Native.Nat.{ℕ, zero, suc, ◌+◌, ◌-◌, ◌*◌, ◌/◌, ◌%◌, ◌≤◌}
use native.Mathlib.Nat.{add-mul}
use native.Mathlib.Omega.{arith}
use lib.IntN.{ℤ}
use lib.ListN.{take, drop}
use Rattle.calendar.specs.Calendar.{month_days}
use Rattle.heights.specs.Series.{series_from, series_of}
use Rattle.hourly.specs.Month.{first_hour, card_on, cards_from, cards_of}
use Rattle.hourly.specs.inner.Hours.{card_at, cards_after, cards_in}

-- parts of a series
module _ (height : ℕ → ℤ) (start step : ℕ) where
  series-taken : (m n k : ℕ) → m ≤ n → take m (series_from height start step k n) ≡ series_from height start step k m
  unfolding series_from
  series-taken zero n k h = refl
  series-taken (suc m) zero k h = absurd (omega arith)
  series-taken (suc m) (suc n) k h = rw (series-taken m n (k + 1) (omega arith))

  series-dropped : (m n k : ℕ) → m ≤ n → drop m (series_from height start step k n) ≡ series_from height start step (k + m) (n - m)
  unfolding series_from
  series-dropped zero n k h = let e : k + 0 ≡ k = omega arith in let f : n - 0 ≡ n = omega arith in rw (e, f)
  series-dropped (suc m) zero k h = absurd (omega arith)
  series-dropped (suc m) (suc n) k h =
      let e : k + suc m ≡ k + 1 + m = omega arith in
      let f : suc n - suc m ≡ n - m = omega arith in
      rw (e, f) (series-dropped m n (k + 1) (omega arith))

  series-later : (k n j : ℕ) → series_from height start step (k + j) n ≡ series_from height (start + k * step) step j n
  unfolding series_from
  series-later k zero j = refl
  series-later k (suc n) j =
      let e : start + (k + j) * step ≡ start + k * step + j * step = omega (arith, add-mul k j step) in
      let f : k + j + 1 ≡ k + (j + 1) = omega arith in
      rw (e, f, series-later k n (j + 1))

  pub series-part : (k m n : ℕ) → k + m ≤ n → take m (drop k (series_of height start step n)) ≡ series_of height (start + k * step) step m
  series-part k m n h =
      let e : 0 + k ≡ k + 0 = omega arith in
      ap (take m) (series-dropped k n 0 (omega arith)) ∙ (series-taken m (n - k) (0 + k) (omega arith) ∙ rw e (series-later k m 0))

module _ (height : ℕ → ℤ) (station year month hours : ℕ) where
  -- a card, by its day and its number
  card-on : (i day number : ℕ) → 12 * i + 12 ≤ hours → i / 2 + 1 ≡ day → i % 2 + 1 ≡ number → card_at (series_of height 60 60 hours) station year month i ≡ card_on height station year month day number
  card-on i day number there d n =
      let e : 60 + 12 * i * 60 ≡ first_hour day number = omega arith in
      rw (series-part height 60 60 (12 * i) 12 hours there, e, d, n)

  -- two cards a day
  cards-on : (left d : ℕ) → 24 * (d + left) ≤ hours → cards_after (series_of height 60 60 hours) station year month (2 * d) (2 * left) ≡ cards_from height station year month (d + 1) left
  unfolding cards_after cards_from
  cards-on zero d there = refl
  cards-on (suc left) d there =
      let two : 2 * suc left ≡ suc (suc (2 * left)) = omega arith in
      let next : 2 * d + 1 + 1 ≡ 2 * (d + 1) = omega arith in
      let first : card_at (series_of height 60 60 hours) station year month (2 * d) ≡ card_on height station year month (d + 1) 1 = card-on (2 * d) (d + 1) 1 (omega arith) (omega arith) (omega arith) in
      let second : card_at (series_of height 60 60 hours) station year month (2 * d + 1) ≡ card_on height station year month (d + 1) 2 = card-on (2 * d + 1) (d + 1) 2 (omega arith) (omega arith) (omega arith) in
      rw (two, next, first, second, cards-on left (d + 1) (omega arith))

pub cards-in : (height : ℕ → ℤ) (station year month : ℕ) → cards_in (series_of height 60 60 (24 * month_days year month)) station year month ≡ cards_of height station year month
cards-in height station year month = cards-on height station year month (24 * month_days year month) (month_days year month) 0 (omega arith)
