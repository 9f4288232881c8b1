-- The heights on a month's cards, one after another, are those of its hours: hour n, from 0, at minute 60 × (n + 1). By going from day to day, and to
-- the card of the day. Assumes nothing.
use Prim.Native.Nat.{ℕ, zero, suc, ◌+◌, ◌-◌, ◌*◌, ◌<◌, ◌≤◌}
use native.Mathlib.Omega.{arith}
use mathlib.Core.List.{List, ◌++◌, map}
use mathlib.Core.Path.{◌≡◌, refl, ap, ◌∙◌}
use lib.IntN.{ℤ}
use lib.ListN.{length, get_or, get_or-append}
use lib.Seq.{get_or-append-add}
use Rattle.calendar.specs.Calendar.{month_days}
use Rattle.heights.specs.Series.{series_from, series_of}
use Rattle.hourly.specs.Card.{Entry, value, gap}
use Rattle.hourly.specs.Format.{heights_a_card}
use Rattle.hourly.specs.Month.{centimetres, first_hour, cards_from, cards_of}
use Rattle.hourly.proofs.Lengths.{below_or_not}
use Rattle.claim.specs.Claim.{heights_on}

-- behind the first n of a list
behind : (xs ys : List Entry) (n i : ℕ) → length xs ≡ n → n ≤ i → get_or (xs ++ ys) i gap ≡ get_or ys (i - n) gap
behind xs ys n i e h = let on : i ≡ length xs + (i - n) = omega arith in ap (λ (j : ℕ). get_or (xs ++ ys) j gap) on ∙ get_or-append-add xs ys (i - n) gap

module _ (height : ℕ → ℤ) where
  -- the entry of a minute, and those of a card from its first hour on
  abbrev entry : ℕ → Entry
  entry minute = value (centimetres (height minute))

  abbrev entries : ℕ → List Entry
  entries start = map (λ (h : ℤ). value (centimetres h)) (series_of height start 60 heights_a_card)

  twelve : (start : ℕ) → length (entries start) ≡ 12
  unfolding series_from
  twelve start = refl

  series-nth : (start step j n i : ℕ) → i < n → get_or (map (λ (h : ℤ). value (centimetres h)) (series_from height start step j n)) i gap ≡ entry (start + (j + i) * step)
  unfolding series_from
  series-nth start step j zero i h = absurd (omega arith)
  series-nth start step j (suc n) zero h = let on : j ≡ j + 0 = omega arith in ap (λ (k : ℕ). entry (start + k * step)) on
  series-nth start step j (suc n) (suc i) h =
      let on : j + 1 + i ≡ j + suc i = omega arith in series-nth start step (j + 1) n i (omega arith) ∙ ap (λ (k : ℕ). entry (start + k * step)) on

  -- .. of a card, at its minute
  card-nth : (start i minute : ℕ) → i < 12 → start + i * 60 ≡ minute → get_or (entries start) i gap ≡ entry minute
  card-nth start i minute h e = let on : start + (0 + i) * 60 ≡ minute = omega (arith, e) in series-nth start 60 0 12 i h ∙ ap entry on

  module _ (station year month : ℕ) where
    from-day : (day left hour : ℕ) → 0 < day → hour < 24 * left → get_or (heights_on (cards_from height station year month day left)) hour gap ≡ entry ((day - 1) * 1_440 + 60 * (hour + 1))
    unfolding cards_from
    from-day day zero hour d h = absurd (omega arith)
    from-day day (suc left) hour d h =
        let one : List Entry = entries (first_hour day 1) in
        let two : List Entry = entries (first_hour day 2) in
        let rest : List Entry = heights_on (cards_from height station year month (day + 1) left) in
        below_or_not hour 12
        (λ before.
        get_or-append one (two ++ rest) gap hour (omega (arith, twelve (first_hour day 1)))
        ∙ card-nth (first_hour day 1) hour ((day - 1) * 1_440 + 60 * (hour + 1)) before (omega arith))
        (λ noon.
        behind one (two ++ rest) 12 hour (twelve (first_hour day 1)) noon
        ∙ below_or_not hour 24
        (λ before.
        get_or-append two rest gap (hour - 12) (omega (arith, twelve (first_hour day 2)))
        ∙ card-nth (first_hour day 2) (hour - 12) ((day - 1) * 1_440 + 60 * (hour + 1)) (omega arith) (omega arith))
        (λ midnight.
        let on : (day + 1 - 1) * 1_440 + 60 * (hour - 12 - 12 + 1) ≡ (day - 1) * 1_440 + 60 * (hour + 1) = omega arith in
        behind two rest 12 (hour - 12) (twelve (first_hour day 2)) (omega arith)
        ∙ from-day (day + 1) left (hour - 12 - 12) (omega arith) (omega arith)
        ∙ ap entry on))

    pub hour-stands : (hour : ℕ) → hour < 24 * month_days year month → get_or (heights_on (cards_of height station year month)) hour gap ≡ value (centimetres (height (60 * (hour + 1))))
    hour-stands hour h = let on : (1 - 1) * 1_440 + 60 * (hour + 1) ≡ 60 * (hour + 1) = omega arith in from-day 1 (month_days year month) hour (omega arith) h ∙ ap entry on
