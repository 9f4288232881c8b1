-- 02, No. 4: "these cards, read by that format and 01's number rule, give the station number, dates and centimetre heights written".
-- What is not refused fits, and cards that fit are read back. Assumes nothing.
use mathlib.Core.Path.{◌≡◌, refl}
use Prim.Native.Nat.{ℕ, zero, suc, ◌+◌, ◌≤◌}
use mathlib.Core.Bool.{Bool, true, false, ◌&&◌, ◌||◌, true≢false}
use mathlib.Core.List.{List, [], ◌∷◌}
use lib.Dec.{ltb, leb}
use lib.IntN.{ℤ, pos, negsuc}
use lib.ListN.{length, replicate}
use native.Mathlib.Nat.{suc_inj}
use native.Mathlib.Omega.{arith}
use borrow.Author.Tests.{leb-true, ltb-false, not-false}
use Rattle.calendar.specs.Calendar.{in_range, month_days}
use Rattle.calendar.proofs.Months.{both, month-short, in-range}
use Rattle.heights.specs.Series.{series_from}
use Rattle.refusals.specs.Outcome.{Outcome, accepted, refused, refuse_if, ◌>>◌}
use Rattle.refusals.proofs.Laws.{not-both}
use Rattle.hourly.specs.Card.{Entry, value, gap}
use Rattle.hourly.specs.Format.{A, heights_a_card, narrow}
use Rattle.hourly.specs.Writing.{cards_written}
use Rattle.hourly.specs.Month.{card_on, cards_from, cards_of, most_station_number, outside, any_outside, heights_asked, room_asked, ReadsBack}
use Rattle.hourly.proofs.Formats.{FitsHeight, Fits}
use Rattle.hourly.proofs.Cards.{CardFits, CardsFit, cards-read-back}

-- ---- what is accepted was not refused

not-refused : {X : Type 0} (t : Bool) (number place : ℕ) (next : Outcome X) (x : X) → refuse_if t number place next ≡ accepted x → (t ≡ false) × (next ≡ accepted x)
not-refused true number place next x e = not-both e
not-refused false number place next x e = (refl, e)

first-accepted : {X Y : Type 0} (first : Outcome X) (next : Outcome Y) (y : Y) → (first >> next) ≡ accepted y → (x : X) × (first ≡ accepted x) × (next ≡ accepted y)
first-accepted (accepted x) next y e = (x, refl, e)
first-accepted (refused number place) next y e = not-both e

neither : (a b : Bool) → (a || b) ≡ false → (a ≡ false) × (b ≡ false)
neither false b e = (refl, e)
neither true b e = absurd (true≢false e)

-- ---- what is not outside -999 to 9998 fits a narrow card

height-fits : (e : Entry) → outside e ≡ false → FitsHeight narrow e
height-fits (value (pos n)) h = let l : n ≤ 9_998 = leb-true n 9_998 (not-false (leb n 9_998) h) in (omega arith, omega arith)
height-fits (value (negsuc n)) h = let l : n ≤ 998 = leb-true n 998 (both (leb n 998) true (not-false (leb n 998 && true) h)).0 in (omega arith, omega arith)
height-fits gap h = tt

pub heights-fit : (n : ℕ) (es : List Entry) → length es ≡ n → any_outside es ≡ false → Fits (replicate n (A narrow)) es
unfolding any_outside
heights-fit zero [] e h = tt
heights-fit zero (x ∷ es) e h = absurd (omega arith)
heights-fit (suc n) [] e h = absurd (omega arith)
heights-fit (suc n) (x ∷ es) e h = let p = neither (outside x) (any_outside es) h in (height-fits x p.0, heights-fit n es (suc_inj e) p.1)

module _ (height : ℕ → ℤ) (station year month : ℕ) (range : in_range year month ≡ true) (most : ltb most_station_number station ≡ false) where
  card-fits : (day number : ℕ) → day ≤ 31 → number ≤ 2 → any_outside (card_on height station year month day number).heights ≡ false
      → CardFits narrow (card_on height station year month day number)
  unfolding series_from
  card-fits day number d n h =
      let r = in-range year month range in
      let s : station ≤ 99_999 = ltb-false 99_999 station most in
      record {
        number = omega arith;
        station = omega arith;
        day = omega arith;
        month = omega arith;
        since = r.0.0;
        until = r.0.1;
        heights = heights-fit heights_a_card (card_on height station year month day number).heights refl h;
      }

  cards-fit : (day left place : ℕ) → day + left ≤ 32 → heights_asked place (cards_from height station year month day left) ≡ accepted tt
      → CardsFit narrow (cards_from height station year month day left)
  unfolding cards_from heights_asked
  cards-fit day zero place d h = tt
  cards-fit day (suc left) place d h =
      let one = not-refused _ 33 place _ tt h in
      let two = not-refused _ 33 (place + 1) _ tt one.1 in
      (card-fits day 1 (omega arith) (omega arith) one.0, (card-fits day 2 (omega arith) (omega arith) two.0, cards-fit (day + 1) left (place + 1 + 1) (omega arith) two.1))

-- ---- the month

pub reads-back : ReadsBack
reads-back height station year month places bytes range most taken =
    let cards = cards_of height station year month in
    let asked = first-accepted (heights_asked 1 cards) (room_asked (cards_written narrow cards) places) bytes taken in
    let fits = not-refused (ltb places (length (cards_written narrow cards))) 34 0 (accepted (cards_written narrow cards)) bytes asked.2 in
    let written : cards_written narrow cards ≡ bytes = cc in
    rw (← written)
    (cards-read-back narrow (omega arith) cards (cards-fit height station year month range most 1 (month_days year month) 1 (omega (arith, month-short year month)) asked.1))
