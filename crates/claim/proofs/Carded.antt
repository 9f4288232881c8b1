-- What the claim says of hourly cards (specs/Claim.antt). Their bytes are read back (`ReadBack` in hourly); the height of an hour is the one that a single
-- request gives, and its centimetres are the nearest (`Nearest` in hourly). By the cases of what is asked first. Assumes nothing.
use Prim.{Unit}
use Prim.Native.Nat.{ℕ, ◌+◌, ◌*◌, ◌<◌, ◌≤◌}
use native.Mathlib.Omega.{arith}
use mathlib.Core.Bool.{Bool, true, false}
use mathlib.Core.List.{List, ◌++◌}
use mathlib.Core.Path.{◌≡◌, refl, sym, ap, ◌∙◌}
use borrow.Author.Tests.{le-ltb}
use lib.Dec.{ltb}
use lib.IntN.{ℤ}
use lib.ListN.{length, take, drop}
use lib.Seq.{take_at, drop_at}
use Rattle.refusals.specs.Outcome.{Outcome, accepted, refused, refuse_if, ◌>>◌, ◌>>=◌}
use Rattle.refusals.proofs.Laws.{not-both}
use Rattle.table.specs.Table.{Table}
use Rattle.station.specs.Station.{Station}
use Rattle.calendar.specs.Calendar.{month_days}
use Rattle.heights.specs.Height.{height_at}
use Rattle.hourly.specs.Card.{HourlyCard}
use Rattle.hourly.specs.Format.{narrow}
use Rattle.hourly.specs.Writing.{cards_written}
use Rattle.hourly.specs.Reading.{cards_read}
use Rattle.hourly.specs.Month.{centimetres, most_station_number, heights_asked, bytes_of, CardsGiven, into_buffer}
use Rattle.hourly.proofs.ReadBack.{reads-back}
use Rattle.hourly.proofs.Nearest.{near-centimetre}
use Rattle.calls.specs.State.{Maybe, none, some, Dated, State}
use Rattle.calls.specs.Calls.{height_returns}
use Rattle.calls.specs.Hourly.{month_cards, hourly_bytes, hourly_gives}
use Rattle.claim.specs.Document.{Height, predicted, carded, Last, nothing, worked_out, gives, last_after}
use Rattle.claim.specs.Claim.{OnCards, OfHourly}
use Rattle.claim.proofs.Dates.{last-in-range, last-whole}
use Rattle.claim.proofs.Hours.{hour-stands}
use Rattle.claim.proofs.AtEachHeight.{last-exactly, single-near}

-- ---- what was asked first has passed

abbrev height : Dated → ℕ → ℤ
height month = height_at month.prepared.constituents

-- a month is there, its cards' bytes are those, and it gives single heights
record Passed (k : State) (number places : ℕ) (bytes : List ℕ) : Type 0 where
  month : Dated
  there : k.month ≡ some month
  within : ltb most_station_number number ≡ false
  given : bytes_of (month_cards month number) places ≡ accepted bytes
  single : (minute : ℕ) → minute ≤ month.prepared.last → height_returns k minute ≡ accepted (height month minute)

module _ (number places : ℕ) (bytes : List ℕ) where
  passed : (t : Maybe Table) (s : Maybe Station) (m : Maybe Dated) → hourly_bytes (record { table = t; station = s; month = m }) number places ≡ accepted bytes
      → Passed (record { table = t; station = s; month = m }) number places bytes
  unfolding hourly_bytes height_returns
  passed none s m e = not-both e
  passed (some t) none m e = not-both e
  passed (some t) (some s) none e = not-both e
  passed (some t) (some s) (some m) e = by (ltb most_station_number number) refl e
    where
      by : (over : Bool) → ltb most_station_number number ≡ over
          → (refuse_if {A = Table × Station × Dated} over 32 0 (accepted (t, s, m)) >>= λ (t, s, m). bytes_of (month_cards m number) places) ≡ accepted bytes
          → Passed (record { table = some t; station = some s; month = some m }) number places bytes
      by true o e' = not-both e'
      by false o e' = record { month = m; there = refl; within = o; given = e'; single = λ minute h. rw (le-ltb m.prepared.last minute h) }

-- ---- what was written

-- where cards are accepted, the bytes are theirs, and stand in front of the others
bytes-are : (cards : List HourlyCard) (places : ℕ) (bytes : List ℕ) → bytes_of cards places ≡ accepted bytes → cards_written narrow cards ≡ bytes
bytes-are cards places bytes e = by (heights_asked 1 cards) (ltb places (length (cards_written narrow cards))) e
  where
    by : (asked : Outcome Unit) (short : Bool) → (asked >> refuse_if short 34 0 (accepted (cards_written narrow cards))) ≡ accepted bytes → cards_written narrow cards ≡ bytes
    by (accepted u) true e' = not-both e'
    by (accepted u) false e' = cc
    by (refused number place) short e' = not-both e'

in-front : (o : Outcome (List ℕ)) (buffer left : List ℕ) (n : ℕ) → record { returned = accepted n; buffer = left } ≡ into_buffer o buffer
    → (bytes : List ℕ) × (o ≡ accepted bytes) × (length bytes ≡ n) × (left ≡ bytes ++ drop (length bytes) buffer)
in-front (accepted bytes) buffer left n e =
    let r : accepted n ≡ accepted (length bytes) = ap (λ (g : CardsGiven). g.returned) e in
    let count : length bytes ≡ n = cc in
    (bytes, refl, count, ap (λ (g : CardsGiven). g.buffer) e)
in-front (refused number place) buffer left n e = not-both (ap (λ (g : CardsGiven). g.returned) (sym e))

as-carded : {c d : CardsGiven} → carded c ≡ carded d → c ≡ d
as-carded e = cc

-- ---- an hour, and the cards

on-cards : (l : Last) (number places : ℕ) (bytes : List ℕ) (p : Passed (worked_out l) number places bytes) (hour : ℕ) → hour < 24 * month_days p.month.year p.month.month
    → OnCards l (month_cards p.month number) hour
unfolding gives
on-cards l number places bytes p hour h =
    let month : Dated = p.month in
    let minute : ℕ = 60 * (hour + 1) in
    let single : predicted (accepted (height month minute)) ≡ gives l (Height minute) = ap predicted (sym (p.single minute (omega (arith, last-whole l month p.there)))) in
    record {
      height = height month minute;
      single = single;
      near = single-near l minute (height month minute) single;
      centimetres = centimetres (height month minute);
      stands = hour-stands (height month) number month.year month.month hour h;
      nearest = near-centimetre (height month minute);
    }

pub of-hourly : OfHourly
unfolding gives hourly_gives
of-hourly qs gs number n buffer left claim =
    let l : Last = last_after nothing qs in
    let k : State = worked_out l in
    let g = in-front (hourly_bytes k number (length buffer)) buffer left n (as-carded (last-exactly qs gs _ _ claim.exactly)) in
    let bytes : List ℕ = g.0 in
    let p : Passed k number (length buffer) bytes = passed number (length buffer) bytes k.table k.station k.month g.1 in
    let month : Dated = p.month in
    let written : cards_written narrow (month_cards month number) ≡ bytes = bytes-are (month_cards month number) (length buffer) bytes p.given in
    let front : take n left ≡ bytes = ap (take n) g.3 ∙ take_at bytes (drop (length bytes) buffer) n g.2 in
    record {
      month = month;
      prepared = p.there;
      count = sym g.2 ∙ ap length (sym written);
      written = front ∙ sym written;
      beyond = ap (drop n) g.3 ∙ drop_at bytes (drop (length bytes) buffer) n g.2 ∙ ap (λ (m : ℕ). drop m buffer) g.2;
      read = ap (cards_read narrow) front ∙ reads-back (height month) number month.year month.month (length buffer) bytes (last-in-range l month p.there) p.within p.given;
      hours = on-cards l number (length buffer) bytes p;
    }
