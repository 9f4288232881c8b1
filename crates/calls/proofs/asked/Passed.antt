-- What an accepted call has passed. By the cases of an outcome. Assumes nothing.
use mathlib.Core.Path.{◌≡◌, refl}
use Prim.Native.Nat.{ℕ, ◌≤◌}
use mathlib.Core.Bool.{Bool, true, false, ◌||◌, true≢false}
use lib.Dec.{ltb}
use borrow.Author.Tests.{ltb-false}
use Rattle.limits.specs.Limits.{most_step}
use Rattle.calendar.specs.Calendar.{year_minutes}
use Rattle.heights.specs.inner.Places.{SeriesWithin}
use Rattle.refusals.specs.Outcome.{accepted}
use Rattle.refusals.proofs.Laws.{not-both}
use Rattle.calls.specs.Asked.{minute_outside, series_outside, turns_outside, step_outside, last_minute}
use Rattle.calls.specs.Year.{sheet_outside}
use Rattle.calls.specs.declared.annual.Sheet.{Sheet}
use Rattle.calls.specs.inner.Flags.{minutes_by}

-- a table is there, and the minutes are not outside
passed : (t s d outside : Bool) → minutes_by t s d outside ≡ accepted tt → (t ≡ true) × (outside ≡ false)
passed true true true true e = not-both e
passed true true true false e = (refl, refl)
passed true true false outside e = not-both e
passed true false d outside e = not-both e
passed false s d outside e = not-both e

first-false : (a b : Bool) → a || b ≡ false → a ≡ false
first-false true b e = e
first-false false b e = refl

second-false : (a b : Bool) → a || b ≡ false → b ≡ false
second-false true b e = let z : ◌≡◌ {A = Bool} true false = e in absurd (true≢false z)
second-false false b e = e

-- minutes that are not outside
series-inside : (last start step places : ℕ) → series_outside last start step places ≡ false → SeriesWithin last start step places
series-inside last start step places e =
    let both = first-false (ltb last start || step_outside step) (ltb last (last_minute start step places)) e in
    let steps = second-false (ltb last start) (step_outside step) both in
    record {
      some = ltb-false step 1 (first-false (ltb step 1) (ltb most_step step) steps);
      short = ltb-false most_step step (second-false (ltb step 1) (ltb most_step step) steps);
      starts = ltb-false last start (first-false (ltb last start) (step_outside step) both);
      ends = ltb-false last (last_minute start step places) (second-false (ltb last start || step_outside step) (ltb last (last_minute start step places)) e);
    }

turns-inside : (end first last : ℕ) → turns_outside end first last ≡ false → (last ≤ end) × (first ≤ last)
turns-inside end first last e =
    (ltb-false end last (first-false (ltb end last) (ltb last first) e), ltb-false last first (second-false (ltb end last) (ltb last first) e))

pub height-within : (t s d : Bool) (last minute : ℕ) → minutes_by t s d (minute_outside last minute) ≡ accepted tt → (t ≡ true) × (minute ≤ last)
height-within t s d last minute e = let p = passed t s d (ltb last minute) e in (p.0, ltb-false last minute p.1)

pub series-within : (t s d : Bool) (last start step places : ℕ) → minutes_by t s d (series_outside last start step places) ≡ accepted tt → (t ≡ true) × SeriesWithin last start step places
series-within t s d last start step places e =
    let p = passed t s d (series_outside last start step places) e in (p.0, series-inside last start step places p.1)

pub turns-within : (t s d : Bool) (end first last : ℕ) → minutes_by t s d (turns_outside end first last) ≡ accepted tt → (t ≡ true) × (last ≤ end) × (first ≤ last)
turns-within t s d end first last e =
    let p = passed t s d (turns_outside end first last) e in let w = turns-inside end first last p.1 in (p.0, w.0, w.1)

-- a year's sheet that is not outside: its series and its search are within the year
pub sheet-within : (sheet : Sheet) (places : ℕ) → sheet_outside sheet places ≡ false
    → SeriesWithin (year_minutes sheet.year) sheet.start sheet.step places × (sheet.last ≤ year_minutes sheet.year) × (sheet.first ≤ sheet.last)
sheet-within sheet places e =
    let end = year_minutes sheet.year in
    let series = series_outside end sheet.start sheet.step places in
    let search = turns_outside end sheet.first sheet.last in
    let w = turns-inside end sheet.first sheet.last (second-false series search e) in
    (series-inside end sheet.start sheet.step places (first-false series search e), w.0, w.1)
