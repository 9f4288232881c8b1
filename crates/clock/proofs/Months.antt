-- A prepared month's two cases, ready and refused by 11, and a date's, from what the preparation promises. Assumes nothing.
use mathlib.Core.Path.{◌≡◌, refl, sym, ap, ◌∙◌}
use Prim.Native.Nat.{ℕ, zero, suc, ◌+◌, ◌<◌, min}
use mathlib.Core.List.{List}
use native.Mathlib.Omega.{arith}
use native.Mathlib.Nat.{zero-add, add-zero}
use lib.ListN.{get_or}
use lib.IntN.{ℤ, pos}
use Rattle.limits.specs.Limits.{most_records}
use Rattle.refusals.specs.Outcome.{accepted, refused, outcome_of, number_of}
use Prim.{Unit}
use Rattle.std.specs.Prelude.{Result, Ok, Err}
use Rattle.refusals.specs.declared.Refused.{Refused}
use Rattle.table.specs.inner.View.{table_of}
use Rattle.station.specs.inner.Station.{station_of}
use Rattle.month_prepared.specs.Prepared.{Constituent}
use Rattle.month_prepared.specs.declared.Month.{Month}
use Rattle.month_prepared.specs.inner.View.{constituents_after, constituents_of}
use Rattle.calendar.specs.Calendar.{month_minutes}
use Rattle.calendar.proofs.Months.{minutes-short}
use Rattle.month.specs.Month.{month_of}
use Rattle.month.proofs.Ranges.{prepared-in-range}
use Rattle.clock.specs.declared.Clock.{Clock}
use Rattle.calls.specs.inner.Flags.{date_by}
use Rattle.calls.proofs.Dates.{date-refused, date-prepared}
use Rattle.clock.specs.View.{view, month_in, Sound, Made}
use Rattle.clock.specs.Posts.{DatePost}
use Rattle.clock.specs.inner.Posts.{PreparedPost}
use Rattle.clock.specs.inner.Parts.{with_month}
use Rattle.clock.proofs.Tables.{frequencies-within}

-- a constituent's frequency is that of its place
frequency-at : (vs ls fs : List ℕ) (ps qs : List ℤ) (k n i : ℕ) (none : Constituent) → i < n
    → (get_or (constituents_after vs ls fs ps qs k n) i none).frequency ≡ get_or fs (k + i) 0
unfolding constituents_after
frequency-at vs ls fs ps qs k zero i none h = absurd (omega arith)
frequency-at vs ls fs ps qs k (suc n) zero none h = ap (λ (j : ℕ). get_or fs j 0) (sym (add-zero k))
frequency-at vs ls fs ps qs k (suc n) (suc i) none h =
    frequency-at vs ls fs ps qs (k + 1) n i none (omega arith) ∙ ap (λ (j : ℕ). get_or fs j 0) (let e : k + 1 + i ≡ k + suc i = omega arith in e)

module _ (c : Clock) (year month : ℕ) (sound : Sound c) where
  pub month-ready : (m : Month) → accepted (constituents_of m) ≡ month_of (table_of c.table) (station_of c.station) year month
      → PreparedPost c year month (Ok tt) (with_month c year month (month_minutes year month) m)
  unfolding view
  month-ready m prepares =
      let ready : month_of (table_of c.table) (station_of c.station) year month ≡ accepted (constituents_of m) = sym prepares in
      let none : Constituent = record { argument = 0; lag = 0; frequency = 0; p = pos 0; q = pos 0 } in
      record {
        sound = record {
          cosines = sound.cosines;
          table = sound.table;
          count = omega arith;
          last = minutes-short year month;
          month = λ k h. rw (frequency-at m.arguments m.lags m.frequencies m.ps m.qs 0 (min m.count most_records) k none h, zero-add k) at (prepared-in-range _ _ year month _ none refl (frequencies-within c.table sound.table) ready k);
          strides = sound.strides;
        };
        returns = rw ready;
        leaves = rw ready;
      }

  pub month-refused : (e : Refused) (answer : Result (Unit {0}) Refused) → refused (number_of e.refusal) e.place ≡ month_of (table_of c.table) (station_of c.station) year month
      → outcome_of answer ≡ refused (number_of e.refusal) e.place → PreparedPost c year month answer c
  month-refused e answer prepares says = record { sound = sound; returns = rw (← prepares) says; leaves = rw (← prepares) }

-- a date that passes returns and leaves what its month says
pub date-post : (c : Clock) (year month : ℕ) → date_by c.tabled c.stationed year month ≡ accepted tt
    → (answer : Result (Unit {0}) Refused) (left : Clock) → PreparedPost c year month answer left → DatePost c year month (outcome_of answer) left
unfolding view
date-post c year month e answer left p =
    let law = date-prepared (table_of c.table) (station_of c.station) c.dated (month_in c) year month c.tabled c.stationed e in
    record { made = λ _. p.sound; returns = p.returns ∙ law.0; leaves = p.leaves ∙ law.1 }

pub date-post-refused : (c : Clock) (year month : ℕ) → Made c → (number place : ℕ) → refused number place ≡ date_by c.tabled c.stationed year month
    → DatePost c year month (refused number place) c
unfolding view
date-post-refused c year month made number place says =
    let law = date-refused (table_of c.table) (station_of c.station) c.dated (month_in c) year month c.tabled c.stationed number place (sym says) in
    record { made = made; returns = law.0; leaves = law.1 }
