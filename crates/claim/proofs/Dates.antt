-- The date of a month that is worked out from what was last accepted is in range (`Dates` in calls), and the month ends with its last day. By the cases
-- of what its date gives. Assumes nothing.
use mathlib.Core.Bool.{Bool, true, false, not}
use mathlib.Core.List.{List}
use mathlib.Core.Path.{◌≡◌, refl, sym, ap, subst, ◌∙◌}
use Prim.Native.Nat.{ℕ, ◌*◌}
use native.Mathlib.Omega.{arith}
use Rattle.refusals.specs.Outcome.{Outcome, accepted, refused, refuse_if, on_accepted, ◌>>=◌}
use Rattle.refusals.proofs.Laws.{not-both}
use Rattle.calendar.specs.Calendar.{in_range, month_days, month_minutes}
use Rattle.table.specs.Table.{Table}
use Rattle.station.specs.Station.{Station}
use Rattle.month_prepared.specs.Prepared.{Constituent}
use Rattle.month.specs.Month.{month_of}
use Rattle.calls.specs.State.{Maybe, none, some, Dated}
use Rattle.calls.specs.Calls.{date_gives}
use Rattle.calls.proofs.Dates.{date-given}
use Rattle.claim.specs.Document.{Day, Last, table_of_cards, month_on, worked_out}

-- what is not there is nothing that is
not_there : {A B : Type 0} {a : A} → none ≡ some a → B
not_there e = let z : ◌≡◌ {A = ℕ} 0 1 = cc in absurd (omega arith)

-- ---- what holds of all that a date gives

module _ (P : Dated → Type 0) (t : Maybe Table) (s : Maybe Station) (holds : (year month : ℕ) (dated : Dated) → date_gives t s year month ≡ accepted dated → P dated) (dated : Dated) where
  of-given : (day : Day) (o : Outcome Dated) → date_gives t s day.year day.month ≡ o → on_accepted o (λ month. some month) none ≡ some dated → P dated
  of-given day (accepted given) g e = let same : given ≡ dated = cc in holds day.year day.month dated (g ∙ ap accepted same)
  of-given day (refused number place) g e = not_there e

  of-last : (d : Maybe Day) → month_on t s d ≡ some dated → P dated
  of-last none e = not_there e
  of-last (some day) e = of-given day (date_gives t s day.year day.month) refl e

-- ---- its date, and its last minute

pub last-in-range : (l : Last) (dated : Dated) → (worked_out l).month ≡ some dated → in_range dated.year dated.month ≡ true
unfolding worked_out
last-in-range l dated =
    of-last (λ d. in_range d.year d.month ≡ true) (table_of_cards l.cards) l.station
    (λ year month d e. let law = date-given (table_of_cards l.cards) l.station year month d e in rw (law.0, law.1) law.2) dated l.date

abbrev Whole : Dated → Type 0
Whole d = d.prepared.last ≡ month_days d.year d.month * 1_440

-- the month that is prepared for a date
abbrev prepared_for : ℕ → ℕ → List Constituent → Dated
prepared_for year month cs = record { year = year; month = month; prepared = record { last = month_days year month * 1_440; constituents = cs } }

given-whole : (t : Maybe Table) (s : Maybe Station) (year month : ℕ) (dated : Dated) → date_gives t s year month ≡ accepted dated → Whole dated
unfolding date_gives month_minutes
given-whole none s year month dated e = not-both e
given-whole (some t) none year month dated e = not-both e
given-whole (some t) (some s) year month dated e = by (not (in_range year month)) e
  where
    of : (o : Outcome (List Constituent)) → (o >>= λ cs. accepted (prepared_for year month cs)) ≡ accepted dated → Whole dated
    of (accepted cs) e' = let d : prepared_for year month cs ≡ dated = cc in subst Whole d refl
    of (refused number place) e' = not-both e'

    by : (out : Bool) → (refuse_if {A = Table × Station} out 8 0 (accepted (t, s)) >>= λ (t, s). month_of t s year month >>= λ cs. accepted (prepared_for year month cs)) ≡ accepted dated → Whole dated
    by true e' = not-both e'
    by false e' = of (month_of t s year month) e'

pub last-whole : (l : Last) (dated : Dated) → (worked_out l).month ≡ some dated → dated.prepared.last ≡ month_days dated.year dated.month * 1_440
unfolding worked_out
last-whole l dated = of-last Whole (table_of_cards l.cards) l.station (given-whole (table_of_cards l.cards) l.station) dated l.date
