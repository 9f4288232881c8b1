-- A list of bookings, by what is asked first: a refusal, or the heights. By the cases of the state's flags. Assumes nothing.
use Prim.{Unit}
use Prim.Native.Nat.{ℕ}
use mathlib.Core.Bool.{Bool, true, false, not}
use mathlib.Core.Path.{◌≡◌, refl, sym, ap}
use mathlib.Core.List.{List, map}
use lib.Dec.{eqb}
use borrow.Author.Tests.{eqb-true, not-false}
use lib.IntN.{ℤ}
use lib.ListN.{length}
use Rattle.refusals.specs.Outcome.{Outcome, accepted, refused, refuse_if, answered, ◌>>◌, ◌>>=◌}
use Rattle.refusals.proofs.Laws.{not-both}
use Rattle.table.specs.Table.{Table}
use Rattle.station.specs.Station.{Station}
use Rattle.heights.specs.Height.{height_at}
use Rattle.heights.specs.inner.Places.{AllWithin}
use Rattle.calls.specs.State.{Dated}
use Rattle.calls.specs.Bookings.{minutes_from, bookings_heights, bookings_gives}
use Rattle.calls.specs.inner.Flags.{state_of, bookings_by}
use Rattle.calls.proofs.bookings.Minutes.{minutes-within}

-- what is asked of units is asked of anything: the same refusal, or what follows
of-any : {A : Type 0} (differ : Bool) (asked : Outcome Unit) (a : A) (next : A → Outcome (List ℤ)) (o : Outcome Unit)
    → answered (refuse_if {A = Unit {0} × Unit {0} × Unit {0}} differ 31 0 (asked >> accepted (tt, tt, tt))) ≡ o
    → (refuse_if differ 31 0 (asked >> accepted a) >>= next) ≡ (o >> next a)
of-any true asked a next o e = ap (λ (x : Outcome Unit). x >> next a) e
of-any false (accepted tt) a next o e = ap (λ (x : Outcome Unit). x >> next a) e
of-any false (refused number place) a next o e = ap (λ (x : Outcome Unit). x >> next a) e

module _ (table : Table) (station : Station) (month : Dated) (minutes : List ℕ) where
  abbrev new : List ℤ
  new = map (height_at month.prepared.constituents) minutes

  heights-by : (t s d : Bool) (places : ℕ) (o : Outcome Unit) → bookings_by t s d month.prepared.last minutes places ≡ o
      → bookings_heights (state_of t table s station d month) minutes places ≡ (o >> accepted new)
  unfolding bookings_heights
  heights-by true true true places o e = of-any (not (eqb (length minutes) places)) (minutes_from month.prepared.last 1 minutes) (table, station, month) (λ x. accepted (map (height_at x.2.prepared.constituents) minutes)) o e
  heights-by true true false places o e = ap (λ (x : Outcome Unit). x >> accepted new) e
  heights-by true false d places o e = ap (λ (x : Outcome Unit). x >> accepted new) e
  heights-by false s d places o e = ap (λ (x : Outcome Unit). x >> accepted new) e

  module _ (t s d : Bool) (heights : List ℤ) where
    pub bookings-refused : (number place : ℕ) → bookings_by t s d month.prepared.last minutes (length heights) ≡ refused number place
        → record { returned = refused number place; heights = heights } ≡ bookings_gives (state_of t table s station d month) minutes heights
    unfolding bookings_gives
    bookings-refused number place e = rw (heights-by t s d (length heights) (refused number place) e)

    pub bookings-given : bookings_by t s d month.prepared.last minutes (length heights) ≡ accepted tt
        → record { returned = accepted tt; heights = new } ≡ bookings_gives (state_of t table s station d month) minutes heights
    unfolding bookings_gives
    bookings-given e = rw (heights-by t s d (length heights) (accepted tt) e)

-- what an accepted list has passed: a table is there, the buffers are as long, and no minute is outside
let-pass : (differ : Bool) (asked : Outcome Unit)
    → ◌≡◌ {A = Outcome (Unit {0})} (answered {A = Unit {0} × Unit {0} × Unit {0}} (refuse_if differ 31 0 (asked >> accepted (tt, tt, tt)))) (accepted tt)
    → (differ ≡ false) × (asked ≡ accepted tt)
let-pass true asked e = not-both e
let-pass false (accepted tt) e = (refl, refl)
let-pass false (refused number place) e = not-both e

pub bookings-within : (t s d : Bool) (last : ℕ) (minutes : List ℕ) (places : ℕ) → bookings_by t s d last minutes places ≡ accepted tt
    → (t ≡ true) × ((places ≡ length minutes) × AllWithin last minutes)
bookings-within true true true last minutes places e =
    let p = let-pass (not (eqb (length minutes) places)) (minutes_from last 1 minutes) e in (refl, (sym (eqb-true (length minutes) places (not-false (eqb (length minutes) places) p.0)), minutes-within last 1 minutes p.1))
bookings-within true true false last minutes places e = not-both e
bookings-within true false d last minutes places e = not-both e
bookings-within false s d last minutes places e = not-both e
