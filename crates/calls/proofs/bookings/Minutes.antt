-- The minutes of a list from a place on, asked one after another. By the definition's clauses. Assumes nothing.
use Prim.{Unit}
use Prim.Native.Nat.{ℕ, ◌+◌, ◌≤◌, ◌<◌, zero, suc}
use native.Mathlib.Omega.{arith}
use native.Mathlib.Numerals.{add-one}
use mathlib.Core.Bool.{Bool, true, false, not}
use mathlib.Core.Path.{◌≡◌, refl, ◌∙◌}
use mathlib.Core.List.{List, [], ◌∷◌}
use lib.Dec.{eqb, ltb}
use lib.ListN.{length, get_or, drop, drop_of_length-le}
use lib.Seq.{drop-cons}
use borrow.Author.Tests.{ltb-false}
use Rattle.heights.specs.inner.Places.{AllWithin}
use Rattle.refusals.specs.Outcome.{Outcome, accepted, refused, refuse_if, answered, ◌>>◌}
use Rattle.refusals.proofs.Laws.{not-both}
use Rattle.calls.specs.Asked.{minute_outside}
use Rattle.calls.specs.Bookings.{minutes_from}
use Rattle.calls.specs.inner.Flags.{state_by, bookings_by}

module _ (last : ℕ) (minutes : List ℕ) (k place : ℕ) where
  -- the minute at place k, and then those behind it
  more : k < length minutes
      → minutes_from last place (drop k minutes) ≡ refuse_if (minute_outside last (get_or minutes k 0)) 9 place (minutes_from last (place + 1) (drop (k + 1) minutes))
  unfolding minutes_from
  more h = rw (drop-cons minutes k 0 h, add-one k)

  pub minutes-out : k < length minutes → minute_outside last (get_or minutes k 0) ≡ true → minutes_from last place (drop k minutes) ≡ refused 9 place
  minutes-out h e = more h ∙ rw e

  pub minutes-in : k < length minutes → minute_outside last (get_or minutes k 0) ≡ false → minutes_from last place (drop k minutes) ≡ minutes_from last (place + 1) (drop (k + 1) minutes)
  minutes-in h e = more h ∙ rw e

  pub minutes-none : length minutes ≤ k → minutes_from last place (drop k minutes) ≡ accepted tt
  unfolding minutes_from
  minutes-none h = rw (drop_of_length-le minutes {i = k} h)

-- one minute that is not refused
pub pass : (outside : Bool) (place : ℕ) (next : Outcome Unit) → refuse_if outside 9 place next ≡ accepted tt → (outside ≡ false) × (next ≡ accepted tt)
pass true place next e = not-both e
pass false place next e = (refl, e)

-- none of the minutes is later than the last, where none is refused
pub minutes-within : (last place : ℕ) (minutes : List ℕ) → minutes_from last place minutes ≡ accepted tt → AllWithin last minutes
unfolding minutes_from
minutes-within last place [] e k h = absurd (omega arith)
minutes-within last place (m ∷ ms) e zero h = ltb-false last m (pass (ltb last m) place _ e).0
minutes-within last place (m ∷ ms) e (suc k) h = minutes-within last (place + 1) ms (pass (ltb last m) place _ e).1 k (omega arith)

-- ---- what a list of bookings asks by its flags: the state first, then 31, and then the minutes

answered-so : (differ : Bool) (asked : Outcome Unit)
    → ◌≡◌ {A = Outcome (Unit {0})} (answered {A = Unit {0} × Unit {0} × Unit {0}} (refuse_if differ 31 0 (asked >> accepted (tt, tt, tt)))) (refuse_if differ 31 0 asked)
answered-so true asked = refl
answered-so false (accepted tt) = refl
answered-so false (refused number place) = refl

pub bookings-by : (t s d : Bool) (last : ℕ) (minutes : List ℕ) (places : ℕ)
    → bookings_by t s d last minutes places ≡ (state_by t s d >> refuse_if (not (eqb (length minutes) places)) 31 0 (minutes_from last 1 minutes))
bookings-by true true true last minutes places = answered-so (not (eqb (length minutes) places)) (minutes_from last 1 minutes)
bookings-by true true false last minutes places = refl
bookings-by true false d last minutes places = refl
bookings-by false s d last minutes places = refl
