-- A list of bookings gives at each place what a single request gives for its minute. By the cases of what is there. Assumes nothing.
use Prim.{Unit}
use Prim.Native.Nat.{ℕ, ◌+◌}
use mathlib.Core.Bool.{Bool, true, false, not}
use mathlib.Core.Path.{◌≡◌, refl, ap, ap₂, ◌∙◌}
use mathlib.Core.List.{List, [], ◌∷◌, map}
use lib.Dec.{eqb, ltb}
use lib.IntN.{ℤ}
use lib.ListN.{length}
use Rattle.refusals.specs.Outcome.{Outcome, accepted, refused, refuse_if, ◌>>◌, ◌>>=◌}
use Rattle.refusals.proofs.Laws.{not-both}
use Rattle.table.specs.Table.{Table}
use Rattle.station.specs.Station.{Station}
use Rattle.heights.specs.Height.{height_at}
use Rattle.calls.specs.State.{Maybe, none, some, Dated, State}
use Rattle.calls.specs.Calls.{height_returns}
use Rattle.calls.specs.Bookings.{minutes_from, bookings_heights, AsSingleRequests}
use Rattle.calls.proofs.bookings.Minutes.{pass}

module _ (table : Table) (station : Station) (month : Dated) where
  abbrev there : State
  there = record { table = some table; station = some station; month = some month }

  abbrev height : ℕ → ℤ
  height = height_at month.prepared.constituents

  single : (minute : ℕ) → ltb month.prepared.last minute ≡ false → height_returns there minute ≡ accepted (height minute)
  unfolding height_returns
  single minute e = rw e

  singles : (place : ℕ) (minutes : List ℕ) → minutes_from month.prepared.last place minutes ≡ accepted tt → map (height_returns there) minutes ≡ map accepted (map height minutes)
  unfolding minutes_from
  singles place [] e = refl
  singles place (m ∷ ms) e =
      let p = pass (ltb month.prepared.last m) place _ e in ap₂ (λ (h : Outcome ℤ) (hs : List (Outcome ℤ)). h ∷ hs) (single m p.0) (singles (place + 1) ms p.1)

  -- what is given where 31 and the minutes let it pass
  passed : (differ : Bool) (asked : Outcome Unit) (heights : List ℤ) (next : Table × Station × Dated → List ℤ)
      → (refuse_if differ 31 0 (asked >> accepted (table, station, month)) >>= λ x. accepted (next x)) ≡ accepted heights
      → (asked ≡ accepted tt) × (next (table, station, month) ≡ heights)
  passed true asked heights next e = not-both e
  passed false (accepted tt) heights next e = (refl, cc)
  passed false (refused number place) heights next e = not-both e

heights-singly : (table : Maybe Table) (station : Maybe Station) (month : Maybe Dated) (minutes : List ℕ) (places : ℕ) (heights : List ℤ)
    → bookings_heights (record { table = table; station = station; month = month }) minutes places ≡ accepted heights
    → map (height_returns (record { table = table; station = station; month = month })) minutes ≡ map accepted heights
unfolding bookings_heights
heights-singly none s m minutes places heights e = not-both e
heights-singly (some t) none m minutes places heights e = not-both e
heights-singly (some t) (some s) none minutes places heights e = not-both e
heights-singly (some t) (some s) (some m) minutes places heights e =
    let p = passed t s m (not (eqb (length minutes) places)) (minutes_from m.prepared.last 1 minutes) heights (λ x. map (height_at x.2.prepared.constituents) minutes) e in
    singles t s m 1 minutes p.0 ∙ ap (map accepted) p.1

pub as-single-requests : AsSingleRequests
as-single-requests k = heights-singly k.table k.station k.month
