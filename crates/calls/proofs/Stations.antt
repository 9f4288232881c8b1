-- A station's cases, by the flags of the state: accepted, and refused by 21 or by its records. Assumes nothing.
use Prim.{Unit}
use mathlib.Core.Path.{◌≡◌, refl}
use Prim.Native.Nat.{ℕ}
use mathlib.Core.Bool.{Bool, true, false}
use lib.IntN.{pos, neg_ℤ}
use lib.ListN.{length}
use lib.Signed.{lt_z}
use Rattle.limits.specs.Limits.{most_latitude}
use Rattle.refusals.specs.Outcome.{Outcome, accepted, refused, refuse_if}
use Rattle.refusals.proofs.Laws.{not-both}
use Rattle.table.specs.Table.{Table}
use Rattle.station.specs.Station.{Station, station_outcome}
use Rattle.station.specs.Strides.{strides_outside}
use Rattle.calls.specs.State.{Dated, State}
use Rattle.calls.specs.inner.Flags.{state_of, tabled_only}
use Rattle.calls.specs.Calls.{station_returns, station_leaves}

-- an accepted station's strides are in range
strides-fit : (frequencies : ℕ) (station : Station) → station_outcome frequencies station ≡ accepted tt → strides_outside station.strides ≡ false
unfolding station_outcome
strides-fit frequencies station =
    tests (lt_z station.latitude (neg_ℤ (pos most_latitude))) (lt_z (pos most_latitude) station.latitude) (strides_outside station.strides) _
  where
    tests : (a b c : Bool) (next : Outcome Unit) → ◌≡◌ {A = Outcome Unit} (refuse_if a 3 0 (refuse_if b 3 0 (refuse_if c 35 0 next))) (accepted tt) → c ≡ false
    tests true b c next e = not-both e
    tests false true c next e = not-both e
    tests false false true next e = not-both e
    tests false false false next e = refl

module _ (table : Table) (s : Bool) (station : Station) (d : Bool) (month : Dated) (new : Station) where
  abbrev before : Bool → State
  before t = state_of t table s station d month

  abbrev asked : Bool → Outcome Unit
  asked t = station_returns (tabled_only t table) new

  -- only the table is asked
  returns-by : (t : Bool) → station_returns (before t) new ≡ asked t
  unfolding station_returns
  returns-by t = refl

  -- the table is kept, the station is there, and no month
  pub station-accepted : (t : Bool) → asked t ≡ accepted tt
      → (accepted tt ≡ station_returns (before t) new)
      × (state_of t table true new false month ≡ station_leaves (before t) new)
  unfolding station_leaves
  station-accepted t e = (rw (returns-by t, e), rw (returns-by t, e))

  -- its strides are in range
  pub station-strides : (t : Bool) → asked t ≡ accepted tt → strides_outside new.strides ≡ false
  unfolding station_returns
  station-strides true e = strides-fit (length table.frequencies) new e
  station-strides false e = not-both e

  -- everything is as it was
  pub station-refused : (t : Bool) (number place : ℕ) → asked t ≡ refused number place
      → (refused number place ≡ station_returns (before t) new) × (before t ≡ station_leaves (before t) new)
  unfolding station_leaves
  station-refused t number place e = (rw (returns-by t, e), rw (returns-by t, e))
