-- What is asked of a clock's parts, and what is said from them, is asked and said of the clock. Assumes nothing.
use Prim.{Unit}
use Rattle.std.specs.Prelude.{ℕ, List, ℤ}
use Rattle.table.specs.inner.View.{table_of}
use Rattle.station.specs.inner.Station.{station_of}
use Rattle.refusals.specs.Outcome.{Outcome}
use Rattle.clock.specs.View.{view, Made}
use Rattle.clock.specs.Posts.{HeightPost, BookingsPost}
use Rattle.clock.specs.inner.Posts.{PartsMade, HeightFrom, BookingsFrom}
use Rattle.clock.specs.declared.Clock.{Clock}

-- the parts of a clock that a call made
pub parts-made : (c : Clock) → Made c → PartsMade c.tabled c.cosines c.count c.last
parts-made c made tabled = let sound = made tabled in (sound.cosines, (sound.count, sound.last))

-- a height from the parts of a clock is the clock's
pub from_parts : (c : Clock) (m : ℕ) (returned : Outcome ℤ) → HeightFrom c.tabled c.stationed c.dated c.last c.count c.arguments c.lags c.frequencies c.ps c.qs m returned → HeightPost c m returned
unfolding view
from_parts c m returned p = record { returns = p.returns (table_of c.table) (station_of c.station) c.year c.month }

-- and so are bookings
pub bookings-from-parts : (c : Clock) (minutes : List ℕ) (heights left : List ℤ) (returned : Outcome Unit)
    → BookingsFrom c.tabled c.stationed c.dated c.last c.count c.arguments c.lags c.frequencies c.ps c.qs minutes heights left returned → BookingsPost c minutes heights left returned
unfolding view
bookings-from-parts c minutes heights left returned p = record { gives = p.gives (table_of c.table) (station_of c.station) c.year c.month }
