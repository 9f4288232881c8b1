-- `script::station_at` meets its contract: behind the count the line ends, or the strides are read; the latitude is read back from its 32 bits. Assumes nothing.
use mathlib.Core.Path.{◌≡◌}
use mathlib.Core.List.{List}
use Prim.Native.Nat.{ℕ, ◌≤◌}
use lib.IntN.{ℤ}
use lib.ListN.{length}
use mir.Syntax.{w32}
use mir.ValLaws.{to_z-of_z}
use Rattle.script.specs.Script.{with_strides, behind_count, station_at}
use Rattle.script.specs.inner.Left.{words_from}
use Rattle.script.proofs.words.Words.{from_past, from_next}
use Rattle.script.proofs.station_at.Goals as goal

-- where a word begins behind the count, the strides are read
strides-behind : (latitude : ℤ) (count : ℕ) (l : List ℕ) (i : ℕ) → i ≤ length l → behind_count latitude count (words_from l i) ≡ with_strides latitude count (words_from l i)
strides-behind latitude count l i h = rw (from_next l i h)

pub returns-in_err-count : goal.returns-in_err-count
unfolding station_at
returns-in_err-count c =
    rw (c.from_residual.ensures, ← c.field_at.ensures, c.in_err-count.was)

pub returns-then-line-count : goal.returns-then-line-count
unfolding station_at
returns-then-line-count c =
    rw (← c.field_at.ensures, c.in_ok-count.was, from_past _ _ c.if-line-count.true, ← c.usual.ensures, to_z-of_z w32 _ c.ranges.latitude)

pub returns : goal.returns
unfolding station_at
returns c =
    rw (← c.field_at.ensures, c.in_ok-count.was, strides-behind _ _ _ _ c.if-line-count.false) (rw (to_z-of_z w32 _ c.ranges.latitude) at c.strides_at.ensures)
