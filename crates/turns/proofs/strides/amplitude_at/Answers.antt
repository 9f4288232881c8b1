-- `turns::strides::amplitude_at` meets its contract: the amplitude by the records left is that by all (`Amplitudes`). Assumes nothing.
use native.Mathlib.Nat.{sub-zero}
use borrow.Author.Tests.{eq-eqb, ne_eqb}
use Rattle.station.specs.inner.Station.{station_of}
use Rattle.turns.proofs.strides.Amplitudes.{amplitude-more, amplitude-none}
use Rattle.turns.proofs.strides.amplitude_at.Goals as goal

pub loop-k-init : goal.loop-k-init
unfolding station_of
loop-k-init c =
    rw (sub-zero, c.held-count.ensures)

pub returns-then-station-k : goal.returns-then-station-k
returns-then-station-k c =
    rw (amplitude-more c.args.station.places c.args.station.amplitudes c.args.station.lags c.loop-k.k c.held-count.result c.args.place c.loop-k-test.true, eq-eqb _ _ c.if-station-k.true) at c.loop-k.invariant

pub loop-k-preserved : goal.loop-k-preserved
loop-k-preserved c =
    rw (amplitude-more c.args.station.places c.args.station.amplitudes c.args.station.lags c.loop-k.k c.held-count.result c.args.place c.loop-k-test.true, ne_eqb _ _ c.if-station-k.false) at c.loop-k.invariant

pub returns : goal.returns
returns c =
    rw (amplitude-none c.args.station.places c.args.station.amplitudes c.args.station.lags c.loop-k.k c.held-count.result c.args.place c.loop-k-test.false) at c.loop-k.invariant
