-- All records: the first that is refused is the answer; else all are kept.
use native.Mathlib.Omega.{arith}
use native.Mathlib.Nat.{sub-zero}
use mathlib.Core.Path.{◌≡◌, refl, sym}
use Prim.Native.Nat.{◌+◌}
use lib.ListN.{get_or}
use Rattle.refusals.specs.Outcome.{accepted}
use Rattle.station.specs.Station.{record_outcome}
use Rattle.station.specs.inner.Station.{places_before, station_upto}
use Rattle.station.specs.Records.{records_from, record_at}
use Rattle.station.proofs.Laws.{records-more, records-none, record-fits, upto-more, narrow-is}
use Rattle.station.proofs.take_records.Goals as goal

pub loop-k-init : goal.loop-k-init
unfolding records_from station_upto places_before
loop-k-init c = record { left = simp sub-zero; kept = refl }

pub returns-in-Err : goal.returns-in-Err
returns-in-Err c =
    record {
      says = rw (records-more c.args.frequencies c.args.rows c.loop-k.k c.args.n (omega arith), ← c.in-Err.ensures) at c.loop-k.invariant.left;
      keeps = tt;
    }

pub loop-k-preserved : goal.loop-k-preserved
loop-k-preserved c =
    let good : record_outcome c.args.frequencies (places_before c.args.rows.places c.loop-k.k) (c.loop-k.k + 1) (record_at c.args.rows c.loop-k.k) ≡ accepted tt = sym c.in_default.ensures in
    let fits = record-fits c.args.frequencies (places_before c.args.rows.places c.loop-k.k) (c.loop-k.k + 1) (record_at c.args.rows c.loop-k.k) good in record {
      left = rw (records-more c.args.frequencies c.args.rows c.loop-k.k c.args.n (omega arith), good) at c.loop-k.invariant.left;
      kept = rw (c.with_record-station.ensures, c.nth_record.ensures, narrow-is _ fits.0, narrow-is (get_or c.args.rows.phases c.loop-k.k 0) (omega arith), upto-more c.args.empty c.args.rows c.loop-k.k, c.loop-k.invariant.kept);
    }

pub returns : goal.returns
returns c =
    record {
      says = rw (records-none c.args.frequencies c.args.rows c.loop-k.k c.args.n c.loop-k-test.false) at c.loop-k.invariant.left;
      keeps = let n : c.loop-k.k ≡ c.args.n = omega arith in rw n at c.loop-k.invariant.kept;
    }
