-- `station::records::rows_of` meets its contract: each record is put in its row, and all that are lent are the rows.
use Prim.Native.Nat.{◌<◌, min}
use native.Mathlib.Omega.{arith}
use native.Mathlib.Numerals.{add-one}
use mathlib.Core.Path.{◌≡◌, ◌∙◌}
use lib.ListN.{length}
use lib.Seq.{get_or-take, length-take-le}
use Rattle.limits.specs.Limits.{most_records}
use Rattle.station.proofs.records.Copies.{blank, rows_upto, rows_are}
use Rattle.station.proofs.records.rows_of.Goals as goal

pub loop-i-init : goal.loop-i-init
unfolding rows_upto
loop-i-init c = c.no_rows-rows.ensures

pub loop-i-preserved : goal.loop-i-preserved
unfolding rows_upto
loop-i-preserved c =
    let below : c.loop-i.i < c.at_most.result = omega (arith, length-take-le c.at_most.result c.args.rs.now (omega arith)) in
    rw (add-one c.loop-i.i, ← c.loop-i.invariant, ← get_or-take c.at_most.result c.args.rs.now c.loop-i.i blank below) c.put-rows.ensures

pub returns : goal.returns
returns c =
    let all : c.loop-i.i ≡ min (length c.args.rs.now) most_records = omega (arith, length-take-le c.at_most.result c.args.rs.now (omega arith)) in
    c.loop-i.invariant ∙ rw all (rows_are c.args.rs.now)
