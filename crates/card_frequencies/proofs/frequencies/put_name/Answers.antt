-- `card_frequencies::frequencies::put_name` meets its contract. The loop keeps that storing the columns left gives what storing all of them gives.
use native.Mathlib.Nat.{add-zero}
use Prim.Native.Nat.{◌*◌}
use Rattle.card_frequencies.proofs.frequencies.Rows.{store-more, store-none}
use Rattle.card_frequencies.proofs.frequencies.put_name.Goals as goal

pub loop-j-init : goal.loop-j-init
loop-j-init c =
    rw (add-zero (5 * c.args.place), add-zero c.args.from)

pub loop-j-preserved : goal.loop-j-preserved
loop-j-preserved c =
    rw (store-more c.loop-j.names c.args.line.now (5 * c.args.place) c.args.from c.loop-j.j 5 c.loop-j-test.true, ← c.column.ensures) at c.loop-j.invariant

pub returns : goal.returns
returns c =
    rw (store-none c.loop-j.names c.args.line.now (5 * c.args.place) c.args.from c.loop-j.j 5 c.loop-j-test.false) at c.loop-j.invariant
