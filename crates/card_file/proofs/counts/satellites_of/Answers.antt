-- The satellites of all mains: the loop keeps the sum over the rows passed, which is `satellites_in` of their mains.
use Rattle.card_file.proofs.counts.Counting.{satellites-next, satellites-least, satellites-all}
use borrow.Author.Rules.{rules}
use native.Mathlib.Omega.{arith}
use Rattle.card_file.proofs.counts.satellites_of.Goals as goal

pub loop-k-init : goal.loop-k-init
loop-k-init c =
    (omega (arith, satellites-all c.args.table), omega arith)

pub loop-k-preserved : goal.loop-k-preserved
loop-k-preserved c =
    (omega (arith, c.loop-k.invariant.0, satellites-next c.args.table c.loop-k.k (omega arith)), omega arith)

pub returns : goal.returns
returns c =
    omega (arith, c.loop-k.invariant.0, satellites-least c.args.table c.loop-k.k (search rules) (omega arith))
