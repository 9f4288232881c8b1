-- `month_pairs::nodal::pair_at` meets its contract: an entry of the list of pairs, or the default past its end.
use mathlib.Core.Path.{◌∙◌}
use Prim.Native.Nat.{◌+◌, ◌*◌}
use lib.Dec.{lit≤}
use lib.IntN.{pos}
use lib.ListN.{get_or}
use mir.Syntax.{w64}
use mir.Val.{SFits}
use mir.ValLaws.{to_z-of_z}
use Rattle.table.proofs.entries.Beyond.{past-entries, entry_at}
use Rattle.refusals.specs.Checked.{good}
use Rattle.month_pairs.specs.Pairs.{checked, start_pair}
use Rattle.month_pairs.specs.inner.Rows.{sum_at}
use borrow.Author.Rules.{rules}
use Rattle.month_pairs.proofs.nodal.pair_at.Goals as goal

pub returns-then-k-ge-MAINS : goal.returns-then-k-ge-MAINS
returns-then-k-ge-MAINS c =
    record {
      result_value = past-entries (good start_pair) (λ k. checked (sum_at c.args.kept.now k)) 64 c.args.k c.if-k-ge-MAINS.true;
      small = record { x = lit≤ tt; y = lit≤ tt };
    }

pub returns : goal.returns
returns c =
    let x : SFits w64 (get_or c.args.kept.now (3 * c.args.k + 1) (pos 0)) = search rules in
    let y : SFits w64 (get_or c.args.kept.now (3 * c.args.k + 2) (pos 0)) = search rules in record {
      result_value = rw (to_z-of_z w64 (get_or c.args.kept.now (3 * c.args.k + 1) (pos 0)) x, to_z-of_z w64 (get_or c.args.kept.now (3 * c.args.k + 2) (pos 0)) y) at c.check.ensures.result_value ∙ entry_at (good start_pair) (λ k. checked (sum_at c.args.kept.now k)) 64 c.args.k c.if-k-ge-MAINS.false;
      small = c.check.ensures.small;
    }
