-- `month_arguments::arguments::argument_at` meets its contract: an entry of the list of V, or the default past its end.
use mathlib.Core.Path.{◌∙◌}
use lib.IntN.{pos, nat_abs}
use Prim.Native.Nat.{◌*◌}
use lib.ListN.{get_or}
use mir.Syntax.{w64}
use mir.Val.{SFits}
use mir.ValLaws.{to_z-of_z}
use Rattle.table.proofs.entries.Beyond.{past-entries, entry_at}
use borrow.Author.Rules.{rules}
use Rattle.month_arguments.proofs.arguments.argument_at.Goals as goal

pub returns-then-k-ge-MAINS : goal.returns-then-k-ge-MAINS
returns-then-k-ge-MAINS c =
    past-entries 0 (λ k. nat_abs (get_or c.args.kept.now (3 * k) (pos 0))) 64 c.args.k c.if-k-ge-MAINS.true

pub returns : goal.returns
returns c =
    let v : SFits w64 (get_or c.args.kept.now (3 * c.args.k) (pos 0)) = search rules in
    rw (to_z-of_z w64 (get_or c.args.kept.now (3 * c.args.k) (pos 0)) v) at c.size.ensures ∙ entry_at 0 (λ k. nat_abs (get_or c.args.kept.now (3 * k) (pos 0))) 64 c.args.k c.if-k-ge-MAINS.false
