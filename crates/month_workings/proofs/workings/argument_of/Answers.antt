-- `month_workings::workings::argument_of` meets its contract: V of the row that stands there, or none.
use mathlib.Core.Path.{sym, subst, ◌∙◌}
use mathlib.Core.List.{List}
use Prim.Native.Nat.{ℕ, ◌<◌}
use lib.Dec.{lit<}
use lib.IntN.{ℤ, pos, ◌+ℤ◌, ◌*ℤ◌}
use lib.ListN.{get_or, take}
use Rattle.angles.specs.Ticks.{turn, centicycle}
use Rattle.angles.proofs.Angles.{below-turn}
use Rattle.table.proofs.entries.Beyond.{past-entries, entry_at}
use Rattle.table.specs.inner.View.{integers}
use Rattle.month_arguments.specs.Longitudes.{Longitudes, times}
use Rattle.month_arguments.specs.inner.Longitudes.{longitudes_of}
use Rattle.month_arguments.specs.Arguments.{astronomical, argument}
use Rattle.month_arguments.specs.inner.Rows.{row_argument}
use Rattle.month_workings.proofs.workings.argument_of.Goals as goal

row_below : (l : Longitudes) (angles : List ℤ) (k : ℕ) → row_argument l angles k < turn
unfolding row_argument argument
row_below l angles k = below-turn (times (take 6 (integers 7 angles k)) (astronomical l) +ℤ get_or (integers 7 angles k) 6 (pos 0) *ℤ pos centicycle)

pub returns-then-mains-k : goal.returns-then-mains-k
returns-then-mains-k c =
    record {
      value = past-entries 0 (row_argument (longitudes_of c.args.l) c.args.angles.now) c.args.mains c.args.k c.if-mains-k.true;
      upper_bound = lit< tt;
    }

pub returns : goal.returns
returns c =
    record {
      value = c.main_argument.ensures ∙ entry_at 0 (row_argument (longitudes_of c.args.l) c.args.angles.now) c.args.mains c.args.k c.if-mains-k.false;
      upper_bound = subst (λ (n : ℕ). n < turn) (sym c.main_argument.ensures) (row_below (longitudes_of c.args.l) c.args.angles.now c.args.k);
    }
