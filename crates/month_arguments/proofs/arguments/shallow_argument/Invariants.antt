use mathlib.Core.Path.{◌≡◌}
use Prim.Native.Nat.{◌-◌, ◌<◌}
use lib.IntN.{pos, ◌+ℤ◌}
use Rattle.angles.specs.Ticks.{turn}
use Rattle.angles.specs.Floor.{mod_turn}
use Rattle.table.specs.inner.View.{listed, part_of, naturals, integers, shallow_of}
use Rattle.month_arguments.specs.Arguments.{sum_of_parts, argument_from_parts}
use Rattle.month_arguments.specs.inner.Rows.{arguments_in}
use Rattle.month_arguments.proofs.arguments.shallow_argument.Given as goal

abbrev pub invariant-loop-part : goal.invariant-loop-part
invariant-loop-part l = record {
  same : mod_turn (pos l.v +ℤ sum_of_parts (arguments_in l.kept) (listed (part_of (naturals 6 l.table.shallowcards l.row) (integers 4 l.table.coefficients l.row)) l.part (l.parts - l.part))) ≡ argument_from_parts (arguments_in l.kept) (shallow_of l.table.shallowcards l.table.coefficients l.row);
  below : l.v < turn;
}
