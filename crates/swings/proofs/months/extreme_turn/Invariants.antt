-- The best so far is the extreme of the turns passed.
use Rattle.std.proofs.Common.{◌≡◌, ◌-◌, ◌≤◌, max}
use Rattle.swings.specs.Months.{extreme_turn}
use Rattle.swings.proofs.months.extreme_turn.Given as goal

abbrev pub invariant-loop-i : goal.invariant-loop-i
invariant-loop-i l = record {
  within : l.i ≤ max l.from l.to;
  is : l.best ≡ extreme_turn l.high l.heights l.from (l.i - l.from);
}
