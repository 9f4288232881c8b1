-- The most so far is the largest swing of the turns passed.
use Rattle.std.proofs.Common.{◌≡◌, ◌-◌, ◌≤◌, max}
use Rattle.swings.specs.Swings.{largest_swing}
use Rattle.swings.proofs.largest_swing.Given as goal

abbrev pub invariant-loop-i : goal.invariant-loop-i
invariant-loop-i l = record {
  within : l.i ≤ max l.from l.to;
  is : l.most ≡ largest_swing l.heights l.count l.from (l.i - l.from);
  small : l.most ≤ 2_000_000_000_000;
}
