-- Searching from the next turn on answers as from the first on.
use Rattle.std.proofs.Common.{◌≡◌, ◌-◌, ◌≤◌, max}
use Rattle.swings.specs.Swings.{turn_from}
use Rattle.swings.proofs.turn_from.Given as goal

abbrev pub invariant-loop-i : goal.invariant-loop-i
invariant-loop-i l = record {
  within : l.i ≤ max l.from l.count;
  is : turn_from l.minutes l.minute l.i (l.count - l.i) ≡ turn_from l.minutes l.minute l.from (l.count - l.from);
}
