use Prim.Native.Nat.{◌-◌, ◌≤◌}
use mathlib.Core.Path.{◌≡◌}
use Rattle.turns.specs.inner.Lists.{slopes_in}
use Rattle.turns.specs.Search.{turns_of}
use Rattle.turns.proofs.search.next_turn.Given as goal

abbrev pub invariant-loop-from : goal.invariant-loop-from
invariant-loop-from l = record {
  within : l.from ≤ l.last;
  there : l.behind ≡ slopes_in l.lent l.from;
  same : turns_of (slopes_in l.lent) l.stride l.minute l.last ≡ turns_of (slopes_in l.lent) l.stride l.from l.last;
}

abbrev pub decreases-loop-from : goal.decreases-loop-from
decreases-loop-from l = l.last - l.from
