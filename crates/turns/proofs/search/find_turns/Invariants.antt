use Rattle.turns.specs.inner.Lists.{slopes_in}
use Rattle.turns.specs.inner.Search.{onwards}
use Rattle.turns.proofs.search.Kept.{Left}
use lib.ListN.{length}
use Rattle.turns.proofs.search.find_turns.Given as goal

abbrev pub invariant-loop-next : goal.invariant-loop-next
invariant-loop-next l = Left (slopes_in l.lent) l.reach.stride l.reach.first l.reach.last l.initial.kept l.kept l.next l.found

abbrev pub decreases-loop-next : goal.decreases-loop-next
decreases-loop-next l = length (onwards (slopes_in l.lent) l.reach.stride l.reach.last l.next)
