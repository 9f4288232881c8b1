use Rattle.turns.proofs.bisection.+bisect.Given as goal

abbrev pub decreases-bisect : goal.decreases-bisect
decreases-bisect l = l.bracket.length
