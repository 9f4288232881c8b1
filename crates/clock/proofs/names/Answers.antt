-- `clock::names` meets its contract: by whether a table is there. Assumes nothing.
use Rattle.columns.specs.Names.{names_from}
use Rattle.clock.specs.View.{view}
use Rattle.clock.proofs.names.Goals as goal

pub returns-then-clock : goal.returns-then-clock
unfolding view
returns-then-clock c =
    rw c.if-clock.true c.names_of.ensures

pub returns : goal.returns
unfolding names_from view
returns c =
    rw c.if-clock.false
