-- `clock::names_of` meets its contract: the bytes of a table are the names of its frequencies (`names-of` in table). Assumes nothing.
use mathlib.Core.Path.{sym}
use Rattle.table.specs.inner.View.{table_of}
use Rattle.table.proofs.Names.{names-of}
use Rattle.clock.proofs.names_of.Goals as goal

pub returns : goal.returns
unfolding table_of
returns c =
    sym (names-of c.args.table.names c.args.table.speeds 0 c.args.table.frequencies)
