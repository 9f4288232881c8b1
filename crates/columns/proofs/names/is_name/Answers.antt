-- `columns::names::is_name` meets its contract. What is read of the part at a place, padded, is the name there: `padded-part`. Assumes nothing.
use Prim.Native.Nat.{◌*◌}
use Rattle.columns.proofs.Columns.{padded-part}
use Rattle.columns.proofs.names.is_name.Goals as goal

pub returns : goal.returns
returns c =
    rw (c.name_at.ensures, padded-part 0 c.args.names.now (5 * c.args.place) 5) at c.same_name.ensures
