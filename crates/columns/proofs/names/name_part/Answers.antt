-- `columns::names::name_part` meets its contract. The part of the line, and that it is the five columns when padded: `padded-part`. Assumes nothing.
use Rattle.columns.proofs.Columns.{padded-part}
use Rattle.columns.proofs.names.name_part.Goals as goal

pub returns : goal.returns
returns c =
    record {
      result_value = c.part.ensures;
      result_value_2 = rw c.part.ensures (padded-part 32 c.args.line.now c.args.from 5);
    }
