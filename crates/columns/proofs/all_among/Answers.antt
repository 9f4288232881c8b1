-- `columns::all_among` meets its contract. Every column is of the kind when the run of the kind reaches the end: `every-run`. Assumes nothing.
use Rattle.columns.specs.Bytes.{among}
use Rattle.columns.proofs.Columns.{every-run}
use Rattle.columns.proofs.all_among.Goals as goal

pub returns : goal.returns
returns c =
    rw (every-run (among c.args.low c.args.high) c.args.line.now c.args.k c.args.end, ← c.run_end.ensures)
