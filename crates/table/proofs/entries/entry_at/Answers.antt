-- `table::entries::entry_at` meets its contract: inside the rows the read is the row's number, past them the default stands (`Beyond`).
-- Assumes nothing.
use mathlib.Core.Path.{sym, ◌∙◌}
use native.Mathlib.Omega.{arith}
use lib.ListN.{length}
use Rattle.table.proofs.Rows.{row_at}
use Rattle.table.proofs.entries.Beyond.{past-columns, past-rows, far, near}
use Rattle.table.proofs.entries.entry_at.Goals.{then-width-column-via-then-width-column, then-width-column-via-else-width-column+then-row-ge1024}
use Rattle.table.proofs.entries.entry_at.Goals as goal

pub returns-then-width-column : goal.returns-then-width-column
returns-then-width-column g c =
    elim c.then-width-column.branch [
      | then-width-column-via-then-width-column w ↦ past-columns c.args.none.now c.args.width c.args.numbers.now c.args.row c.args.column w.if-width-column.true
      | then-width-column-via-else-width-column+then-row-ge1024 w ↦
          past-rows c.args.none.now c.args.width c.args.numbers.now c.args.row c.args.column w.if-width-column.false
          (far (length c.args.numbers.now) c.args.width c.args.row c.args.column c.requires.1 w.if-width-column.false w.if-row-ge1024.true)
    ]

pub overflow_mul-width : goal.overflow_mul-width
overflow_mul-width g c =
    record { fits = omega (arith, near c.args.width c.args.row c.requires.0 c.if-row-ge1024.false) }

pub overflow_add-width : goal.overflow_add-width
overflow_add-width g c =
    record { fits = omega (arith, near c.args.width c.args.row c.requires.0 c.if-row-ge1024.false, c.requires.0, c.if-width-column.false) }

pub returns : goal.returns
returns g c =
    c.at.ensures ∙ sym (row_at c.args.none.now c.args.width c.args.numbers.now c.args.row c.args.column c.if-width-column.false)
