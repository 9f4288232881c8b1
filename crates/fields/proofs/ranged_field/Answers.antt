-- `fields::ranged_field` meets its contract. What is kept of a field has its answer: `written-gives`. Assumes nothing.
use mathlib.Core.Path.{◌∙◌}
use mir.Syntax.{w64}
use mir.ValLaws.{to_z-of_z}
use Rattle.columns.specs.Columns.{columns}
use Rattle.fields.specs.Number.{ranged}
use Rattle.fields.proofs.Ranges.{written-gives}
use Rattle.fields.proofs.ranged_field.Goals as goal

pub returns-in-Some : goal.returns-in-Some
returns-in-Some c =
    let e = written-gives c.args.low c.args.high c.ranges.low c.ranges.high c.args.format (columns c.args.line.now c.args.from c.args.width) c.written_in-written.result c.written_in-written.ensures in
    (simp (to_z-of_z w64 c.args.low c.ranges.low, to_z-of_z w64 c.args.high c.ranges.high) at c.ranged.ensures) ∙ (rw c.in-Some.is at e)

pub returns-in-None : goal.returns-in-None
unfolding ranged
returns-in-None c =
    let e = written-gives c.args.low c.args.high c.ranges.low c.ranges.high c.args.format (columns c.args.line.now c.args.from c.args.width) c.written_in-written.result c.written_in-written.ensures in
    rw c.in-None.is at e
