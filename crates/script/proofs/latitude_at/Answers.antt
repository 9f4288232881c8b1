-- `script::latitude_at` meets its contract: a minus or none, then a size that fits, then the count. Assumes nothing.
use mathlib.Core.Path.{sym, ◌∙◌}
use Prim.Native.Nat.{◌+◌, ◌-◌, ◌^◌}
use mir.Syntax.{w32}
use mir.Val.{SFits}
use mir.ValLaws.{to_z-of_z}
use borrow.Author.Rules.{rules}
use Rattle.script.specs.Script.{station_of}
use Rattle.script.proofs.words.Words.{field-most}
use Rattle.script.proofs.Latitudes.{behind-is}
use Rattle.script.proofs.latitude_at.Goals as goal

pub returns-in_err-southern : goal.returns-in_err-southern
unfolding station_of
returns-in_err-southern c =
    let m = sym c.minus_at.ensures ∙ c.if-minus_at.true in rw (c.from_residual.ensures, m, behind-is _ _ m, ← c.field_at.ensures, c.in_err-southern.was)

pub south-requires : goal.south-requires
south-requires c =
    field-most c.args.line.now (c.args.at + 1) (2 ^ 31) _ _ c.field_at.ensures c.in_ok-southern.was

pub returns-then-minus_at : goal.returns-then-minus_at
unfolding station_of
returns-then-minus_at c =
    let m = sym c.minus_at.ensures ∙ c.if-minus_at.true in
    let f : SFits w32 c.south.result = search rules in
    rw (m, behind-is _ _ m, ← c.field_at.ensures, c.in_ok-southern.was, ← c.south.ensures) (rw (to_z-of_z w32 _ f) at c.station_at.ensures)

pub returns-in_err-northern : goal.returns-in_err-northern
unfolding station_of
returns-in_err-northern c =
    rw (c.from_residual-in_err-northern.ensures, sym c.minus_at.ensures ∙ c.if-minus_at.false, ← c.field_at-2.ensures, c.in_err-northern.was)

pub north-requires : goal.north-requires
north-requires c =
    field-most c.args.line.now c.args.at (2 ^ 31 - 1) _ _ c.field_at-2.ensures c.in_ok-northern.was

pub returns : goal.returns
unfolding station_of
returns c =
    let f : SFits w32 c.north.result = search rules in
    rw (sym c.minus_at.ensures ∙ c.if-minus_at.false, ← c.field_at-2.ensures, c.in_ok-northern.was, ← c.north.ensures) (rw (to_z-of_z w32 _ f) at c.station_at-2.ensures)
