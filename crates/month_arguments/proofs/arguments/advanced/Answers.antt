-- `month_arguments::arguments::advanced` meets its contract: both angles are reduced before they are joined.
use mathlib.Core.Path.{ap, ap₂, ◌∙◌}
use Prim.Native.Nat.{◌%◌}
use lib.Dec.{lit<}
use lib.IntN.{ℤ, pos, ◌+ℤ◌, ◌*ℤ◌}
use mir.Syntax.{w8}
use mir.ValLaws.{to_z-of_z}
use Rattle.angles.specs.Ticks.{turn}
use Rattle.angles.specs.Floor.{mod_turn}
use Rattle.angles.proofs.Known.{read, fits, kept, plus}
use Rattle.month_arguments.proofs.arguments.Reduced.{joined}
use Rattle.month_arguments.proofs.arguments.advanced.Goals as goal

pub overflow_add-multiple : goal.overflow_add-multiple
overflow_add-multiple c =
    fits (plus (read c.multiple.result c.multiple.ensures.result_bound (lit< tt)) (read c.multiple-2.result c.multiple-2.ensures.result_bound (lit< tt))) (lit< tt)

pub returns : goal.returns
returns c =
    let e = c.multiple-2.ensures.value ∙ ap (λ (z : ℤ). z *ℤ pos (c.args.by % turn)) (to_z-of_z w8 c.args.number c.ranges.number) in
    c.mod_turn.ensures.value
    ∙ ap mod_turn ((kept (plus (read c.multiple.result c.multiple.ensures.result_bound (lit< tt)) (read c.multiple-2.result c.multiple-2.ensures.result_bound (lit< tt))) (lit< tt)).is ∙ ap₂ ◌+ℤ◌ c.multiple.ensures.value e)
    ∙ joined c.args.number c.args.angle c.args.by
