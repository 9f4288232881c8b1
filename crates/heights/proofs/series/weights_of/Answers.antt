-- `heights::series::weights_of` meets its contract: the places below k are right, and lists with the same places are the same.
use borrow.Author.Rules.{rules}
use Prim.Native.Nat.{◌<◌}
use native.Mathlib.Omega.{arith}
use mathlib.Core.Path.{refl, sym, ◌∙◌}
use lib.IntN.{pos}
use lib.ListN.{length, get_or, length-set}
use lib.Seq.{ext_get_or}
use borrow.Author.Count.{below_none}
use mir.Syntax.{w32}
use mir.Val.{SFits, to_z, of_z}
use mir.ValLaws.{to_z-of_z}
use Rattle.heights.proofs.series.Filling.{filled_more}
use Rattle.heights.proofs.series.weights_of.Goals as goal

pub loop-k-init : goal.loop-k-init
loop-k-init c =
    record { room = refl; copied = below_none _ }

pub loop-k-preserved : goal.loop-k-preserved
loop-k-preserved c =
    let weight = get_or c.args.row.now c.loop-k.k (pos 0) in
    let copied = to_z w32 (of_z w32 weight) in
    let fits : SFits w32 weight = search rules in
    let l : c.loop-k.k < length c.loop-k.weights = omega arith in
    record { room = length-set c.loop-k.weights c.loop-k.k copied ∙ c.loop-k.invariant.room; copied = filled_more (pos 0) c.loop-k.weights c.loop-k.k copied (λ j. get_or c.args.row.now j (pos 0)) l c.loop-k.invariant.copied (to_z-of_z w32 weight fits) }

pub returns : goal.returns
returns c =
    ext_get_or (pos 0) c.loop-k.weights c.args.row.now (c.loop-k.invariant.room ∙ sym c.requires) (λ j h. c.loop-k.invariant.copied j (omega arith))
