-- `month_arguments::arguments::shallow_argument` meets its contract. The invariant: what is added up and the parts that are left give the whole, modulo T.
use mathlib.Core.Path.{◌≡◌, sym, ap, subst, ◌∙◌}
use Prim.Native.Nat.{ℕ, ◌+◌, ◌-◌, ◌<◌}
use lib.IntN.{pos, ◌+ℤ◌, ◌*ℤ◌}
use lib.ListN.{get_or}
use mir.Syntax.{w8}
use mir.Val.{SFits}
use mir.ValLaws.{to_z-of_z}
use Rattle.angles.specs.Ticks.{turn}
use Rattle.angles.specs.Floor.{mod_turn}
use Rattle.angles.proofs.Angles.{below-turn}
use Rattle.table.specs.inner.View.{listed, part_of, naturals, integers}
use Rattle.month_arguments.specs.Arguments.{sum_of_parts}
use Rattle.month_arguments.specs.inner.Rows.{arguments_in}
use Rattle.month_arguments.proofs.arguments.Chain.{parts_more, parts_none, parts_all}
use borrow.Author.Rules.{rules}
use Rattle.month_arguments.proofs.arguments.shallow_argument.Goals as goal

pub loop-part-init : goal.loop-part-init
loop-part-init c =
    record { same = parts_all (arguments_in c.args.kept.now) c.args.table.now.shallowcards c.args.table.now.coefficients c.args.row c.entry_at.result.now c.entry_at.ensures; below = search rules }

pub loop-part-preserved : goal.loop-part-preserved
loop-part-preserved c =
    let card = naturals 6 c.args.table.now.shallowcards c.args.row in
    let coefficients = integers 4 c.args.table.now.coefficients c.args.row in
    let f : SFits w8 c.entry_at-in-loop-part-2.result.now = search rules in
    let e : c.advanced-v.result ≡ mod_turn (pos c.loop-part.v +ℤ get_or coefficients c.loop-part.part (pos 0) *ℤ pos (get_or (arguments_in c.args.kept.now) (get_or card (2 + c.loop-part.part) 0) 0)) =
    rw (to_z-of_z w8 c.entry_at-in-loop-part-2.result.now f, c.entry_at-in-loop-part-2.ensures, c.argument_at.ensures, c.entry_at-in-loop-part.ensures) at c.advanced-v.ensures in
    record {
      same = ap (λ (n : ℕ). mod_turn (pos n +ℤ sum_of_parts (arguments_in c.args.kept.now) (listed (part_of card coefficients) (c.loop-part.part + 1) (c.entry_at.result.now - (c.loop-part.part + 1))))) e ∙ sym (parts_more (arguments_in c.args.kept.now) card coefficients c.loop-part.v c.loop-part.part c.entry_at.result.now c.loop-part-test.true) ∙ c.loop-part.invariant.same;
      below = subst (λ (n : ℕ). n < turn) (sym e) (below-turn (pos c.loop-part.v +ℤ get_or coefficients c.loop-part.part (pos 0) *ℤ pos (get_or (arguments_in c.args.kept.now) (get_or card (2 + c.loop-part.part) 0) 0)));
    }

pub returns : goal.returns
returns c =
    sym (parts_none (arguments_in c.args.kept.now) (naturals 6 c.args.table.now.shallowcards c.args.row) (integers 4 c.args.table.now.coefficients c.args.row) c.loop-part.v c.loop-part.part c.entry_at.result.now c.loop-part-test.false c.loop-part.invariant.below) ∙ c.loop-part.invariant.same
