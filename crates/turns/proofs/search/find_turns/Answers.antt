-- `turns::search::find_turns` meets its contract: the minutes kept and those of the turns that are left give the minutes of all (`Kept`).
-- The number of turns left falls. Assumes nothing.
use borrow.Author.Rules.{rules}
use mathlib.Core.Path.{◌≡◌, sym, ◌∙◌}
use native.Mathlib.Omega.{arith}
use lib.ListN.{set}
use lib.Seq.{set_out}
use mir.Syntax.{w64}
use mir.Val.{SFits}
use Rattle.month_prepared.proofs.Owners.{last-most}
use Rattle.turns.proofs.bisection.Halves.{kept, kept_result}
use Rattle.turns.proofs.search.Kept.{left-first, high-first, left-next, left-room, left-fewer, left-more, left-none}
use Rattle.turns.proofs.search.find_turns.Goals as goal
use Rattle.turns.proofs.search.find_turns.Goals.{then-found-kept, else-found-kept}

pub next_turn-next-requires : goal.next_turn-next-requires
next_turn-next-requires c =
    record {
      rows = c.requires.rows;
      reaches = (c.requires.reaches, c.requires.reaches.order);
      here_value = kept_result c.slope.type_inv c.slope.ensures;
    }

pub loop-next-init : goal.loop-next-init
loop-next-init c =
    left-first c.next_turn-next.ensures

pub overflow_cast-kept : goal.overflow_cast-kept
overflow_cast-kept c =
    let next = left-next c.loop-next.invariant c.in-Some.n c.in-Some.is in
    let small = last-most c.args.lent.months c.requires.rows.lent.following in
    record { fits = omega (arith, next.turn, c.requires.reaches.within) }

pub overflow_add-found : goal.overflow_add-found
overflow_add-found c =
    let room = left-room c.loop-next.invariant c.in-Some.n c.in-Some.is c.requires.reaches.some in
    let small = last-most c.args.lent.months c.requires.rows.lent.following in
    record { fits = omega (arith, c.requires.reaches.within) }

pub next_turn-next-requires-in-Some : goal.next_turn-next-requires-in-Some
next_turn-next-requires-in-Some c =
    let f : SFits w64 c.in-Some.n.slope = search rules in
    let next = left-next c.loop-next.invariant c.in-Some.n c.in-Some.is in record {
      rows = c.requires.rows;
      reaches = (c.requires.reaches, next.later);
      here_value = kept f next.there;
    }

pub loop-next-smaller : goal.loop-next-smaller
loop-next-smaller c =
    left-fewer c.loop-next.invariant c.in-Some.n c.in-Some.is c.next_turn-next-in-Some.ensures

pub loop-next-preserved : goal.loop-next-preserved
loop-next-preserved c =
    let kept' : c.if-found-kept.kept ≡ set c.loop-next.kept c.loop-next.found c.in-Some.n.turn =
    elim c.if-found-kept.branch [
      | then-found-kept w ↦ w.kept-is
      | else-found-kept w ↦ w.kept-is ∙ sym (set_out c.loop-next.kept c.loop-next.found c.in-Some.n.turn (omega arith))
    ] in
    left-more c.loop-next.invariant c.in-Some.n c.in-Some.is c.next_turn-next-in-Some.ensures kept'

pub returns : goal.returns
returns c =
    left-none c.loop-next.invariant c.in_default.is (high-first c.next_turn-next.result c.next_turn-next.ensures c.is_high-high.ensures)
