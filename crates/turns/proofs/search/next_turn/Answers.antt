-- `turns::search::next_turn` meets its contract: the turns from the minute that the strides have come to are those from the first (`Onward`).
-- Assumes nothing.
use Prim.Native.Nat.{◌+◌, ◌≤◌}
use borrow.Author.Rules.{rules}
use native.Mathlib.Omega.{arith}
use mathlib.Core.Path.{refl, ◌∙◌, ap}
use mir.Syntax.{w64}
use mir.Val.{SFits}
use mir.ValLaws.{to_z-of_z}
use Rattle.month_prepared.proofs.Owners.{last-most}
use Rattle.turns.specs.Sense.{rising}
use Rattle.turns.proofs.bisection.Halves.{kept, kept_result, sense-of}
use Rattle.turns.proofs.search.Onward.{stride-passed, end-reached, turn-found}
use Rattle.turns.proofs.search.next_turn.Goals as goal

pub loop-from-init : goal.loop-from-init
loop-from-init c =
    record { within = c.requires.reaches.1; there = kept c.ranges.here c.requires.here_value; same = refl }

pub overflow_add-from : goal.overflow_add-from
overflow_add-from c =
    let small = last-most c.args.lent.months c.requires.rows.lent.following in
    search rules

pub overflow_add-to : goal.overflow_add-to
overflow_add-to c =
    let small = last-most c.args.lent.months c.requires.rows.lent.following in
    search rules

pub bisect-t-requires : goal.bisect-t-requires
bisect-t-requires c =
    record {
      rows = c.requires.rows;
      bracket_pre = record {
        some = c.requires.reaches.0.some;
        within = omega (arith, c.requires.reaches.0.within);
        early = c.loop-from.invariant.there;
        late = kept_result c.slope-ahead.type_inv c.slope-ahead.ensures;
      };
    }

pub returns-then-differs : goal.returns-then-differs
returns-then-differs c =
    let h : c.loop-from.from + c.args.reach.stride ≤ c.args.reach.last = omega (arith, c.loop-from-test.true) in
    let f : SFits w64 c.bisect-t.result.slope = search rules in
    let ahead = kept_result c.slope-ahead.type_inv c.slope-ahead.ensures in
    let sense = sense-of c.loop-from.invariant.there ahead c.differs.ensures c.if-differs.true in
    let high = c.rises.ensures ∙ ap rising c.loop-from.invariant.there in
    turn-found _ c.args.reach.stride c.requires.reaches.0.some c.args.reach.last c.args.minute c.loop-from.from c.loop-from.invariant.same h sense c.bisect-t.ensures high (to_z-of_z w64 c.bisect-t.result.slope f)

pub loop-from-preserved : goal.loop-from-preserved
loop-from-preserved c =
    let h : c.loop-from.from + c.args.reach.stride ≤ c.args.reach.last = omega (arith, c.loop-from-test.true) in
    let ahead = kept_result c.slope-ahead.type_inv c.slope-ahead.ensures in
    let sense = sense-of c.loop-from.invariant.there ahead c.differs.ensures c.if-differs.false in
    record { within = h; there = ahead; same = stride-passed _ c.args.reach.stride c.requires.reaches.0.some c.args.reach.last c.args.minute c.loop-from.from c.loop-from.invariant.same h sense }

pub returns : goal.returns
returns c =
    end-reached _ c.args.reach.stride c.requires.reaches.0.some c.args.reach.last c.args.minute c.loop-from.from c.loop-from.invariant.same (omega arith)
