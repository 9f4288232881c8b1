-- `turns::bisection::bisect` meets its contract: one cut, and the promise of the half (`Halves`). The minutes between the ends fall at each call.
-- Assumes nothing.
use Prim.Native.Nat.{ℕ}
use borrow.Author.Rules.{rules}
use native.Mathlib.Omega.{arith}
use mathlib.Core.Path.{◌∙◌, ap}
use mir.Syntax.{w64}
use mir.Val.{SFits}
use Rattle.month_prepared.proofs.Owners.{last-most}
use Rattle.turns.specs.inner.Lists.{slopes_in}
use Rattle.turns.proofs.bisection.Halves.{kept, kept_result, sense-of, one-minute, early-half, late-half}
use Rattle.turns.proofs.bisection.+bisect.Goals as goal

pub turn_between-requires : goal.turn_between-requires
turn_between-requires t c =
    let small = last-most c.args.lent.months c.requires.rows.lent.following in
    search rules

pub returns-then-length-le1 : goal.returns-then-length-le1
returns-then-length-le1 t c =
    let fe : SFits w64 c.args.bracket.early = search rules in
    let fl : SFits w64 c.args.bracket.late = search rules in
    one-minute _ c.args.bracket.start c.args.bracket.length c.requires.bracket_pre.some (omega arith) (kept fe c.requires.bracket_pre.early) (kept fl c.requires.bracket_pre.late) c.turn_between.ensures.turn_value c.turn_between.ensures.later_value

pub overflow_add-cut : goal.overflow_add-cut
overflow_add-cut t c =
    let small = last-most c.args.lent.months c.requires.rows.lent.following in
    search rules

pub bisect-requires : goal.bisect-requires
bisect-requires t c =
    let fe : SFits w64 c.args.bracket.early = search rules in (
      search rules,
      (
        c.requires.rows,
        record {
          some = omega arith;
          within = omega (arith, c.requires.bracket_pre.within);
          early = kept fe c.requires.bracket_pre.early;
          late = kept_result c.slope-middle.type_inv c.slope-middle.ensures;
        },
      ),
    )

pub returns-then-differs : goal.returns-then-differs
returns-then-differs t c =
    let fe : SFits w64 c.args.bracket.early = search rules in
    early-half _ c.args.bracket.start c.args.bracket.length c.if-length-le1.false (sense-of (kept fe c.requires.bracket_pre.early) (kept_result c.slope-middle.type_inv c.slope-middle.ensures) c.differs.ensures c.if-differs.true) c.bisect.ensures

pub bisect-requires-2 : goal.bisect-requires-2
bisect-requires-2 t c =
    let fl : SFits w64 c.args.bracket.late = search rules in (
      search rules,
      (
        c.requires.rows,
        record {
          some = omega arith;
          within = omega (arith, c.requires.bracket_pre.within);
          early = kept_result c.slope-middle.type_inv c.slope-middle.ensures;
          late = kept fl (c.requires.bracket_pre.late ∙ ap (λ (m : ℕ). slopes_in c.args.lent m) (omega arith));
        },
      ),
    )

pub returns : goal.returns
returns t c =
    let fe : SFits w64 c.args.bracket.early = search rules in
    late-half _ c.args.bracket.start c.args.bracket.length c.if-length-le1.false (sense-of (kept fe c.requires.bracket_pre.early) (kept_result c.slope-middle.type_inv c.slope-middle.ensures) c.differs.ensures c.if-differs.false) c.bisect-2.ensures
