-- `month_pairs::nodal::shallow_pair` meets its contract. The invariant: the parts that are left, from the pair so far, give what all give from (2^20, 0) (`Multiplying`).
use mathlib.Core.Path.{sym, ◌∙◌, ap}
use native.Mathlib.Omega.{arith}
use native.Mathlib.Nat.{sub-zero}
use lib.Dec.{lit≤}
use Rattle.table.specs.inner.View.{naturals, integers, part_of, shallow_of}
use Rattle.month_satellites.specs.inner.View.{pair_of}
use Rattle.refusals.specs.Checked.{good, bad}
use Rattle.month_pairs.specs.inner.Corrected.{corrected_of}
use Rattle.month_pairs.specs.Shallow.{pair_from_parts}
use Rattle.month_pairs.specs.inner.Rows.{pairs_of}
use Rattle.month_pairs.proofs.nodal.Multiplying.{parts_next, parts_none}
use Rattle.month_pairs.proofs.nodal.shallow_pair.Goals as goal

pub loop-j-init : goal.loop-j-init
unfolding pair_from_parts shallow_of
loop-j-init c =
    record {
      same = rw (sub-zero, c.entry_at.ensures);
      sized = record { x = lit≤ tt; y = lit≤ tt };
    }

pub times_row_part-requires : goal.times_row_part-requires
times_row_part-requires c =
    (omega (arith, c.loop-j-test.true), c.loop-j.invariant.sized)

pub returns-in_default : goal.returns-in_default
returns-in_default c =
    record {
      result_value = parts_next (pairs_of c.args.kept.now) (part_of (naturals 6 c.args.table.now.shallowcards c.args.k) (integers 4 c.args.table.now.coefficients c.args.k))
          c.loop-j.j c.entry_at.result.now (pair_of c.loop-j.p) (bad 11) c.loop-j-test.true (sym (ap corrected_of c.in_default.is) ∙ c.times_row_part.ensures.result_value) ∙ c.loop-j.invariant.same;
      small = tt;
    }

pub loop-j-preserved : goal.loop-j-preserved
loop-j-preserved c =
    record {
      same = parts_next (pairs_of c.args.kept.now) (part_of (naturals 6 c.args.table.now.shallowcards c.args.k) (integers 4 c.args.table.now.coefficients c.args.k))
          c.loop-j.j c.entry_at.result.now (pair_of c.loop-j.p) (good (pair_of c.in-Some.q)) c.loop-j-test.true c.in-Some.ensures.result_value ∙ c.loop-j.invariant.same;
      sized = c.in-Some.ensures.small;
    }

pub returns : goal.returns
returns c =
    record {
      result_value = parts_none (pairs_of c.args.kept.now) (part_of (naturals 6 c.args.table.now.shallowcards c.args.k) (integers 4 c.args.table.now.coefficients c.args.k)) c.loop-j.j c.entry_at.result.now (pair_of c.loop-j.p) c.loop-j-test.false ∙ c.loop-j.invariant.same;
      small = c.loop-j.invariant.sized;
    }
