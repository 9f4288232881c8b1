-- `month_pairs::pairs::times_often` meets its contract. The invariant: the multiplications that are left, from the pair so far, give what all give from the first (`Multiplying`).
use mathlib.Core.Path.{sym, ◌∙◌, ap}
use native.Mathlib.Nat.{sub-zero}
use Rattle.refusals.specs.Checked.{good, bad}
use Rattle.month_pairs.specs.Pairs.{checked}
use Rattle.month_satellites.specs.inner.View.{pair_of}
use Rattle.month_pairs.specs.inner.Corrected.{corrected_of}
use Rattle.month_pairs.proofs.pairs.Multiplying.{often-next, often-none}
use Rattle.month_pairs.proofs.pairs.times_often.Goals as goal

pub loop-init : goal.loop-init
loop-init c =
    record { same = rw sub-zero; sized = c.requires.sized }

pub multiplied-requires : goal.multiplied-requires
multiplied-requires c =
    record {
      sized = c.loop.invariant.sized;
      sized_2 = c.requires.sized_2;
    }

pub returns-in_default : goal.returns-in_default
returns-in_default c =
    let is = sym (ap corrected_of c.in_default.is) ∙ c.check.ensures.result_value ∙ ap checked c.multiplied.ensures.result_value in
    record {
      result_value = often-next c.loop.counter c.args.n (pair_of c.loop.p) (pair_of c.args.by) (bad 11) c.loop-test.true is ∙ c.loop.invariant.same;
      small = tt;
    }

pub loop-preserved : goal.loop-preserved
loop-preserved c =
    let is = c.in-Some.ensures.result_value ∙ ap checked c.multiplied.ensures.result_value in
    record {
      same = often-next c.loop.counter c.args.n (pair_of c.loop.p) (pair_of c.args.by) (good (pair_of c.in-Some.q)) c.loop-test.true is ∙ c.loop.invariant.same;
      sized = c.in-Some.ensures.small;
    }

pub returns : goal.returns
returns c =
    record {
      result_value = often-none c.loop.counter c.args.n (pair_of c.loop.p) (pair_of c.args.by) c.loop-test.false ∙ c.loop.invariant.same;
      small = c.loop.invariant.sized;
    }
