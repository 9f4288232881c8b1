-- `fields::narrowed` meets its contract: laws of `Ranges` on a range from 0 on. Assumes nothing.
use native.Mathlib.Omega.{arith}
use Rattle.fields.proofs.Ranges.{minus-out, above-out, natural-in}
use Rattle.fields.proofs.narrowed.Goals as goal

pub returns-then-size-eq0 : goal.returns-then-size-eq0
returns-then-size-eq0 c =
    record {
      result_value = rw (c.if-negative.true, c.if-size-eq0.true) (natural-in c.args.high 0 (omega arith));
      narrow_within = omega arith;
    }

pub returns-then-negative : goal.returns-then-negative
returns-then-negative c =
    record {
      result_value = rw c.if-negative.true (minus-out c.args.high c.args.size (omega arith));
      narrow_within = tt;
    }

pub returns-then-high-size : goal.returns-then-high-size
returns-then-high-size c =
    record {
      result_value = rw c.if-negative.false (above-out c.args.high c.args.size (omega arith));
      narrow_within = tt;
    }

pub returns : goal.returns
returns c =
    record {
      result_value = rw c.if-negative.false (natural-in c.args.high c.args.size (omega arith));
      narrow_within = omega arith;
    }
