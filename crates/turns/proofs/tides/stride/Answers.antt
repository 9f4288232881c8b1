-- `turns::tides::stride` meets its contract: the tests in 01's order, and the length for the tides that they tell (`Lengths`). Assumes nothing.
use Prim.Native.Nat.{◌+◌, ◌*◌, ◌≤◌, ◌<◌}
use native.Mathlib.Omega.{arith}
use borrow.Author.Tests.{le-leb, lt-leb, le-ltb, lt-ltb}
use Rattle.turns.specs.Stride.{semidiurnal, mixed, diurnal, tides_of}
use Rattle.turns.proofs.tides.Lengths.{lengths-inside}
use Rattle.turns.proofs.tides.stride.Goals as goal

pub returns-then-daily-twice : goal.returns-then-daily-twice
unfolding tides_of
returns-then-daily-twice c =
    let few : 4 * (c.args.k1 + c.args.o1) ≤ c.args.m2 + c.args.s2 = omega arith in record {
      value = simp (le-leb _ _ few);
      result_nonzero = lengths-inside _ c.requires semidiurnal;
    }

pub returns-then-twice-daily : goal.returns-then-twice-daily
unfolding tides_of
returns-then-twice-daily c =
    let more : c.args.m2 + c.args.s2 < 4 * (c.args.k1 + c.args.o1) = omega arith in
    let many : 3 * (c.args.m2 + c.args.s2) < c.args.k1 + c.args.o1 = omega arith in record {
      value = simp (lt-leb _ _ more, lt-ltb _ _ many);
      result_nonzero = lengths-inside _ c.requires diurnal;
    }

pub returns : goal.returns
unfolding tides_of
returns c =
    let more : c.args.m2 + c.args.s2 < 4 * (c.args.k1 + c.args.o1) = omega arith in
    let few : c.args.k1 + c.args.o1 ≤ 3 * (c.args.m2 + c.args.s2) = omega arith in record {
      value = simp (lt-leb _ _ more, le-ltb _ _ few);
      result_nonzero = lengths-inside _ c.requires mixed;
    }
