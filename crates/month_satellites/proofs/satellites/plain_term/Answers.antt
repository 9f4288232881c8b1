-- `month_satellites::satellites::plain_term` meets its contract: a ratio of 32 bits times a wave within 2^30.
use Prim.Native.Nat.{◌^◌, ℕ, ◌≤◌, ◌<◌}
use native.Mathlib.Omega.{arith}
use native.Mathlib.Nat.{le_of_lt}
use lib.Dec.{lit≤, lit<}
use lib.IntN.{pos, ℤ, nat_abs, ◌*ℤ◌}
use mir.Syntax.{w64}
use mir.Val.{to_z}
use Rattle.angles.proofs.Machine.{held}
use Rattle.angles.proofs.Known.{Known, read, cast, fits, kept, says, times}
use Rattle.month_satellites.specs.Satellites.{plain_term}
use Rattle.month_satellites.proofs.latitude.Sizes.{floored}
use Rattle.month_satellites.proofs.satellites.plain_term.Goals as goal

above : (ratio : ℕ) (part : ℤ) → ratio < 2 ^ 32 → nat_abs part ≤ 2 ^ 30 → Known (to_z w64 ratio *ℤ held part) (pos ratio *ℤ part) (2 ^ 62)
above ratio part h k = times (cast ratio {A = 2 ^ 32} (le_of_lt h) (lit< tt)) (read part k (lit< tt))

pub overflow_mul-ratio : goal.overflow_mul-ratio
overflow_mul-ratio c =
    fits (above c.args.ratio c.args.part (omega arith) c.requires) (lit< tt)

pub returns : goal.returns
unfolding plain_term
returns c =
    record {
      value = (says (kept (floored (2 ^ 39) 10240000 c.floor_div.ensures (kept (above c.args.ratio c.args.part (omega arith) c.requires) (lit< tt)) (lit< tt) (lit≤ tt)) (lit< tt))).0;
      result_bound = (says (kept (floored (2 ^ 39) 10240000 c.floor_div.ensures (kept (above c.args.ratio c.args.part (omega arith) c.requires) (lit< tt)) (lit< tt) (lit≤ tt)) (lit< tt))).1;
    }
