-- `month_satellites::latitude::semidiurnal_north` meets its contract: S20 is at most 2^20.
use Prim.Native.Nat.{◌*◌, ◌^◌, ◌≤◌}
use native.Mathlib.Omega.{arith}
use lib.Dec.{lit≤, lit<}
use Rattle.angles.proofs.Known.{cast, kept, says}
use Rattle.month_satellites.specs.Latitude.{semidiurnal_north}
use Rattle.month_satellites.proofs.latitude.Sizes.{floored}
use Rattle.month_satellites.proofs.latitude.semidiurnal_north.Goals as goal

pub returns : goal.returns
unfolding semidiurnal_north
returns c =
    let small : 259808 * c.args.s ≤ 259808 * 2 ^ 20 = omega (arith, c.requires.high) in record {
      value = (says (kept (floored (2 ^ 23) 100000 c.floor_div.ensures (cast (259808 * c.args.s) small (lit< tt)) (lit< tt) (lit≤ tt)) (lit< tt))).0;
      result_bound = (says (kept (floored (2 ^ 23) 100000 c.floor_div.ensures (cast (259808 * c.args.s) small (lit< tt)) (lit< tt) (lit≤ tt)) (lit< tt))).1;
    }
