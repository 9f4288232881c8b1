-- `month_satellites::satellites::times_factor` meets its contract: a term within 2^39 times a factor within 2^23.
use Prim.Native.Nat.{◌^◌, ◌≤◌}
use lib.Dec.{lit≤, lit<}
use lib.IntN.{ℤ, nat_abs, ◌*ℤ◌}
use Rattle.angles.proofs.Machine.{held}
use Rattle.angles.proofs.Known.{Known, read, fits, kept, says, times}
use Rattle.month_satellites.specs.Satellites.{times_factor}
use Rattle.month_satellites.proofs.latitude.Sizes.{floored}
use Rattle.month_satellites.proofs.satellites.times_factor.Goals as goal

above : (term g : ℤ) → nat_abs term ≤ 2 ^ 39 → nat_abs g ≤ 2 ^ 23 → Known (held term *ℤ held g) (term *ℤ g) (2 ^ 62)
above term g h k = times (read term h (lit< tt)) (read g k (lit< tt))

pub overflow_mul-term : goal.overflow_mul-term
overflow_mul-term c =
    fits (above c.args.term c.args.g c.requires.0 c.requires.1) (lit< tt)

pub returns : goal.returns
unfolding times_factor
returns c =
    record {
      value = (says (kept (floored (2 ^ 42) (2 ^ 20) c.floor_div.ensures (kept (above c.args.term c.args.g c.requires.0 c.requires.1) (lit< tt)) (lit< tt) (lit≤ tt)) (lit< tt))).0;
      result_bound = (says (kept (floored (2 ^ 42) (2 ^ 20) c.floor_div.ensures (kept (above c.args.term c.args.g c.requires.0 c.requires.1) (lit< tt)) (lit< tt) (lit≤ tt)) (lit< tt))).1;
    }
