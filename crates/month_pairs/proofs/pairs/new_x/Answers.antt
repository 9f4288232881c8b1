-- `month_pairs::pairs::new_x` meets its contract: two products within 2^44, and the floor of their difference.
use Prim.Native.Nat.{◌^◌, ◌≤◌}
use lib.Dec.{lit≤, lit<}
use lib.IntN.{◌*ℤ◌, ℤ, nat_abs, ◌-ℤ◌}
use Rattle.angles.proofs.Machine.{held}
use Rattle.angles.proofs.Known.{Known, fits, kept, says, minus}
use Rattle.month_satellites.proofs.latitude.Sizes.{pair-product, floored}
use Rattle.month_pairs.proofs.pairs.new_x.Goals as goal

both : (a b x y : ℤ) → nat_abs a ≤ 2 ^ 22 → nat_abs b ≤ 2 ^ 22 → nat_abs x ≤ 2 ^ 22 → nat_abs y ≤ 2 ^ 22
    → Known (held (held a *ℤ held x) -ℤ held (held b *ℤ held y)) (a *ℤ x -ℤ b *ℤ y) (2 ^ 45)
both a b x y ha hb hx hy = minus (kept (pair-product a x ha hx) (lit< tt)) (kept (pair-product b y hb hy) (lit< tt))

pub overflow_mul-a : goal.overflow_mul-a
overflow_mul-a c =
    fits (pair-product c.args.a c.args.x c.requires.0 c.requires.2) (lit< tt)

pub overflow_mul-b : goal.overflow_mul-b
overflow_mul-b c =
    fits (pair-product c.args.b c.args.y c.requires.1 c.requires.3) (lit< tt)

pub overflow_sub-a : goal.overflow_sub-a
overflow_sub-a c =
    fits (both c.args.a c.args.b c.args.x c.args.y c.requires.0 c.requires.1 c.requires.2 c.requires.3) (lit< tt)

pub returns : goal.returns
returns c =
    record {
      value = (says (kept (floored (2 ^ 60) (2 ^ 20) c.floor_div.ensures (kept (both c.args.a c.args.b c.args.x c.args.y c.requires.0 c.requires.1 c.requires.2 c.requires.3) (lit< tt)) (lit< tt) (lit≤ tt)) (lit< tt))).0;
      result_bound = (says (kept (floored (2 ^ 60) (2 ^ 20) c.floor_div.ensures (kept (both c.args.a c.args.b c.args.x c.args.y c.requires.0 c.requires.1 c.requires.2 c.requires.3) (lit< tt)) (lit< tt) (lit≤ tt)) (lit< tt))).1;
    }
