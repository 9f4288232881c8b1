-- `month_satellites::latitude::minutes` meets its contract: each return is one case of the size's `min` and `max`.
use borrow.Author.Rules.{rules}
use Prim.Native.Nat.{◌^◌, ◌≤◌}
use native.Mathlib.Omega.{arith}
use lib.Dec.{lit<}
use lib.IntN.{nat_abs}
use mir.Syntax.{w32}
use Rattle.month_satellites.specs.Latitude.{latitude_size}
use Rattle.month_satellites.proofs.latitude.Sizes.{size-widened}
use Rattle.month_satellites.proofs.latitude.minutes.Goals as goal

pub returns-then-m-lt300 : goal.returns-then-m-lt300
unfolding latitude_size
returns-then-m-lt300 c =
    let h : nat_abs c.args.latitude ≤ 2 ^ 31 = search rules in
    omega (arith, size-widened w32 c.args.latitude c.size-m.result (lit< tt) c.ranges.latitude h c.size-m.ensures)

pub returns-then-m : goal.returns-then-m
unfolding latitude_size
returns-then-m c =
    let h : nat_abs c.args.latitude ≤ 2 ^ 31 = search rules in
    omega (arith, size-widened w32 c.args.latitude c.size-m.result (lit< tt) c.ranges.latitude h c.size-m.ensures)

pub returns : goal.returns
unfolding latitude_size
returns c =
    let h : nat_abs c.args.latitude ≤ 2 ^ 31 = search rules in
    omega (arith, size-widened w32 c.args.latitude c.size-m.result (lit< tt) c.ranges.latitude h c.size-m.ensures)
