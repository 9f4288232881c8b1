-- `month_pairs::pairs::check` meets its contract: each return is one case of refusal 11's two tests.
use mathlib.Core.Path.{◌≡◌, refl, ◌∙◌, ap}
use Prim.Native.Nat.{ℕ, ◌≤◌, ◌<◌, ◌^◌}
use native.Mathlib.Omega.{arith}
use borrow.Author.Rules.{rules}
use borrow.Author.Tests.{lt-ltb, le-ltb}
use lib.IntN.{ℤ, nat_abs}
use mir.Syntax.{w64}
use mir.Val.{SFits}
use mir.ValLaws.{to_z-of_z}
use Rattle.angles.proofs.Machine.{held}
use Rattle.month_pairs.specs.Pairs.{checked}
use Rattle.month_pairs.proofs.pairs.check.Goals as goal

size_is : (z : ℤ) → SFits w64 z → (r : ℕ) → r ≡ nat_abs (held z) → r ≡ nat_abs z
size_is z f r e = e ∙ ap nat_abs (to_z-of_z w64 z f)

pub returns-then-size-gt4194304 : goal.returns-then-size-gt4194304
unfolding checked
returns-then-size-gt4194304 c =
    let fx : SFits w64 c.args.p.x = search rules in
    let x = size_is c.args.p.x fx c.size.result c.size.ensures in
    let large : 2 ^ 22 < nat_abs c.args.p.x = omega (arith, x, c.if-size-gt4194304.true) in record {
      result_value = simp (lt-ltb _ _ large) refl;
      small = tt;
    }

pub returns-then-size-gt4194304-2 : goal.returns-then-size-gt4194304-2
unfolding checked
returns-then-size-gt4194304-2 c =
    let fx : SFits w64 c.args.p.x = search rules in
    let x = size_is c.args.p.x fx c.size.result c.size.ensures in
    let fy : SFits w64 c.args.p.y = search rules in
    let y = size_is c.args.p.y fy c.size-2.result c.size-2.ensures in
    let small : nat_abs c.args.p.x ≤ 2 ^ 22 = omega (arith, x, c.if-size-gt4194304.false) in
    let large : 2 ^ 22 < nat_abs c.args.p.y = omega (arith, y, c.if-size-gt4194304-2.true) in record {
      result_value = simp (le-ltb _ _ small, lt-ltb _ _ large) refl;
      small = tt;
    }

pub returns : goal.returns
unfolding checked
returns c =
    let fx : SFits w64 c.args.p.x = search rules in
    let x = size_is c.args.p.x fx c.size.result c.size.ensures in
    let fy : SFits w64 c.args.p.y = search rules in
    let y = size_is c.args.p.y fy c.size-2.result c.size-2.ensures in
    let x-small : nat_abs c.args.p.x ≤ 2 ^ 22 = omega (arith, x, c.if-size-gt4194304.false) in
    let y-small : nat_abs c.args.p.y ≤ 2 ^ 22 = omega (arith, y, c.if-size-gt4194304-2.false) in record {
      result_value = simp (le-ltb _ _ x-small, le-ltb _ _ y-small) refl;
      small = record { x = x-small; y = y-small };
    }
