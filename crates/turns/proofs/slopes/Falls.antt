-- The slope's sum: a constituent's term in registers, and the terms from a place on, one more while places are left and none at the end.
-- By `Known` (sizes carried from step to step) and the definition's clauses. Assumes nothing.
use mathlib.Core.Path.{◌≡◌}
use mathlib.Core.List.{List}
use Prim.Native.Nat.{ℕ, ◌+◌, ◌-◌, ◌*◌, ◌/◌, ◌^◌, ◌≤◌, ◌<◌}
use native.Mathlib.Omega.{arith}
use lib.Dec.{lit<, lit≤}
use lib.IntN.{ℤ, pos, nat_abs, ◌+ℤ◌, ◌*ℤ◌}
use lib.ListN.{get_or}
use lib.Signed.{shr_z}
use mir.Syntax.{w64}
use mir.Val.{to_z}
use Rattle.limits.specs.Limits.{most_records}
use Rattle.angles.specs.Floor.{floor_div}
use Rattle.angles.proofs.Machine.{held}
use Rattle.angles.proofs.Known.{Known, plainly, read, cast, bounded, kept, plus, times, shifted}
use Rattle.month_prepared.specs.inner.View.{constituents_after}
use Rattle.month_prepared.proofs.Places.{constituents-more, constituents-none}
use Rattle.heights.specs.Angle.{angle}
use Rattle.turns.specs.Slope.{fall, falls_at}

-- no term is larger than this
abbrev pub most : ℕ
most = 2 ^ 32 * 4_999_999

-- floor((a + b) / 2^30) × floor(f / 1,000), in registers
pub term : {x y a b : ℤ} (f : ℕ) → f ≤ 4_999_999_999 → Known x a (2 ^ 61) → Known y b (2 ^ 61) → Known (held (shr_z (held (x +ℤ y)) (2 ^ 30)) *ℤ to_z w64 (f / 1_000)) (floor_div (a +ℤ b) (2 ^ 30) *ℤ pos (f / 1_000)) most
term f h p q =
    let small : f / 1_000 ≤ 4_999_999 = omega arith in
    times (kept (shifted (kept (plus p q) (lit< tt)) (2 ^ 30) (2 ^ 32) (lit< tt) (lit≤ tt)) (lit< tt)) (cast (f / 1_000) small (lit< tt))

-- a sum of k terms in a register, and one term more
pub one-term-more : (z r : ℤ) (k : ℕ) → k < most_records → nat_abs z ≤ k * most → nat_abs r ≤ most → Known (z +ℤ held r) (z +ℤ r) ((k + 1) * most)
one-term-more z r k h hz hr = bounded (plus (plainly z hz) (read r hr (lit< tt))) (omega (arith, (plus (plainly z hz) (plainly r hr)).size))

module _ (arguments lags frequencies : List ℕ) (ps qs : List ℤ) (minute k n : ℕ) where
  pub falls-more : k < n → falls_at (constituents_after arguments lags frequencies ps qs k (n - k)) minute ≡ fall (get_or ps k (pos 0)) (get_or qs k (pos 0)) (get_or frequencies k 0) (angle (get_or arguments k 0) (get_or lags k 0) (get_or frequencies k 0) minute) +ℤ falls_at (constituents_after arguments lags frequencies ps qs (k + 1) (n - (k + 1))) minute
  unfolding falls_at
  falls-more h = rw (constituents-more arguments lags frequencies ps qs k n h)

  pub falls-none : n ≤ k → falls_at (constituents_after arguments lags frequencies ps qs k (n - k)) minute ≡ pos 0
  unfolding falls_at
  falls-none h = rw (constituents-none arguments lags frequencies ps qs k n h)
