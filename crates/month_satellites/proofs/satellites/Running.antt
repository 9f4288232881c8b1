-- A running sum over satellites: what was added so far, with what is left, gives the whole, and grows by at most 2^42 a satellite.
-- The loop over a main's satellites keeps one for X and one for Y.
use mathlib.Core.Path.{◌≡◌, refl, sym, ◌∙◌}
use Prim.Native.Nat.{ℕ, ◌+◌, ◌-◌, ◌*◌, ◌^◌, ◌≤◌, ◌<◌}
use native.Mathlib.Omega.{arith}
use native.Mathlib.Nat.{le_trans}
use lib.IntN.{ℤ, nat_abs, ◌+ℤ◌, +ℤ_assoc, +ℤ_idr}
use lib.Dec.{lit<}
use mir.Syntax.{w64}
use mir.Val.{SFits, to_z}
use Rattle.angles.proofs.Machine.{held}
use Rattle.angles.proofs.Known.{Known, plainly, read, fits, kept, plus}
use Rattle.table.specs.Table.{Satellite}
use Rattle.table.specs.inner.View.{listed}
use Rattle.table.proofs.Rows.{listed_next, listed-end}
use Rattle.month_satellites.specs.Satellites.{sum_over}

pub record Running (f : Satellite → ℤ) (s : ℕ → Satellite) (first : ℤ) (start end k : ℕ) (z : ℤ) : Type 0 where
  pub same : z +ℤ sum_over f (listed s k (end - k)) ≡ first +ℤ sum_over f (listed s start (end - start))
  pub size : nat_abs z ≤ 2 ^ 20 + (k - start) * 2 ^ 42

module _ (f : Satellite → ℤ) (s : ℕ → Satellite) (first : ℤ) (start end : ℕ) where
  pub begin : nat_abs first ≤ 2 ^ 20 → Running f s first start end start first
  begin h = record { same = refl; size = omega arith }

  pub step : (k : ℕ) (z t : ℤ) → start ≤ k → k < end → Running f s first start end k z → t ≡ f (s k) → nat_abs t ≤ 2 ^ 42
      → Running f s first start end (k + 1) (z +ℤ t)
  unfolding sum_over
  step k z t l h r e b =
      record {
        same = +ℤ_assoc z t (sum_over f (listed s (k + 1) (end - (k + 1)))) ∙ (rw (listed_next s k end h, ← e) at r.same);
        size = le_trans (plus (plainly z r.size) (plainly t b)).size (omega arith);
      }

  pub done : (k : ℕ) (z : ℤ) → end ≤ k → Running f s first start end k z → z ≡ first +ℤ sum_over f (listed s start (end - start))
  unfolding sum_over
  done k z h r = sym (+ℤ_idr z) ∙ (rw (listed-end s k end h) at r.same)

  -- a count of 16 bits leaves room
  pub room : (k : ℕ) (z : ℤ) → start ≤ k → k < start + 2 ^ 16 → Running f s first start end k z → nat_abs z ≤ 2 ^ 59
  room k z l h r = le_trans r.size (omega arith)

  -- the next sum, in a register
  module _ (k x : ℕ) (t : ℤ) (l : start ≤ k) (h : k < end) (n : end < start + 2 ^ 16) (r : Running f s first start end k (to_z w64 x)) (b : nat_abs t ≤ 2 ^ 42) where
    next : Known (to_z w64 x +ℤ held t) (to_z w64 x +ℤ t) (2 ^ 59 + 2 ^ 42)
    next = plus (plainly (to_z w64 x) (room k (to_z w64 x) l (omega arith) r)) (read t b (lit< tt))

    pub added-fits : SFits w64 (to_z w64 x +ℤ held t)
    added-fits = fits next (lit< tt)

    pub added-runs : t ≡ f (s k) → Running f s first start end (k + 1) (held (to_z w64 x +ℤ held t))
    added-runs e = rw (kept next (lit< tt)).is (step k (to_z w64 x) t l h r e b)
