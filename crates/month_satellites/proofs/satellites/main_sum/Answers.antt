-- `month_satellites::satellites::main_sum` meets its contract. The invariant is a running sum for X and one for Y (`Running`); what is left of the satellites falls.
use mathlib.Core.Path.{◌≡◌, refl, ◌∙◌, ap}
use mathlib.Core.List.{List}
use Prim.Native.Nat.{ℕ, ◌+◌, ◌-◌, ◌^◌}
use native.Mathlib.Omega.{arith}
use native.Mathlib.Nat.{le_trans, add-sub_cancel_left}
use lib.Dec.{lit≤}
use lib.IntN.{ℤ, pos, ◌+ℤ◌, +ℤ_idl}
use mir.Syntax.{w64}
use mir.Val.{to_z}
use Rattle.cosine.specs.Fixed.{fixed_cosine, fixed_sine}
use Rattle.table.specs.inner.View.{satellite_of, listed}
use Rattle.table.specs.Table.{Satellite}
use Rattle.month_satellites.specs.inner.Factors.{factors_of}
use Rattle.month_satellites.specs.inner.View.{longitudes_of}
use Rattle.month_satellites.specs.Satellites.{satellite_term, main_pair, Pair, sum_over}
use Rattle.month_satellites.specs.Latitude.{Factors}
use Rattle.month_satellites.proofs.satellites.Running.{begin, done, room, added-fits, added-runs}
use Rattle.month_satellites.proofs.satellites.main_sum.Goals as goal

-- both sums make the pair of the satellites `first` to `first + count`
pair_is : (g : Factors) (ls : List ℕ) (s : ℕ → Satellite) (x y : ℤ) (start n first count : ℕ)
    → x ≡ pos (2 ^ 20) +ℤ sum_over (satellite_term fixed_cosine g ls) (listed s start (start + n - start))
    → y ≡ pos 0 +ℤ sum_over (satellite_term fixed_sine g ls) (listed s start (start + n - start)) → start ≡ first → n ≡ count
    → ◌≡◌ {A = Pair} (record { x = x; y = y }) (main_pair g ls (listed s first count))
unfolding main_pair
pair_is g ls s x y start n first count ex ey es en =
    rw (ex, ey ∙ +ℤ_idl (sum_over (satellite_term fixed_sine g ls) (listed s start (start + n - start))), add-sub_cancel_left start n, es, en)

pub loop-k-init : goal.loop-k-init
loop-k-init c =
    record { x = begin _ _ (pos (2 ^ 20)) _ _ (lit≤ tt); y = begin _ _ (pos 0) _ _ (lit≤ tt) }

pub overflow_add-x : goal.overflow_add-x
overflow_add-x c =
    added-fits _ _ _ _ _ c.loop-k.k c.loop-k.x-bits c.terms_of-t.result.x (omega arith) c.loop-k-test.true (omega arith) c.loop-k.invariant.x c.terms_of-t.ensures.sized.x

pub overflow_add-y : goal.overflow_add-y
overflow_add-y c =
    added-fits _ _ _ _ _ c.loop-k.k c.loop-k.y-bits c.terms_of-t.result.y (omega arith) c.loop-k-test.true (omega arith) c.loop-k.invariant.y c.terms_of-t.ensures.sized.y

pub loop-k-preserved : goal.loop-k-preserved
loop-k-preserved c = record {
  x = added-runs _ _ _ _ _ c.loop-k.k c.loop-k.x-bits c.terms_of-t.result.x (omega arith) c.loop-k-test.true (omega arith) c.loop-k.invariant.x c.terms_of-t.ensures.sized.x
      (c.terms_of-t.ensures.x_value ∙ ap (satellite_term fixed_cosine (factors_of c.args.g) (longitudes_of c.args.l)) c.satellite_at.ensures);
  y = added-runs _ _ _ _ _ c.loop-k.k c.loop-k.y-bits c.terms_of-t.result.y (omega arith) c.loop-k-test.true (omega arith) c.loop-k.invariant.y c.terms_of-t.ensures.sized.y
      (c.terms_of-t.ensures.y_value ∙ ap (satellite_term fixed_sine (factors_of c.args.g) (longitudes_of c.args.l)) c.satellite_at.ensures);
}

pub returns : goal.returns
returns c =
    record {
      result_value = pair_is (factors_of c.args.g) (longitudes_of c.args.l) (satellite_of c.args.table.now.satelliteangles c.args.table.now.satelliteratios) (to_z w64 c.loop-k.x-bits) (to_z w64 c.loop-k.y-bits) c.args.first c.args.count c.args.first c.args.count
          (done _ _ _ _ _ c.loop-k.k (to_z w64 c.loop-k.x-bits) c.loop-k-test.false c.loop-k.invariant.x) (done _ _ _ _ _ c.loop-k.k (to_z w64 c.loop-k.y-bits) c.loop-k-test.false c.loop-k.invariant.y) refl refl;
      sized = record {
        x = le_trans (room _ _ _ _ _ c.loop-k.k (to_z w64 c.loop-k.x-bits) (omega arith) (omega arith) c.loop-k.invariant.x) (lit≤ tt);
        y = le_trans (room _ _ _ _ _ c.loop-k.k (to_z w64 c.loop-k.y-bits) (omega arith) (omega arith) c.loop-k.invariant.y) (lit≤ tt);
      };
    }
