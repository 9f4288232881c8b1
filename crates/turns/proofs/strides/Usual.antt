-- 02, No. 6: "With 180, 30 and 360 every turn is what 01 gives." By 01's two tests. Assumes nothing.
use Prim.Native.Nat.{ℕ, ◌+◌, ◌*◌}
use mathlib.Core.Path.{◌≡◌, refl}
use mathlib.Core.Bool.{Bool, true, false, cond}
use lib.Dec.{leb, ltb}
use Rattle.station.specs.Strides.{usual_strides}
use Rattle.turns.specs.Stride.{semidiurnal, mixed, diurnal, stride_of, tides_of, fixed_stride}
use Rattle.turns.specs.Strides.{station_stride, station_stride01, UsualStride}

by_tests : (a b : Bool) → stride_of usual_strides (cond a semidiurnal (cond b diurnal mixed)) ≡ cond a 180 (cond b 360 30)
by_tests true b = refl
by_tests false true = refl
by_tests false false = refl

usual-is : (k1 o1 m2 s2 : ℕ) → stride_of usual_strides (tides_of k1 o1 m2 s2) ≡ fixed_stride k1 o1 m2 s2
unfolding tides_of fixed_stride
usual-is k1 o1 m2 s2 = by_tests (leb (4 * (k1 + o1)) (m2 + s2)) (ltb (3 * (m2 + s2)) (k1 + o1))

pub usual-stride : UsualStride
unfolding station_stride station_stride01
usual-stride table station e = rw e (usual-is _ _ _ _)
