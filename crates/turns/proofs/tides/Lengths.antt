-- A station's lengths that are in range are, each of them, a stride of 1 to 720 minutes. By the three kinds of tides. Assumes nothing.
use Prim.Native.Nat.{ℕ, ◌≤◌, ◌<◌}
use mathlib.Core.Path.{◌≡◌, refl}
use mathlib.Core.Bool.{Bool, true, false, ◌||◌, true≢false}
use lib.Dec.{ltb}
use borrow.Author.Tests.{ltb-false}
use Rattle.limits.specs.Limits.{most_stride}
use Rattle.station.specs.declared.strides.Strides.{Strides}
use Rattle.station.specs.Strides.{stride_outside, strides_outside}
use Rattle.turns.specs.Stride.{Tides, semidiurnal, mixed, diurnal, stride_of}

neither : (a b : Bool) → (a || b) ≡ false → (a ≡ false) × (b ≡ false)
neither true b e = absurd (true≢false e)
neither false b e = (refl, e)

inside : (minutes : ℕ) → stride_outside minutes ≡ false → (0 < minutes) × (minutes ≤ most_stride)
unfolding stride_outside
inside minutes e = let both = neither (ltb minutes 1) (ltb most_stride minutes) e in (ltb-false minutes 1 both.0, ltb-false most_stride minutes both.1)

pub lengths-inside : (strides : Strides) → strides_outside strides ≡ false → (tides : Tides) → (0 < stride_of strides tides) × (stride_of strides tides ≤ most_stride)
unfolding strides_outside
lengths-inside strides e tides =
    let a = stride_outside strides.semidiurnal in
    let b = stride_outside strides.mixed in
    let c = stride_outside strides.diurnal in
    by tides (neither a b (neither (a || b) c e).0) (neither (a || b) c e).1
  where
    by : (tides : Tides) → (stride_outside strides.semidiurnal ≡ false) × (stride_outside strides.mixed ≡ false) → stride_outside strides.diurnal ≡ false
        → (0 < stride_of strides tides) × (stride_of strides tides ≤ most_stride)
    by semidiurnal hs h = inside strides.semidiurnal hs.0
    by mixed hs h = inside strides.mixed hs.1
    by diurnal hs h = inside strides.diurnal h
