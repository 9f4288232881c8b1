-- A clock with a table or none, and nothing else, is sound where its table's frequencies are in range. Assumes nothing.
use mathlib.Core.Path.{◌≡◌, refl}
use mathlib.Core.Bool.{Bool, false}
use native.Mathlib.Omega.{arith}
use Rattle.table.specs.declared.Table.{Table}
use Rattle.month_prepared.specs.inner.Rows.{InRange}
use Rattle.station.specs.Strides.{stride_outside, strides_outside, usual_strides}
use Rattle.clock.specs.declared.Clock.{Clock}
use Rattle.clock.specs.View.{Sound}
use Rattle.clock.specs.inner.Posts.{BarePost}

usual-inside : strides_outside usual_strides ≡ false
unfolding strides_outside stride_outside
usual-inside = refl

pub bare-sound : (tabled : Bool) (table : Table) (r : Clock) → InRange table.frequencies table.speeds → BarePost tabled table r → Sound r
bare-sound tabled table r within p =
    record {
      cosines = p.cosines;
      table = rw p.same within;
      count = omega (arith, p.count);
      last = omega (arith, p.last);
      month = λ k h. absurd (omega (arith, p.count, h));
      strides = rw p.strides usual-inside;
    }
