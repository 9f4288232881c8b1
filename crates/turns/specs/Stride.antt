-- 01, "Heights and turns": the kind of a station's tides, by the amplitudes of K1, O1, M2 and S2; 02, No. 6: the stride that is theirs.
-- Assumes nothing.
use Rattle.std.specs.Prelude.{ℕ, ◌+◌, ◌*◌, cond, leb, ltb}
use Rattle.station.specs.declared.strides.Strides.{Strides}

-- the kind of a station's tides
pub data Tides : Type 0 where
  semidiurnal : Tides
  mixed : Tides
  diurnal : Tides

-- "4(K1+O1) ≤ M2+S2 gives ..; else K1+O1 > 3(M2+S2) gives ..; else ..", of the two sums; 02: "The class limits remain 0.25 and 3."
abbrev pub tides_by : ℕ → ℕ → Tides
tides_by daily twice = cond (leb (4 * daily) twice) semidiurnal (cond (ltb (3 * twice) daily) diurnal mixed)

-- 02, No. 6: "three stride lengths in minutes, for semidiurnal, mixed and diurnal tides": the one for a kind of tides
abbrev pub stride_of : Strides → Tides → ℕ
stride_of strides semidiurnal = strides.semidiurnal
stride_of strides mixed = strides.mixed
stride_of strides diurnal = strides.diurnal

-- "By the amplitudes of K1, O1, M2, S2 (.. absent is 0)"
unfoldable pub tides_of : ℕ → ℕ → ℕ → ℕ → Tides
tides_of k1 o1 m2 s2 = tides_by (k1 + o1) (m2 + s2)

-- 01's rule as it stood, with lengths of its own: "4(K1+O1) ≤ M2+S2 gives a 180 minute stride; else K1+O1 > 3(M2+S2) gives 360; else 30"
unfoldable pub fixed_stride : ℕ → ℕ → ℕ → ℕ → ℕ
fixed_stride k1 o1 m2 s2 = cond (leb (4 * (k1 + o1)) (m2 + s2)) 180 (cond (ltb (3 * (m2 + s2)) (k1 + o1)) 360 30)
