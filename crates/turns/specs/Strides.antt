-- 01, "Heights and turns", and 02, No. 6, "Strides chosen at the berth": the stride of a station's own tides. "By the amplitudes of K1, O1, M2, S2 (names with three blanks after; absent is 0)".
-- Assumes nothing.
use Rattle.std.specs.Prelude.{ℕ, cond, ◌≡◌, List, [], ◌∷◌, map, eqb, Option, Some, None}
use Rattle.columns.specs.Names.{place_of}
use Rattle.table.specs.Table.{Table, Frequency}
use Rattle.station.specs.declared.records.Record.{Record}
use Rattle.station.specs.Station.{Station}
use Rattle.station.specs.Strides.{usual_strides}
use Rattle.turns.specs.Stride.{stride_of, tides_of, fixed_stride}

-- the amplitude of the record with a place, 0 where there is none
unfoldable pub amplitude_at : List Record → ℕ → ℕ
amplitude_at [] place = 0
amplitude_at (r ∷ rs) place = cond (eqb r.place place) r.amplitude (amplitude_at rs place)

abbrev pub amplitude_found : List Record → Option ℕ → ℕ
amplitude_found records (Some place) = amplitude_at records place
amplitude_found records None = 0

-- the amplitude of the constituent with a name
unfoldable pub amplitude_of : Table → Station → List ℕ → ℕ
amplitude_of table station name =
    amplitude_found station.records (place_of name (map (λ (f : Frequency). f.name) table.frequencies))

-- what a rule makes of the amplitudes of K1, O1, M2 and S2. The names in bytes: K is 75, O 79, M 77, S 83, 1 is 49, 2 is 50, a blank is 32.
abbrev pub by_amplitudes : {A : Type 0} → (ℕ → ℕ → ℕ → ℕ → A) → Table → Station → A
by_amplitudes rule table station =
    rule
    (amplitude_of table station (75 ∷ 49 ∷ 32 ∷ 32 ∷ 32 ∷ []))
    (amplitude_of table station (79 ∷ 49 ∷ 32 ∷ 32 ∷ 32 ∷ []))
    (amplitude_of table station (77 ∷ 50 ∷ 32 ∷ 32 ∷ 32 ∷ []))
    (amplitude_of table station (83 ∷ 50 ∷ 32 ∷ 32 ∷ 32 ∷ []))

-- 02, No. 6: "The search works from the station's own lengths from now on"
unfoldable pub station_stride : Table → Station → ℕ
station_stride table station = stride_of station.strides (by_amplitudes tides_of table station)

-- the stride of 01's rule as it stood, whatever lengths the station has
unfoldable pub station_stride01 : Table → Station → ℕ
station_stride01 table station = by_amplitudes fixed_stride table station

-- ---- proved in proofs/strides/Usual.antt

-- "With 180, 30 and 360 every turn is what 01 gives": the stride is the same, for every table and station
abbrev pub UsualStride : Type 0
UsualStride = (table : Table) (station : Station) → station.strides ≡ usual_strides → station_stride table station ≡ station_stride01 table station
