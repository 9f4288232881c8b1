-- 01, "Checked against": the cases marked *, of the definitions, as one list. Each says what a definition gives and what 01 prints.
-- Assumes nothing.
use Prim.{Unit}
use Rattle.std.specs.Prelude.{◌≡◌, List, [], ◌∷◌, ℕ, ◌+◌, ◌*◌, ℤ, pos, neg_ℤ, ◌-ℤ◌}
use Rattle.angles.specs.Ticks.{ten_billionth}
use Rattle.angles.specs.Floor.{mod_turn}
use Rattle.cosine.specs.Fixed.{step, entry}
use Rattle.calendar.specs.Calendar.{day_count}
use Rattle.month_arguments.specs.Longitudes.{Longitudes, longitudes_on, nodal}
use Rattle.month_arguments.specs.Arguments.{argument}
use Rattle.month_prepared.specs.Prepared.{Constituent}
use Rattle.month_satellites.specs.Latitude.{factors_at}
use Rattle.month_satellites.specs.Satellites.{main_pair}
use Rattle.month.specs.Month.{constituent}
use Rattle.heights.specs.Angle.{angle}
use Rattle.heights.specs.Height.{height_at}
use Rattle.station.specs.Strides.{usual_strides}
use Rattle.turns.specs.Stride.{stride_of, tides_by}

pub data Case : Type 0 where
  ◌gives◌ : ℤ → ℤ → Case

infix 4 ◌gives◌
-- C(i)
abbrev C : ℕ → ℤ
C i = entry step i

-- "With 002's cards at 00:00 on 1 January 1976": its two longitude cards
abbrev pub longitudes1976 : Longitudes
longitudes1976 =
    longitudes_on (day_count 1976 1 1) (7_428_797_055 ∷ 7_771_900_329 ∷ 5_187_051_308 ∷ 3_631_582_592 ∷ 7_847_990_160 ∷ [])
    (133_594_019_864 ∷ 9_993_368_945 ∷ 1_129_517_942 ∷ 536_893_056 ∷ 477_414 ∷ [])

-- V of a constituent card: the Doodson numbers, and the phase in hundredths of a cycle
abbrev pub argument1976 : List ℤ → ℤ → ℤ
argument1976 doodson phase = pos (argument longitudes1976 doodson phase)

-- ".., in cycles: ": that many 10^-10 cycle
abbrev cycles : ℕ → ℤ
cycles decimals = pos (decimals * ten_billionth)

-- the ticks that a constituent advances from a minute to the next, its frequency in 10^-10 cycle an hour: the later angle less the earlier
abbrev advance : ℕ → ℕ → ℤ
advance frequency minute = pos (mod_turn (pos (angle 0 0 frequency (minute + 1)) -ℤ pos (angle 0 0 frequency minute)))

-- Z0's record in a month: frequency, Doodson numbers and phase are 0, and there is no satellite
abbrev pub Z0 : ℕ → ℕ → Constituent
Z0 amplitude lag =
    constituent (0 ∷ []) (record { place = 0; amplitude = amplitude; phase = lag })
    (argument longitudes1976 (pos 0 ∷ pos 0 ∷ pos 0 ∷ pos 0 ∷ pos 0 ∷ pos 0 ∷ []) (pos 0))
    (main_pair (factors_at (pos 0)) (nodal longitudes1976) [])

-- "Z0 alone, amplitude A": the height at a minute, the lag in hundredths of a degree
abbrev alone : ℕ → ℕ → ℕ → ℤ
alone amplitude lag minute = height_at (Z0 amplitude lag ∷ []) minute

-- "K1+O1 against M2+S2"; 02, No. 6: "With 180, 30 and 360 every turn is what 01 gives."
abbrev ◌against◌ : ℕ → ℕ → ℤ
daily against twice = pos (stride_of usual_strides (tides_by daily twice))

infix 5 ◌against◌
-- The list, for every amplitude A, and heights and advances at every minute.
unfoldable pub starred : ℕ → ℕ → List Case
starred A minute =
    -- "C(0) = 1,073,741,824", and two more; 02, No. 5: "The table cases of 01 move to entries 0, 1,024 and 2,048 with the same numbers."
    (C 0 gives pos 1_073_741_824)
    ∷ (C 1_024 gives pos 759_250_125)
    ∷ (C 2_048 gives pos 0)
    -- "With 002's cards at 00:00 on 1 January 1976, in cycles: M2 0.0686206548, K1 0.0271900329, O1 0.0414306219."
    ∷ (argument1976 (pos 2 ∷ pos 0 ∷ pos 0 ∷ pos 0 ∷ pos 0 ∷ pos 0 ∷ []) (pos 0) gives cycles 686_206_548)
    ∷ (argument1976 (pos 1 ∷ pos 1 ∷ pos 0 ∷ pos 0 ∷ pos 0 ∷ pos 0 ∷ []) (neg_ℤ (pos 75)) gives cycles 271_900_329)
    ∷ (argument1976 (pos 1 ∷ neg_ℤ (pos 1) ∷ pos 0 ∷ pos 0 ∷ pos 0 ∷ pos 0 ∷ []) (neg_ℤ (pos 25)) gives cycles 414_306_219)
    -- "M2, frequency 0.0805114007, advances 1,057,919,805,198 ticks a minute."
    ∷ (advance 805_114_007 minute gives pos 1_057_919_805_198)
    -- "1 January 1950 is day -9,496; 16 December 2049 is 27,013"
    ∷ (day_count 1950 1 1 gives neg_ℤ (pos 9_496))
    ∷ (day_count 2049 12 16 gives pos 27_013)
    -- "Z0 alone, amplitude A: lag 0 gives A, 180.00 gives -A, 90.00 gives 0"
    ∷ (alone A 0 minute gives pos A)
    ∷ (alone A 18_000 minute gives neg_ℤ (pos A))
    ∷ (alone A 9_000 minute gives pos 0)
    -- "K1+O1 against M2+S2: 100, 400 gives 180; 101, 400 gives 30; 301, 100 gives 360"
    ∷ (100 against 400 gives pos 180)
    ∷ (101 against 400 gives pos 30)
    ∷ (301 against 100 gives pos 360)
    ∷ []

-- all of them together
abbrev pub AllHold : List Case → Type 0
AllHold [] = Unit {0}
AllHold ((got gives want) ∷ cases) = (got ≡ want) × AllHold cases

-- what is proved (proofs/cases/Starred.antt)
abbrev pub StarredHold : Type 0
StarredHold = (A minute : ℕ) → AllHold (starred A minute)
