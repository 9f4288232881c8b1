-- 01, "Heights and turns": a constituent's angle at a minute.
-- Assumes nothing.
use Rattle.std.specs.Prelude.{ℕ, ◌*◌, pos, ◌+ℤ◌, ◌-ℤ◌, ◌*ℤ◌}
use Rattle.angles.specs.Ticks.{centidegree}
use Rattle.angles.specs.Floor.{mod_turn}
use Rattle.month_prepared.specs.Prepared.{Constituent}

-- "A constituent's angle is V - lag + 1,314 × frequency (10^-10 cycle an hour) × (minute - 21,600)", modulo T;
-- V in ticks, the lag in hundredths of a degree
unfoldable pub angle : ℕ → ℕ → ℕ → ℕ → ℕ
angle v lag frequency minute =
    mod_turn (pos v -ℤ pos (lag * centidegree) +ℤ pos (1_314 * frequency) *ℤ (pos minute -ℤ pos 21_600))

abbrev pub angle_at : Constituent → ℕ → ℕ
angle_at c minute = angle c.argument c.lag c.frequency minute
