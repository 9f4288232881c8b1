-- Division that rounds down, and the remainder modulo T that goes with it.
-- Assumes nothing.
use Rattle.std.specs.Prelude.{ℕ, ◌-◌, ◌/◌, ◌%◌, ℤ, pos, negsuc}
use Rattle.angles.specs.Ticks.{turn}

-- "Floors go downward." floor(z / n): of a / n for z = a, and of -(a + 1) / n for z = -(a + 1)
abbrev pub floor_div : ℤ → ℕ → ℤ
floor_div (pos a) n = pos (a / n)
floor_div (negsuc a) n = negsuc (a / n)

-- ".. modulo T": z less T times floor(z / T), from 0 to T - 1
abbrev pub mod_turn : ℤ → ℕ
mod_turn (pos a) = a % turn
mod_turn (negsuc a) = turn - 1 - a % turn
