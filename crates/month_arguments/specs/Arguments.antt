-- 01, Arguments: V of a main and of a shallow constituent, in ticks.
use Rattle.std.specs.Prelude.{ℕ, List, [], ◌∷◌, map, ℤ, pos, ◌+ℤ◌, ◌-ℤ◌, ◌*ℤ◌, get_or}
use Rattle.angles.specs.Ticks.{centicycle}
use Rattle.angles.specs.Floor.{mod_turn}
use Rattle.table.specs.Table.{Main, Part, Shallow}
use Rattle.month_arguments.specs.Longitudes.{Longitudes, times}

-- "Lunar time at midnight is h - s."
abbrev pub lunar_time : ℕ → ℕ → ℤ
lunar_time h s = pos h -ℤ pos s

-- "(lunar time, s, h, p, N', p')"
abbrev pub astronomical : Longitudes → List ℤ
astronomical l = lunar_time l.h l.s ∷ pos l.s ∷ pos l.h ∷ pos l.p ∷ pos l.n' ∷ pos l.p' ∷ []

-- "V is the Doodson numbers times (lunar time, s, h, p, N', p'), plus phase, modulo T." The phase is in hundredths of a cycle.
unfoldable pub argument : Longitudes → List ℤ → ℤ → ℕ
argument l doodson phase = mod_turn (times doodson (astronomical l) +ℤ phase *ℤ pos centicycle)

abbrev pub main_argument : Longitudes → Main → ℕ
main_argument l m = argument l m.doodson m.phase

-- "A shallow V is the sum of its coefficients times its parts' V": from the mains' V, in card order.
-- (A part's position past the last main, which no accepted part has, counts as V 0.)
unfoldable pub sum_of_parts : List ℕ → List Part → ℤ
sum_of_parts vs [] = pos 0
sum_of_parts vs (part ∷ parts) = part.coefficient *ℤ pos (get_or vs part.main 0) +ℤ sum_of_parts vs parts

-- modulo T, as every V
unfoldable pub argument_from_parts : List ℕ → Shallow → ℕ
argument_from_parts vs s = mod_turn (sum_of_parts vs s.parts)

abbrev pub shallow_argument : Longitudes → List Main → Shallow → ℕ
shallow_argument l mains s = argument_from_parts (map (main_argument l) mains) s
