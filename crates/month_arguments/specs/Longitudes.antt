-- 01, Arguments: the five longitudes on a day. What follows from them takes the five as they are, however they arise.
use Rattle.std.specs.Prelude.{ℕ, ◌*◌, List, [], ◌∷◌, ℤ, pos, ◌+ℤ◌, ◌*ℤ◌, get_or}
use Rattle.angles.specs.Ticks.{ten_billionth}
use Rattle.angles.specs.Floor.{mod_turn}

-- "Each longitude is 78,840 × card one + 216 × d × card two (both in 10^-10 cycle), modulo T."
unfoldable pub longitude : ℤ → ℕ → ℕ → ℕ
longitude d card₁ card₂ = mod_turn (pos (ten_billionth * card₁) +ℤ pos 216 *ℤ d *ℤ pos card₂)

-- "moon s, sun h, lunar perigee p, negative of the ascending node N', solar perigee p'", in ticks
pub record Longitudes : Type 0 where
  pub s : ℕ
  pub h : ℕ
  pub p : ℕ
  pub n' : ℕ
  pub p' : ℕ

-- "(p, N', p')": those that satellites go by
abbrev pub nodal : Longitudes → List ℕ
nodal l = l.p ∷ l.n' ∷ l.p' ∷ []

-- the five on day d, from the numbers of the two longitude cards, in their order
unfoldable pub longitudes_on : ℤ → List ℕ → List ℕ → Longitudes
longitudes_on d card₁ card₂ = record { s = on 0; h = on 1; p = on 2; n' = on 3; p' = on 4 }
  where
    on : ℕ → ℕ
    on k = longitude d (get_or card₁ k 0) (get_or card₂ k 0)

-- Whole numbers times longitudes, added up: Doodson numbers for V, differences for a satellite's angle.
unfoldable pub times : List ℤ → List ℤ → ℤ
times [] angles = pos 0
times (n ∷ ns) [] = pos 0
times (n ∷ ns) (a ∷ angles) = n *ℤ a +ℤ times ns angles
