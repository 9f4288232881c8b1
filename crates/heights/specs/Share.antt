-- 01, "Heights and turns": a constituent's share at an angle.
-- Assumes nothing.
use Rattle.std.specs.Prelude.{ℕ, ◌^◌, ℤ, ◌-ℤ◌, ◌*ℤ◌}
use Rattle.angles.specs.Floor.{floor_div}
use Rattle.cosine.specs.Fixed.{fixed_cosine, fixed_sine}

-- "Its share is floor((P × cosine - Q × sine)/2^30)", of the fixed cosine and sine at the angle
unfoldable pub share : ℤ → ℤ → ℕ → ℤ
share p q angle = floor_div (p *ℤ fixed_cosine angle -ℤ q *ℤ fixed_sine angle) (2 ^ 30)
