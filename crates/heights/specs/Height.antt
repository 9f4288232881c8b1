-- 01, "Heights and turns": the sum of the shares and the height at a minute.
-- Assumes nothing.
use Rattle.std.specs.Prelude.{ℕ, List, [], ◌∷◌, ℤ, pos, ◌+ℤ◌}
use Rattle.angles.specs.Floor.{floor_div}
use Rattle.month_prepared.specs.Prepared.{Constituent, Month}
use Rattle.month_prepared.specs.Months.{at_owner}
use Rattle.heights.specs.Angle.{angle_at}
use Rattle.heights.specs.Share.{share}

-- "sum of shares", at a minute
unfoldable pub sum_of_shares : List Constituent → ℕ → ℤ
sum_of_shares [] minute = pos 0
sum_of_shares (c ∷ cs) minute = share c.p c.q (angle_at c minute) +ℤ sum_of_shares cs minute

-- "the height is floor((sum of shares + 2,048)/4,096) tenths of a millimetre"
unfoldable pub height_at : List Constituent → ℕ → ℤ
height_at cs minute = floor_div (sum_of_shares cs minute +ℤ pos 2_048) 4_096

-- 02, No. 1: "Each month uses its own weights": the height at a minute of months that follow one another
abbrev pub height_over : List Month → ℕ → ℤ
height_over months = at_owner height_at months
