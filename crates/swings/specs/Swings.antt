-- How far the water moves from turn to turn, and which turns stand on a day. Assumes nothing.
use Rattle.std.specs.Prelude.{ℕ, zero, suc, ◌+◌, ◌-◌, ◌*◌, ◌/◌, ◌%◌, max, Bool, cond, not, List, eqb, leb, ltb, ℤ, pos, get_or}
use Rattle.drawing_plots.specs.Heights.{raised}

-- how far two heights lie apart, as a drawing counts them: one of the two differences is 0
unfoldable pub apart : ℤ → ℤ → ℕ
apart a b = (raised a - raised b) + (raised b - raised a)

-- the height of a turn, of a row of heights
abbrev pub height_at : List ℤ → ℕ → ℤ
height_at heights i = get_or heights i (pos 0)

-- the rise or fall that ends at turn i of so many; at the first turn the one that begins there; none where there is but one turn
unfoldable pub swing : List ℤ → ℕ → ℕ → ℕ
swing heights count i =
    cond (ltb count 2) 0
    (cond (ltb i 1) (apart (height_at heights 0) (height_at heights 1)) (apart (height_at heights (i - 1)) (height_at heights i)))

-- the largest swing of n turns from one on
unfoldable pub largest_swing : List ℤ → ℕ → ℕ → ℕ → ℕ
largest_swing heights count from zero = 0
largest_swing heights count from (suc n) = max (largest_swing heights count from n) (swing heights count (from + n))

-- a swing in tenths of the largest, rounded, a half up
abbrev pub bar_length : ℕ → ℕ → ℕ
bar_length swing largest = cond (eqb largest 0) 0 ((20 * swing + largest) / (2 * largest))

-- high and low waters alternate
abbrev pub is_high : Bool → ℕ → Bool
is_high first i = cond (eqb (i % 2) 0) first (not first)

-- the first of n turns, from one on, that stands at a minute or behind it; the turn behind them where none does
unfoldable pub turn_from : List ℕ → ℕ → ℕ → ℕ → ℕ
turn_from minutes minute from zero = from
turn_from minutes minute from (suc n) = cond (leb minute (get_or minutes from 0)) from (turn_from minutes minute (from + 1) n)

-- where the turns of a day end, from the turn on with which they begin: at the first one at or behind the day's end, that is, day × 1,440.
-- A turn at the month's last minute stands on its last day, so that the last day has all that are left.
abbrev pub day_end : List ℕ → ℕ → ℕ → ℕ → ℕ → ℕ
day_end minutes from count day days = cond (leb days day) count (turn_from minutes (day * 1_440) from (count - from))
