-- One turn more, for the largest swing of some turns and for the first turn behind a minute. Rests on the definitions' clauses only.
use Prim.Native.Nat.{ℕ, suc, ◌+◌, ◌-◌, ◌<◌, ◌≤◌, max}
use mathlib.Core.Path.{◌≡◌}
use mathlib.Core.Bool.{cond}
use mathlib.Core.List.{List}
use native.Mathlib.Omega.{arith}
use lib.Dec.{leb}
use lib.IntN.{ℤ}
use lib.ListN.{get_or}
use Rattle.swings.specs.Swings.{swing, largest_swing, turn_from}

-- the swings up to before turn i, and the one at i
pub largest-more : (heights : List ℤ) (count from i : ℕ) → from ≤ i → largest_swing heights count from (i + 1 - from) ≡ max (largest_swing heights count from (i - from)) (swing heights count i)
unfolding largest_swing
largest-more heights count from i h =
    let more : i + 1 - from ≡ suc (i - from) = omega arith in
    let at : from + (i - from) ≡ i = omega arith in
    rw (more, at)

-- the turns from i on are turn i and those behind it
pub turn_more : (minutes : List ℕ) (minute i count : ℕ) → i < count → turn_from minutes minute i (count - i) ≡ cond (leb minute (get_or minutes i 0)) i (turn_from minutes minute (i + 1) (count - (i + 1)))
unfolding turn_from
turn_more minutes minute i count h =
    let more : count - i ≡ suc (count - (i + 1)) = omega arith in
    rw more

pub turn-none : (minutes : List ℕ) (minute i count : ℕ) → count ≤ i → turn_from minutes minute i (count - i) ≡ i
unfolding turn_from
turn-none minutes minute i count h =
    let none : count - i ≡ 0 = omega arith in
    rw none
