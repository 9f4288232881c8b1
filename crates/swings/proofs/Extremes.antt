-- One turn more, for the highest or the lowest of some turns: it is the new one, or the one so far stays. Rests on the definitions' clauses only.
use Prim.Native.Nat.{ℕ, suc, ◌+◌, ◌-◌, ◌≤◌}
use mathlib.Core.Path.{◌≡◌}
use mathlib.Core.Bool.{Bool, cond}
use mathlib.Core.List.{List}
use native.Mathlib.Omega.{arith}
use lib.IntN.{ℤ}
use Rattle.swings.specs.Months.{raised_at, is_beyond, extreme_turn}

-- the one up to before turn i, or i itself
pub extreme-more : (high : Bool) (heights : List ℤ) (from i : ℕ) → from ≤ i
    → extreme_turn high heights from (i + 1 - from) ≡ cond (is_beyond high (raised_at heights i) (raised_at heights (extreme_turn high heights from (i - from)))) i (extreme_turn high heights from (i - from))
unfolding extreme_turn
extreme-more high heights from i h =
    let more : i + 1 - from ≡ suc (i - from) = omega arith in
    let at : from + (i - from) ≡ i = omega arith in
    rw (more, at)

-- by whether turn i lies beyond the best so far
pub extreme-next : (high : Bool) (heights : List ℤ) (from i : ℕ) {best x y : ℕ} {t : Bool} → from ≤ i → best ≡ extreme_turn high heights from (i - from) → x ≡ raised_at heights i → y ≡ raised_at heights best → t ≡ is_beyond high x y
    → cond t i best ≡ extreme_turn high heights from (i + 1 - from)
extreme-next high heights from i {best} {x} {y} {t} h e f g l = rw (extreme-more high heights from i h, ← e, ← f, ← g, ← l)
