-- The search on slopes that fall evenly. By computing. Assumes nothing.
use mathlib.Core.Path.{◌≡◌, refl}
use mathlib.Core.Bool.{true}
use mathlib.Core.List.{[], ◌∷◌}
use Prim.Native.Nat.{ℕ, ◌*◌}
use lib.IntN.{sub_ℕ}
use Rattle.turns.specs.Sense.{rising, differ}
use Rattle.turns.specs.Cuts.{cut_from}
use Rattle.turns.specs.Search.{turns_from, turns_of}

-- the slope 10 - minute: 0, which counts as rising, at minute 10
pub zero-rises : turns_of (λ (m : ℕ). sub_ℕ 10 m) 4 6 14 ≡ record { minute = 10; high = true } ∷ []
unfolding turns_from cut_from differ rising
zero-rises = refl

-- a stride of one minute is not cut
pub stride-of-one : turns_of (λ (m : ℕ). sub_ℕ 10 m) 1 6 14 ≡ record { minute = 10; high = true } ∷ []
unfolding turns_from cut_from differ rising
stride-of-one = refl

-- the slope 21 - 2 × minute: 1 at minute 10, -1 at 11
pub earlier-if-equal : turns_of (λ (m : ℕ). sub_ℕ 21 (2 * m)) 4 6 14 ≡ record { minute = 10; high = true } ∷ []
unfolding turns_from cut_from differ rising
earlier-if-equal = refl

-- the stride from 8 to 12 would pass the last minute
pub past-the-last : turns_of (λ (m : ℕ). sub_ℕ 10 m) 4 4 11 ≡ []
unfolding turns_from cut_from differ rising
past-the-last = refl
