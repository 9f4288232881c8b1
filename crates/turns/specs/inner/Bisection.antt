-- Only inner contracts cite this: what halving a bracket promises.
-- Assumes nothing.
use Rattle.std.specs.Prelude.{ℕ, ◌+◌, ◌≤◌, ◌<◌, ◌≡◌, ℤ}
use Rattle.turns.specs.Cuts.{earlier_end, later_end, smaller}
use Rattle.turns.specs.declared.bisection.Bracket.{Bracket}
use Rattle.turns.specs.declared.bisection.Turned.{Turned}

-- a bracket of a minute or more, no later than an end, with the slopes at its ends
pub record BracketPre (slope : ℕ → ℤ) (end : ℕ) (b : Bracket) : Type 0 where
  pub some : 0 < b.length
  pub within : b.start + b.length ≤ end
  pub early : b.early ≡ slope b.start
  pub late : b.late ≡ slope (b.start + b.length)

-- the turn between the two ends that halving comes to, the later of them and the slope there
pub record TurnedPost (slope : ℕ → ℤ) (start length : ℕ) (r : Turned) : Type 0 where
  pub turn : r.turn ≡ smaller slope (earlier_end slope start length)
  pub later : r.later ≡ later_end slope start length
  pub there : r.slope ≡ slope r.later
