-- Only inner contracts cite this: what the functions of the search promise.
-- Assumes nothing.
use Rattle.std.specs.Prelude.{ℕ, ◌≤◌, ◌<◌, ◌≡◌, List, [], ◌∷◌, ℤ, length, get_or, take, Option, None, Some, IfSome}
use Rattle.limits.specs.Limits.{most_stride}
use Rattle.turns.specs.Search.{Turn, turns_of, first_high, minutes_of}
use Rattle.turns.specs.Written.{from_front}
use Rattle.turns.specs.declared.search.Next.{Next}
use Rattle.turns.specs.declared.search.Reach.{Reach}
use Rattle.turns.specs.declared.search.Summary.{Summary}

-- strides of a minute to half a day, from a first minute to a last that is no later than the end of the months
pub record Reaches (end : ℕ) (reach : Reach) : Type 0 where
  pub some : 0 < reach.stride
  pub short : reach.stride ≤ most_stride
  pub order : reach.first ≤ reach.last
  pub within : reach.last ≤ end

-- the turns from a minute on: the next one and those from where the search resumes, or none
abbrev pub onwards : (ℕ → ℤ) → ℕ → ℕ → Option Next → List Turn
onwards slope stride last None = []
onwards slope stride last (Some n) = record { minute = n.turn; high = n.high } ∷ turns_of slope stride n.later last

-- a turn no later than a last minute, as the search resumes from it
pub record IsNext (slope : ℕ → ℤ) (last : ℕ) (n : Next) : Type 0 where
  pub turn : n.turn ≤ last
  pub later : n.later ≤ last
  pub there : n.slope ≡ slope n.later

-- the next turn from a minute on, or none
pub record NextPost (slope : ℕ → ℤ) (stride last minute : ℕ) (r : Option Next) : Type 0 where
  pub turns : turns_of slope stride minute last ≡ onwards slope stride last r
  pub next : IfSome r (IsNext slope last)

-- minutes no later than a last one
abbrev pub Upto : ℕ → List ℕ → Type 0
Upto last minutes = (k : ℕ) → k < length minutes → get_or minutes k 0 ≤ last

-- all turns: how many, whether the first is high, and their minutes kept, as many as there are places
pub record FoundPost (turns : List Turn) (before after : List ℕ) (r : Summary) : Type 0 where
  pub count : r.count ≡ length turns
  pub high : r.high ≡ first_high turns
  pub kept : after ≡ from_front (take (length before) (minutes_of turns)) before
