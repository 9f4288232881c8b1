-- 01, "Heights and turns": what a search for turns writes and returns, and refusal 10.
-- Assumes nothing.
use Rattle.std.specs.Prelude.{ℕ, Bool, ◌||◌, List, ◌++◌, map, ltb, ℤ, length, drop}
use Rattle.refusals.specs.Outcome.{Outcome, accepted, refused, refuse_if}
use Rattle.turns.specs.Search.{Turn, first_high, minutes_of}

-- "returned: how many, and whether the first is high"
pub record TurnsFound : Type 0 where
  pub count : ℕ
  pub high : Bool

-- what a search for turns returns, and the two lent buffers as it leaves them
pub record TurnsGiven : Type 0 where
  pub returned : Outcome TurnsFound
  pub minutes : List ℕ
  pub heights : List ℤ

-- "from the front, the rest unchanged"
abbrev pub from_front : {A : Type 0} → List A → List A → List A
from_front new old = new ++ drop (length new) old

-- "Heights, series, turns and every refused call leave [..]": where an outcome is refused, both buffers are as they were
abbrev pub unless_refused : {A : Type 0} → Outcome A → List ℕ → List ℤ → (A → TurnsGiven) → TurnsGiven
unless_refused (accepted a) minutes heights next = next a
unless_refused (refused number place) minutes heights next = record { returned = refused number place; minutes = minutes; heights = heights }

-- 10, "more turns than either lent buffer holds"
abbrev pub too_many : List Turn → ℕ → ℕ → Bool
too_many turns minutes heights = ltb minutes (length turns) || ltb heights (length turns)

-- "Written: minutes, heights" (of each turn's minute), "from the front"
unfoldable pub given : (ℕ → ℤ) → List Turn → List ℕ → List ℤ → TurnsGiven
given height turns minutes heights =
    unless_refused (refuse_if (too_many turns (length minutes) (length heights)) 10 0 (accepted turns)) minutes heights λ turns.
    (record {
      returned = accepted (record { count = length turns; high = first_high turns });
      minutes = from_front (minutes_of turns) minutes;
      heights = from_front (map height (minutes_of turns)) heights;
    })
