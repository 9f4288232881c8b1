-- The turns of a whole month: those of 01's search over it, which the clock's own call gives, and at most three behind them. Assumes nothing.
use Rattle.std.specs.Prelude.{ℕ, ◌+◌, ◌≤◌, List, ◌≡◌, ℤ, Result, Ok, Err}
use Rattle.clock.specs.declared.Clock.{Clock}
use Rattle.clock.specs.Returned.{turns_returned}
use Rattle.clock.specs.Posts.{TurnsPost}
use Rattle.page.specs.declared.shown.Turns.{Turns}
use Rattle.refusals.specs.declared.Refused.{Refused}
use Rattle.turns.specs.declared.search.Summary.{Summary}
use Rattle.monthturns.specs.inner.Kept.{Kept}

-- so many turns and at most three more
pub record More (count : ℕ) (answer : Result Summary Refused) : Type 0 where
  pub all : Summary
  pub is : answer ≡ Ok all
  pub least : count ≤ all.count
  pub most : all.count ≤ count + 3

-- an answer beside the clock's own: the same refusal, or its turns and at most three more
abbrev pub Beside : Result Summary Refused → Result Summary Refused → Type 0
Beside (Ok found) answer = More found.count answer
Beside (Err refused) answer = answer ≡ Err refused

-- how many turns an answer says
abbrev pub count_of : Result Summary Refused → ℕ
count_of (Ok found) = found.count
count_of (Err refused) = 0

-- the clock's own answer over the whole month and what it writes, of which the first turns are kept
pub record MonthTurns (c : Clock) (last : ℕ) (minutes minutes_left : List ℕ) (heights heights_left : List ℤ) (answer : Result Summary Refused) : Type 0 where
  pub own : Result Summary Refused
  pub minutes_own : List ℕ
  pub heights_own : List ℤ
  pub asked : TurnsPost c 0 last minutes minutes_own heights heights_own (turns_returned own)
  pub beside : Beside own answer
  pub kept : Kept (count_of own) minutes_own minutes_left heights_own heights_left

-- the clock's answer that found turns stand for
abbrev pub answered : Result Turns Refused → Result Summary Refused
answered (Ok turns) = Ok (record { count = turns.count; high = turns.first })
answered (Err refused) = Err refused

-- the rows that are handed on: those of the turns, and none with a refusal
abbrev pub HandedOn : Result Turns Refused → List ℕ → List ℤ → Type 0
HandedOn (Ok turns) minutes heights = (turns.minutes ≡ minutes) × (turns.heights ≡ heights)
HandedOn (Err refused) minutes heights = Unit {0}

-- a month's turns as they are found: those of two rows that were lent for them
pub record FoundTurns (c : Clock) (last : ℕ) (found : Result Turns Refused) : Type 0 where
  pub minutes : List ℕ
  pub minutes_left : List ℕ
  pub heights : List ℤ
  pub heights_left : List ℤ
  pub turns : MonthTurns c last minutes minutes_left heights heights_left (answered found)
  pub handed : HandedOn found minutes_left heights_left
