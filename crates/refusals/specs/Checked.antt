-- 01, "Turned down by the input": a thing that is asked before its place is known.
-- Assumes nothing.
use Rattle.std.specs.Prelude.{ℕ}
use Rattle.refusals.specs.Outcome.{Outcome, accepted, refused}

-- a thing, or what it is refused for; the place is known to whom asks
pub data Checked (R A : Type 0) : Type 0 where
  good : A → Checked R A
  bad : R → Checked R A

-- one thing, and then what is asked next
infixl 20 ◌>>=◌
abbrev pub ◌>>=◌ : {R A B : Type 0} → Checked R A → (A → Checked R B) → Checked R B
good a >>= next = next a
bad r >>= next = bad r

-- "A refusal returns its number and a place"
abbrev pub at_place : {A : Type 0} → ℕ → Checked ℕ A → Outcome A
at_place place (good a) = accepted a
at_place place (bad number) = refused number place
