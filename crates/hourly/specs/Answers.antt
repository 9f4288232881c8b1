-- 01: what the call returns, in its own numbers and values, for each answer of the code.
-- Assumes nothing.
use Rattle.std.specs.Prelude.{ℕ, Result}
use Rattle.refusals.specs.Outcome.{Outcome, outcome_of}
use Rattle.refusals.specs.declared.Refused.{Refused}

-- how many bytes the cards take, or the refusal
abbrev pub cards_returned : Result ℕ Refused → Outcome ℕ
cards_returned = outcome_of
