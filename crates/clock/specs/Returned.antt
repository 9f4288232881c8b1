-- 01: what a height and turns return, in its own numbers and values, for each answer of the code.
-- Assumes nothing.
use Rattle.std.specs.Prelude.{ℤ, Result, Ok, Err}
use Rattle.refusals.specs.Outcome.{Outcome, accepted, refused, number_of, outcome_of}
use Rattle.refusals.specs.declared.Refused.{Refused}
use Rattle.turns.specs.Written.{TurnsFound}
use Rattle.turns.specs.declared.search.Summary.{Summary}

abbrev pub height_returned : Result ℤ Refused → Outcome ℤ
height_returned = outcome_of

abbrev pub turns_returned : Result Summary Refused → Outcome TurnsFound
turns_returned (Ok found) = accepted (record { count = found.count; high = found.high })
turns_returned (Err e) = refused (number_of e.refusal) e.place
