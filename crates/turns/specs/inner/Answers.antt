-- Only inner contracts cite this: what the answer of a search stands for.
use Rattle.std.specs.Prelude.{ℕ, List, ℤ, Result, Ok, Err}
use Rattle.refusals.specs.Outcome.{Outcome, accepted, refused, number_of}
use Rattle.refusals.specs.declared.Refused.{Refused}
use Rattle.turns.specs.declared.search.Summary.{Summary}
use Rattle.turns.specs.Written.{TurnsFound, TurnsGiven}

abbrev pub returned_of : Result Summary Refused → Outcome TurnsFound
returned_of (Ok s) = accepted (record { count = s.count; high = s.high })
returned_of (Err e) = refused (number_of e.refusal) e.place

abbrev pub given_of : Result Summary Refused → List ℕ → List ℤ → TurnsGiven
given_of r minutes heights = record { returned = returned_of r; minutes = minutes; heights = heights }
