-- `calls::bookings::minutes_answer`: the minutes from place k on are asked what all are.
use Prim.Native.Nat.{◌+◌}
use mathlib.Core.Path.{◌≡◌}
use lib.ListN.{drop}
use Rattle.calls.specs.Bookings.{minutes_from}
use Rattle.calls.proofs.bookings.minutes_answer.Given as goal

abbrev pub invariant-loop-k : goal.invariant-loop-k
invariant-loop-k l = minutes_from l.last (l.k + 1) (drop l.k l.minutes) ≡ minutes_from l.last 1 l.minutes
