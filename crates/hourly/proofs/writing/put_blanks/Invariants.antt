-- `hourly::writing::put_blanks`: the bytes so far are blanks, and those behind them as they were.
use mathlib.Core.Path.{◌≡◌}
use mathlib.Core.List.{◌++◌}
use lib.ListN.{drop, replicate}
use Rattle.hourly.proofs.writing.put_blanks.Given as goal

abbrev pub invariant-loop-byte : goal.invariant-loop-byte
invariant-loop-byte l = l.byte-items ≡ replicate l.byte-index 32 ++ drop l.byte-index l.initial.byte-items
