use mathlib.Core.Path.{◌≡◌}
use Prim.Native.Nat.{ℕ, ◌+◌, ◌<◌}
use lib.ListN.{get_or}
use Rattle.calendar.specs.Calendar.{month_minutes}
use Rattle.year.proofs.months_of.Given as goal

abbrev pub invariant-loop-m : goal.invariant-loop-m
invariant-loop-m l = (j : ℕ) → j < l.m → get_or l.last-items j 0 ≡ month_minutes l.year (j + 1)
