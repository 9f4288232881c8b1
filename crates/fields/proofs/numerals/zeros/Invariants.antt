use mathlib.Core.Path.{◌≡◌}
use Prim.Native.Nat.{min, ◌-◌, ◌≤◌}
use lib.ListN.{replicate}
use Rattle.fields.specs.Numerals as spec
use Rattle.fields.specs.inner.Cap.{cap}
use Rattle.fields.proofs.numerals.zeros.Given as goal

abbrev pub invariant-loop : goal.invariant-loop
invariant-loop l = (l.v ≤ cap) × (min cap (spec.numeral l.v (replicate (l.n - l.counter) 48)) ≡ min cap (spec.numeral l.before (replicate l.n 48)))
