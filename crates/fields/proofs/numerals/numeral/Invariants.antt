use mathlib.Core.Path.{◌≡◌}
use Prim.Native.Nat.{min, ◌-◌, ◌≤◌}
use Rattle.columns.specs.Columns.{columns}
use Rattle.fields.specs.Numerals as spec
use Rattle.fields.specs.inner.Cap.{cap}
use Rattle.fields.proofs.numerals.numeral.Given as goal

abbrev pub invariant-loop-i : goal.invariant-loop-i
invariant-loop-i l = (l.v ≤ cap) × (min cap (spec.numeral l.v (columns l.field l.i (l.end - l.i))) ≡ min cap (spec.numeral l.before (columns l.field l.k (l.end - l.k))))
