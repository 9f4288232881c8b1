-- `fields::within` meets its contract. The two tests of order; at most is not above: `le_z-lt_z`. Assumes nothing.
use mathlib.Core.Path.{◌≡◌, ap}
use mathlib.Core.Bool.{and-false}
use Rattle.fields.specs.Number.{ranged}
use Rattle.fields.proofs.Ranges.{le_z-lt_z}
use lib.Signed.{lt_z, le_z}
use mathlib.Core.Bool.{true, false}
use mir.Syntax.{w64}
use mir.ValLaws.{to_z-of_z}
use Rattle.std.specs.Prelude.{Ok}
use Rattle.fields.proofs.within.Goals as goal
use Rattle.fields.proofs.within.Goals.{then-z-low-via-then-z-low, then-z-low-via-else-z-low+then-high-z}

pub returns-then-z-low : goal.returns-then-z-low
unfolding ranged
returns-then-z-low c =
    elim c.then-z-low.branch [
      | then-z-low-via-then-z-low w ↦
          let t : lt_z c.args.z c.args.low ≡ true = rw (to_z-of_z w64 c.args.z c.ranges.z, to_z-of_z w64 c.args.low c.ranges.low) at w.if-z-low.true in
          rw (le_z-lt_z c.args.low c.args.z, t)
      | then-z-low-via-else-z-low+then-high-z w ↦
          let t : lt_z c.args.high c.args.z ≡ true = rw (to_z-of_z w64 c.args.high c.ranges.high, to_z-of_z w64 c.args.z c.ranges.z) at w.if-high-z.true in
          rw (le_z-lt_z c.args.z c.args.high, t, and-false (le_z c.args.low c.args.z))
    ]

pub returns : goal.returns
unfolding ranged
returns c =
    let t : lt_z c.args.z c.args.low ≡ false = rw (to_z-of_z w64 c.args.z c.ranges.z, to_z-of_z w64 c.args.low c.ranges.low) at c.if-z-low.false in
    let u : lt_z c.args.high c.args.z ≡ false = rw (to_z-of_z w64 c.args.high c.ranges.high, to_z-of_z w64 c.args.z c.ranges.z) at c.if-high-z.false in
    rw (le_z-lt_z c.args.low c.args.z, t, le_z-lt_z c.args.z c.args.high, u) (ap Ok (to_z-of_z w64 c.args.z c.ranges.z))
