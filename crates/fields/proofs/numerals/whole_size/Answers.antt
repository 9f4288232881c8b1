-- `fields::numerals::whole_size` meets its contract. The tests in the definition's order, by the column where the digits end: `whole-good`, `whole-size`. Assumes nothing.
use native.Mathlib.Omega.{arith}
use mathlib.Core.Path.{ap}
use Prim.Native.Nat.{◌-◌, ◌≤◌, ◌<◌}
use borrow.Author.Tests.{lt-ltb, le-ltb}
use Rattle.std.specs.Prelude.{Some}
use Rattle.fields.proofs.numerals.Sizes.{whole-good, whole-size}
use Rattle.fields.proofs.numerals.whole_size.Goals as goal

pub returns-then-last-k : goal.returns-then-last-k
returns-then-last-k c =
    let none : c.run_end-last.result - c.args.k ≤ 0 = omega arith in
    rw (whole-good c.args.field.now c.args.k c.args.end c.run_end-last.result c.run_end-last.ensures, le-ltb 0 (c.run_end-last.result - c.args.k) none)

pub returns-then-all_among : goal.returns-then-all_among
returns-then-all_among c =
    let some : 0 < c.run_end-last.result - c.args.k = omega arith in
    rw (
      whole-good c.args.field.now c.args.k c.args.end c.run_end-last.result c.run_end-last.ensures,
      lt-ltb 0 (c.run_end-last.result - c.args.k) some,
      ← c.all_among.ensures,
      c.if-all_among.true,
      whole-size c.args.field.now c.args.k c.args.end c.run_end-last.result c.run_end-last.ensures,
    ) (ap Some c.numeral.ensures)

pub returns : goal.returns
returns c =
    let some : 0 < c.run_end-last.result - c.args.k = omega arith in
    rw (whole-good c.args.field.now c.args.k c.args.end c.run_end-last.result c.run_end-last.ensures, lt-ltb 0 (c.run_end-last.result - c.args.k) some, ← c.all_among.ensures, c.if-all_among.false)
