-- `fields::numerals::fixed_size` meets its contract. The tests in the definition's order, by the columns where digits and decimals end: `fixed-good`, `fixed-size`. Assumes nothing.
use native.Mathlib.Omega.{arith}
use mathlib.Core.Path.{refl, sym, ap, ◌∙◌}
use Prim.Native.Nat.{◌+◌, ◌-◌, ◌≤◌, ◌<◌}
use borrow.Author.Tests.{lt-ltb, le-ltb, le-leb, lt-leb}
use Rattle.std.specs.Prelude.{Some}
use Rattle.fields.proofs.numerals.Digits.{begins-within}
use Rattle.fields.proofs.numerals.Sizes.{fixed-good, fixed-size}
use lib.ListN.{length}
use Rattle.columns.specs.Bytes.{leading}
use Rattle.columns.specs.Columns.{columns}
use Rattle.fields.specs.Numerals.{digit}
use Rattle.fields.proofs.numerals.fixed_size.Goals as goal

pub overflow_add-point : goal.overflow_add-point
overflow_add-point c =
    omega (arith, begins-within _ c.args.field.now c.run_end-point.result c.args.end (sym c.begins.ensures ∙ c.if-begins.true))

pub returns-then-stop-k : goal.returns-then-stop-k
returns-then-stop-k c =
    let none : c.run_end-point.result - c.args.k + (c.run_end-stop.result - (c.run_end-point.result + 1)) ≤ 0 = omega arith in
    rw (
      fixed-good c.args.field.now c.args.k c.args.end c.run_end-point.result c.run_end-point.ensures c.run_end-stop.result c.args.decimals c.run_end-stop.ensures,
      ← c.begins.ensures,
      c.if-begins.true,
      le-ltb 0 (c.run_end-point.result - c.args.k + (c.run_end-stop.result - (c.run_end-point.result + 1))) none,
    )

pub returns-then-decimals-written : goal.returns-then-decimals-written
returns-then-decimals-written c =
    let some : 0 < c.run_end-point.result - c.args.k + (c.run_end-stop.result - (c.run_end-point.result + 1)) = omega arith in
    rw (
      fixed-good c.args.field.now c.args.k c.args.end c.run_end-point.result c.run_end-point.ensures c.run_end-stop.result c.args.decimals c.run_end-stop.ensures,
      ← c.begins.ensures,
      c.if-begins.true,
      lt-ltb 0 (c.run_end-point.result - c.args.k + (c.run_end-stop.result - (c.run_end-point.result + 1))) some,
      lt-leb (c.run_end-stop.result - (c.run_end-point.result + 1)) c.args.decimals c.if-decimals-written.true,
    )

pub returns-then-all_among : goal.returns-then-all_among
returns-then-all_among c =
    let some : 0 < c.run_end-point.result - c.args.k + (c.run_end-stop.result - (c.run_end-point.result + 1)) = omega arith in
    rw (
      fixed-good c.args.field.now c.args.k c.args.end c.run_end-point.result c.run_end-point.ensures c.run_end-stop.result c.args.decimals c.run_end-stop.ensures,
      ← c.begins.ensures,
      c.if-begins.true,
      lt-ltb 0 (c.run_end-point.result - c.args.k + (c.run_end-stop.result - (c.run_end-point.result + 1))) some,
      le-leb (c.run_end-stop.result - (c.run_end-point.result + 1)) c.args.decimals c.if-decimals-written.false,
      ← c.all_among.ensures,
      c.if-all_among.true,
      fixed-size c.args.field.now c.args.k c.args.end c.run_end-point.result c.run_end-point.ensures c.run_end-stop.result c.args.decimals c.run_end-stop.ensures,
    ) (ap Some c.fixed_digits.ensures)

pub returns-else-all_among : goal.returns-else-all_among
returns-else-all_among c =
    let some : 0 < c.run_end-point.result - c.args.k + (c.run_end-stop.result - (c.run_end-point.result + 1)) = omega arith in
    rw (
      fixed-good c.args.field.now c.args.k c.args.end c.run_end-point.result c.run_end-point.ensures c.run_end-stop.result c.args.decimals c.run_end-stop.ensures,
      ← c.begins.ensures,
      c.if-begins.true,
      lt-ltb 0 (c.run_end-point.result - c.args.k + (c.run_end-stop.result - (c.run_end-point.result + 1))) some,
      le-leb (c.run_end-stop.result - (c.run_end-point.result + 1)) c.args.decimals c.if-decimals-written.false,
      ← c.all_among.ensures,
      c.if-all_among.false,
    )

pub returns-else-begins : goal.returns-else-begins
returns-else-begins c =
    let stop = c.run_end-point.result + 1 + length (leading digit (columns c.args.field.now (c.run_end-point.result + 1) (c.args.end - (c.run_end-point.result + 1)))) in
    rw (fixed-good c.args.field.now c.args.k c.args.end c.run_end-point.result c.run_end-point.ensures stop c.args.decimals refl, ← c.begins.ensures, c.if-begins.false)
