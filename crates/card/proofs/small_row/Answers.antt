-- `card::small_row` meets its contract. The loop keeps that reading on from field k gives what reading the whole row gives.
use borrow.Author.Rules.{rules}
use native.Mathlib.Omega.{arith}
use native.Mathlib.Nat.{sub-zero}
use mathlib.Core.Path.{◌≡◌, refl, ap}
use Prim.Native.Nat.{ℕ, ◌<◌}
use lib.ListN.{length, take}
use mir.Syntax.{w8}
use mir.Val.{SFits}
use mir.ValLaws.{to_z-of_z}
use Rattle.card.specs.Formats.{row_field}
use Rattle.card.proofs.Ranges.{numbers_more, numbers-none, take-stored, row_small}
use Rattle.card.proofs.small_row.Goals as goal

pub loop-k-init : goal.loop-k-init
loop-k-init c =
    (omega arith, refl, rw (sub-zero c.args.count))

pub row_field-requires : goal.row_field-requires
row_field-requires c =
    (c.requires.0, omega (arith, c.loop-k-test.true, c.requires.1))

pub small_field-requires : goal.small_field-requires
small_field-requires c =
    rw c.row_field.ensures (row_small c.args.row c.loop-k.k)

pub loop-k-preserved : goal.loop-k-preserved
loop-k-preserved c =
    let f : SFits w8 c.in-Ok.value = search rules in
    let h : c.loop-k.k < length c.loop-k.values = omega arith in
    (omega arith, search rules, rw (to_z-of_z w8 c.in-Ok.value f, take-stored c.loop-k.values c.loop-k.k c.in-Ok.value h) (rw (numbers_more c.args.line.now (row_field c.args.row) (take c.loop-k.k c.loop-k.values) c.loop-k.k c.args.count c.loop-k-test.true, ← c.row_field.ensures, ← c.small_field.ensures, c.in-Ok.is) at c.loop-k.invariant.2))

pub returns-in-Err : goal.returns-in-Err
returns-in-Err c =
    record {
      values_value = rw (numbers_more c.args.line.now (row_field c.args.row) (take c.loop-k.k c.loop-k.values) c.loop-k.k c.args.count c.loop-k-test.true, ← c.row_field.ensures, ← c.small_field.ensures, c.in-Err.is) at c.loop-k.invariant.2;
      values_len = tt;
    }

pub returns : goal.returns
returns c =
    let e : c.args.count ≡ c.loop-k.k = omega arith in record {
      values_value = rw (ap (λ (k : ℕ). take k c.loop-k.values) e) (rw (numbers-none c.args.line.now (row_field c.args.row) (take c.loop-k.k c.loop-k.values) c.loop-k.k c.args.count c.loop-k-test.false) at c.loop-k.invariant.2);
      values_len = c.loop-k.invariant.1;
    }
