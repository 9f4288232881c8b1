-- `hourly::writing::put_number` meets its contract: blanks, minus and digits (`negative-stored`), or a number that is not negative.
-- Assumes nothing.
use mathlib.Core.Path.{◌≡◌, ap, ◌∙◌}
use mathlib.Core.Bool.{true}
use Prim.Native.Nat.{ℕ, ◌+◌, ◌≤◌}
use native.Mathlib.Omega.{arith}
use lib.IntN.{ℤ, pos, nat_abs}
use lib.ListN.{length, length-set}
use lib.Seq.{sets}
use lib.Signed.{lt_z}
use mir.Syntax.{w64}
use mir.Val.{SFits, to_z, of_z}
use mir.ValLaws.{to_z-of_z}
use Rattle.hourly.specs.inner.Fields.{Fitting}
use Rattle.hourly.specs.Card.{value}
use Rattle.hourly.specs.Writing.{decimal, entry_written}
use Rattle.hourly.proofs.writing.Fields.{negative-stored, negative-room, not_negative}
use Rattle.hourly.proofs.writing.put_number.Goals as goal

-- the size is that of the number, and a negative number leaves a place for the minus
module _ (number : ℤ) (fits : SFits w64 number) where
  size_is : (size : ℕ) → size ≡ nat_abs (to_z w64 (of_z w64 number)) → size ≡ nat_abs number
  size_is size e = e ∙ ap nat_abs (to_z-of_z w64 number fits)

  negative : lt_z (to_z w64 (of_z w64 number)) (pos 0) ≡ true → lt_z number (pos 0) ≡ true
  negative h = rw (to_z-of_z w64 number fits) at h

  room : (width size : ℕ) → Fitting width number → size ≡ nat_abs (to_z w64 (of_z w64 number)) → lt_z (to_z w64 (of_z w64 number)) (pos 0) ≡ true → length (decimal width size) + 1 ≤ width
  room width size fitting e h = rw (size_is size e) (negative-room width number (negative h) fitting)

pub overflow_sub-blanks : goal.overflow_sub-blanks
overflow_sub-blanks c =
    omega (arith, room c.args.number c.ranges.number c.args.width c.size-size.result c.requires.1 c.size-size.ensures c.if-number-lt0.true)

pub overflow_sub-blanks-then-number-lt0 : goal.overflow_sub-blanks-then-number-lt0
overflow_sub-blanks-then-number-lt0 c =
    omega (arith, room c.args.number c.ranges.number c.args.width c.size-size.result c.requires.1 c.size-size.ensures c.if-number-lt0.true, c.digit_count.ensures)

pub bounds-out-at : goal.bounds-out-at
bounds-out-at c =
    omega (arith, room c.args.number c.ranges.number c.args.width c.size-size.result c.requires.1 c.size-size.ensures c.if-number-lt0.true, c.digit_count.ensures, c.put_blanks.auto.out, c.requires.0)

pub put_decimal-requires : goal.put_decimal-requires
put_decimal-requires c =
    simp length-set (omega (arith, room c.args.number c.ranges.number c.args.width c.size-size.result c.requires.1 c.size-size.ensures c.if-number-lt0.true, c.digit_count.ensures, c.put_blanks.auto.out, c.requires.0))

pub shape_of-out-then-number-lt0 : goal.shape_of-out-then-number-lt0
shape_of-out-then-number-lt0 c =
    c.put_decimal.auto.out ∙ (length-set c.put_blanks.new.out _ _ ∙ c.put_blanks.auto.out)

pub returns-then-number-lt0 : goal.returns-then-number-lt0
returns-then-number-lt0 c =
    let e = size_is c.args.number c.ranges.number c.size-size.result c.size-size.ensures in
    negative-stored c.args.out.now c.put_blanks.new.out c.put_decimal.new.out c.args.at c.args.width
    c.digit_count.result c.args.number (negative c.args.number c.ranges.number c.if-number-lt0.true) (c.digit_count.ensures ∙ ap (λ (n : ℕ). length (decimal c.args.width n)) e)
    c.put_blanks.ensures (rw e at c.put_decimal.ensures.out_after)

pub returns-else-number-lt0 : goal.returns-else-number-lt0
returns-else-number-lt0 c =
    let n = not_negative c.args.number (rw (to_z-of_z w64 c.args.number c.ranges.number) at c.if-number-lt0.false) in
    c.put_natural.ensures
    ∙ ap (λ (z : ℤ). sets c.args.out.now c.args.at (entry_written c.args.width (value z))) (ap pos (size_is c.args.number c.ranges.number c.size-size.result c.size-size.ensures) ∙ n)
