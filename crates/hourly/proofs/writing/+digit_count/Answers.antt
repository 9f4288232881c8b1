-- `hourly::writing::digit_count` meets its contract: it goes as the definition of `decimal` goes. The measure is how many digits there may be.
-- Assumes nothing.
use mathlib.Core.Path.{◌≡◌, refl, sym, ap, ◌∙◌}
use Prim.Native.Nat.{ℕ, zero, suc, ◌+◌, ◌-◌, ◌/◌, ◌≤◌, ◌<◌}
use native.Mathlib.Omega.{arith}
use lib.ListN.{length}
use Rattle.hourly.specs.Writing.{decimal}
use Rattle.hourly.proofs.Lengths.{length-digit, length_more, decimal-most}
use Rattle.hourly.proofs.writing.+digit_count.Goals as goal

positive : (most : ℕ) → (most ≡ 0 → ⊥) → 1 ≤ most
positive zero some = absurd (some refl)
positive (suc most) some = omega arith

none : (most n : ℕ) → most ≡ 0 → 0 ≡ length (decimal most n)
unfolding decimal
none most n e = rw e

one : (most n : ℕ) → (most ≡ 0 → ⊥) → n < 10 → 1 ≡ length (decimal most n)
one zero n some h = absurd (some refl)
one (suc most) n some h = sym (length-digit most n h)

more : (most n r : ℕ) → (most ≡ 0 → ⊥) → 10 ≤ n → r ≡ length (decimal (most - 1) (n / 10)) → r + 1 ≡ length (decimal most n)
more zero n r some h e = absurd (some refl)
more (suc most) n r some h e =
    let f : suc most - 1 ≡ most = omega arith in
    ap (λ (k : ℕ). k + 1) (rw f at e) ∙ sym (length_more most n h)

pub returns-then-most-eq0 : goal.returns-then-most-eq0
returns-then-most-eq0 t c =
    none c.args.most c.args.number c.if-most-eq0.true

pub returns-then-number-lt10 : goal.returns-then-number-lt10
returns-then-number-lt10 t c =
    one c.args.most c.args.number c.if-most-eq0.false c.if-number-lt10.true

pub overflow_sub-most : goal.overflow_sub-most
overflow_sub-most t c =
    positive c.args.most c.if-most-eq0.false

pub digit_count-requires : goal.digit_count-requires
digit_count-requires t c =
    (let some = positive c.args.most c.if-most-eq0.false in omega (arith, c.decreases), tt)

pub overflow_add-result : goal.overflow_add-result
overflow_add-result t c =
    record { fits = omega (arith, c.digit_count.ensures, decimal-most (c.args.most - 1) (c.args.number / 10), positive c.args.most c.if-most-eq0.false, c.ranges.most) }

pub returns : goal.returns
returns t c =
    more c.args.most c.args.number c.digit_count.result c.if-most-eq0.false c.if-number-lt10.false c.digit_count.ensures
