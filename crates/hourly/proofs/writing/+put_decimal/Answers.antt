-- `hourly::writing::put_decimal` meets its contract: it goes as the definition of `decimal` goes, whose last digit is stored last. The measure
-- is how many digits there may be. Assumes nothing.
use mathlib.Core.Path.{◌≡◌, refl, sym, ◌∙◌}
use mathlib.Core.List.{List, [], ◌∷◌}
use Prim.Native.Nat.{ℕ, zero, suc, ◌+◌, ◌-◌, ◌/◌, ◌%◌, ◌≤◌, ◌<◌}
use native.Mathlib.Nat.{add-zero}
use native.Mathlib.Omega.{arith}
use lib.ListN.{length, set, length-set}
use lib.Seq.{sets}
use Rattle.hourly.specs.Writing.{decimal}
use Rattle.hourly.proofs.Lengths.{decimal_digit, decimal-more, length-digit, length_more}
use Rattle.hourly.proofs.writing.Stores.{sets-append}
use Rattle.hourly.proofs.writing.+put_decimal.Goals as goal

-- what is stored, and where it ends
abbrev Stored : List ℕ → ℕ → ℕ → ℕ → List ℕ → ℕ → Type 0
Stored out at most n after next = (after ≡ sets out at (decimal most n)) × (next ≡ at + length (decimal most n))

module _ (out : List ℕ) (at : ℕ) where
  none : (most n : ℕ) → most ≡ 0 → Stored out at most n out at
  unfolding decimal
  none most n e = rw e (refl, sym (add-zero at))

  one : (most n : ℕ) → (most ≡ 0 → ⊥) → n < 10 → Stored out at most n (set out at (48 + n)) (at + 1)
  one zero n some h = absurd (some refl)
  one (suc most) n some h = rw (decimal_digit most n h) (refl, refl)

  more : (most n : ℕ) → (most ≡ 0 → ⊥) → 10 ≤ n → (after : List ℕ) (next : ℕ) → Stored out at (most - 1) (n / 10) after next → Stored out at most n (set after next (48 + n % 10)) (next + 1)
  more zero n some h after next s = absurd (some refl)
  more (suc most) n some h after next s =
      let f : suc most - 1 ≡ most = omega arith in
      let l : after ≡ sets out at (decimal most (n / 10)) = rw f at s.0 in
      let e : next ≡ at + length (decimal most (n / 10)) = rw f at s.1 in
      (rw (decimal-more most n h, l, e) (sym (sets-append out at (decimal most (n / 10)) ((48 + n % 10) ∷ []))), omega (arith, length_more most n h))

-- where the digits end
room-one : (most n : ℕ) → (most ≡ 0 → ⊥) → n < 10 → length (decimal most n) ≡ 1
room-one zero n some h = absurd (some refl)
room-one (suc most) n some h = length-digit most n h

room-more : (most n : ℕ) → (most ≡ 0 → ⊥) → 10 ≤ n → (1 ≤ most) × (length (decimal most n) ≡ length (decimal (most - 1) (n / 10)) + 1)
room-more zero n some h = absurd (some refl)
room-more (suc most) n some h = let f : suc most - 1 ≡ most = omega arith in (omega arith, rw f (length_more most n h))

pub returns-then-most-eq0 : goal.returns-then-most-eq0
returns-then-most-eq0 t c =
    record {
      out_after = (none c.args.out.now c.args.at c.args.most c.args.number c.if-most-eq0.true).0;
      value = (none c.args.out.now c.args.at c.args.most c.args.number c.if-most-eq0.true).1;
    }

pub bounds-out-at : goal.bounds-out-at
bounds-out-at t c =
    omega (arith, room-one c.args.most c.args.number c.if-most-eq0.false c.if-number-lt10.true, c.requires)

pub overflow_add-result : goal.overflow_add-result
overflow_add-result t c =
    record { fits = omega (arith, room-one c.args.most c.args.number c.if-most-eq0.false c.if-number-lt10.true, c.requires, c.well_formed) }

pub shape_of-out-then-number-lt10 : goal.shape_of-out-then-number-lt10
shape_of-out-then-number-lt10 t c =
    simp length-set

pub returns-then-number-lt10 : goal.returns-then-number-lt10
returns-then-number-lt10 t c =
    record {
      out_after = (one c.args.out.now c.args.at c.args.most c.args.number c.if-most-eq0.false c.if-number-lt10.true).0;
      value = (one c.args.out.now c.args.at c.args.most c.args.number c.if-most-eq0.false c.if-number-lt10.true).1;
    }

pub overflow_sub-most : goal.overflow_sub-most
overflow_sub-most t c =
    (room-more c.args.most c.args.number c.if-most-eq0.false c.if-number-lt10.false).0

pub put_decimal-next-requires : goal.put_decimal-next-requires
put_decimal-next-requires t c =
    let m = room-more c.args.most c.args.number c.if-most-eq0.false c.if-number-lt10.false in
    (omega (arith, m, c.requires), omega (arith, m, c.requires))

pub bounds-out-next : goal.bounds-out-next
bounds-out-next t c =
    let m = room-more c.args.most c.args.number c.if-most-eq0.false c.if-number-lt10.false in
    omega (arith, m, c.requires, c.put_decimal-next.ensures.value, c.put_decimal-next.auto.out)

pub overflow_add-result-2 : goal.overflow_add-result-2
overflow_add-result-2 t c =
    let m = room-more c.args.most c.args.number c.if-most-eq0.false c.if-number-lt10.false in
    record { fits = omega (arith, m, c.requires, c.put_decimal-next.ensures.value, c.well_formed) }

pub shape_of-out : goal.shape_of-out
shape_of-out t c =
    length-set c.put_decimal-next.new.out c.put_decimal-next.result _ ∙ c.put_decimal-next.auto.out

pub returns : goal.returns
returns t c =
    record {
      out_after = (more c.args.out.now c.args.at c.args.most c.args.number c.if-most-eq0.false c.if-number-lt10.false c.put_decimal-next.new.out c.put_decimal-next.result (c.put_decimal-next.ensures.out_after, c.put_decimal-next.ensures.value)).0;
      value = (more c.args.out.now c.args.at c.args.most c.args.number c.if-most-eq0.false c.if-number-lt10.false c.put_decimal-next.new.out c.put_decimal-next.result (c.put_decimal-next.ensures.out_after, c.put_decimal-next.ensures.value)).1;
    }
