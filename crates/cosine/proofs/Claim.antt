-- The claim: the fixed cosine is within E of 2^30 times the cosine at every angle, for any table whose entries pass a test.
-- `Good` is what the test gives, and `claim` is the theorem; it serves every step h that divides the quarter.
-- Rests on `Series` (how far the sums bend), `Line` (a rounded line between nearest entries) and `Signs` (round the quadrants). Assumes nothing.
use mathlib.Core.Path.{◌≡◌, refl, sym, ◌∙◌, ap, ap₂, subst}
use mathlib.Core.Bool.{Bool, true, false, cond}
use Prim.Native.Nat.{ℕ, zero, ◌+◌, ◌-◌, ◌*◌, ◌/◌, ◌%◌, ◌≤◌, ◌<◌}
use native.Mathlib.Nat.{one-mul, div-mul-le_self, lt-div-mul-add, div-add-mod', le_of_lt, mod-lt, div-lt_iff_lt-mul, mul-mod_left, mul-div_cancel, mul-le-mul_right}
use native.Mathlib.Omega.{arith}
use borrow.Author.Tests.{eqb-true, eqb-false, le-ltb}
use lib.Dec.{eqb, lit≤, lit<}
use lib.IntN.{ℤ, pos, sub_ℕ, nat_abs, ◌*ℤ◌}
use lib.Arith.{lt_of_le-ne}
use Rattle.cosine.specs.Fraction.{quarter, factorial, arc, unit, term, added, taken, whole, base, around, cosine}
use Rattle.cosine.specs.Fixed.{one, nearest, entry, line, fixed_base, Within, IsNearest}
use Rattle.cosine.proofs.Natural.{nearest_ℕ, entry_ℕ, fixed_base_ℕ, entry-is, line-is}
use Rattle.cosine.proofs.Line.{Near, Close, between, fallen}
use Rattle.cosine.proofs.Series.{added_bend, taken_bend, added-chorded, taken-chorded}
use Rattle.cosine.proofs.Signs.{Off, within, apart, in-quadrant}

-- ---- the entries

-- `nearest_ℕ` is nearest
nearest-near : (G n x y : ℕ) → zero < n → y ≤ x → Near G n (nearest_ℕ (G * (x - y)) n) x y
nearest-near G n x y n0 h =
    record { above = omega (arith, div-mul-le_self m (2 * n), e); below = omega (arith, lt-div-mul-add {a = m} two, e) }
  where
    m : ℕ
    m = 2 * (G * (x - y)) + n

    two : zero < 2 * n
    two = omega arith

    sum : x ≡ y + (x - y)
    sum = omega arith

    e : G * x ≡ G * y + G * (x - y)
    e = omega (arith, ap (λ (k : ℕ). G * k) sum)

whole_pos : zero < whole
unfolding whole unit factorial
whole_pos = lit< tt

-- at the quarter's end the series is not 0, and 0 is still the nearest whole number
end-near : Near one whole 0 (added quarter) (taken quarter)
unfolding whole unit factorial added taken term arc
end-near = record { above = lit≤ tt; below = lit≤ tt }

no_size : nearest_ℕ (one * 0) whole ≡ 0
unfolding whole unit factorial
no_size = refl

sub-size : (x y : ℕ) → y ≤ x → nat_abs (sub_ℕ x y) ≡ x - y
sub-size x y h = simp (le-ltb x y h)

near-test : (a : ℕ) → taken a ≤ added a → (t : Bool) → eqb a quarter ≡ t
    → Near one whole (nearest_ℕ (one * nat_abs (cond t (pos 0) (sub_ℕ (added a) (taken a)))) whole) (added a) (taken a)
near-test a h true e =
    subst (λ (k : ℕ). Near one whole k (added a) (taken a)) (sym no_size)
    (subst (λ (k : ℕ). Near one whole 0 (added k) (taken k)) (sym (eqb-true a quarter e)) end-near)
near-test a h false e =
    subst (λ (k : ℕ). Near one whole (nearest_ℕ (one * k) whole) (added a) (taken a)) (sym (sub-size (added a) (taken a) h))
    (nearest-near one whole (added a) (taken a) whole_pos h)

near : (h i : ℕ) → taken (i * h) ≤ added (i * h) → Near one whole (entry_ℕ h i) (added (i * h)) (taken (i * h))
unfolding entry_ℕ base
near h i p = near-test (i * h) p (eqb (i * h) quarter) refl

-- each entry is the whole number nearest to 2^30 times the base cosine
nearest-test : (a c : ℕ) → Near one whole c (added a) (taken a) → (t : Bool) → eqb a quarter ≡ t → (t ≡ true → c ≡ 0)
    → IsNearest (pos c) (cond t (pos 0) (sub_ℕ (added a) (taken a)))
nearest-test a c n true e z = apart (2 * c * whole) (2 * one * 0) whole (simp (z refl) (omega arith)) (omega arith)
nearest-test a c n false e z =
    subst (λ (k : ℕ). Off whole (2 * one) k (pos (2 * c)) (sub_ℕ (added a) (taken a))) (one-mul whole)
    (within 1 (2 * one) whole (2 * c) (added a) (taken a) (record { above = omega (arith, n.above); below = omega (arith, n.below) }))

end-zero : (h i : ℕ) → eqb (i * h) quarter ≡ true → entry_ℕ h i ≡ 0
unfolding entry_ℕ base
end-zero h i e = simp e no_size

pub entry-nearest : (h i : ℕ) → taken (i * h) ≤ added (i * h) → IsNearest (entry h i) (base (i * h))
unfolding base
entry-nearest h i p =
    subst (λ (c : ℤ). IsNearest c (base (i * h))) (sym (entry-is h i p))
    (nearest-test (i * h) (entry_ℕ h i) (near h i p) (eqb (i * h) quarter) refl (end-zero h i))

-- ---- the theorem

-- a table of N + 1 entries, for steps of h ticks, that serves for a bound of E
pub record Good (E h N : ℕ) : Type 0 where
  pub some : zero < h
  pub steps : N * h ≡ quarter
  pub sound : (i : ℕ) → i ≤ N → taken (i * h) ≤ added (i * h)
  pub falls : (i : ℕ) → i < N → entry_ℕ h (i + 1) ≤ entry_ℕ h i
  pub bends-added : one * (h * h * added_bend) + 6 * whole ≤ 4 * (E * whole)
  pub bends-taken : one * (h * h * taken_bend) + 6 * whole ≤ 4 * (E * whole)

module _ (E h N : ℕ) (g : Good E h N) where
  -- r past entry i, on the line to the next
  inner : (i r : ℕ) → i < N → r < h
      → Close E one whole (entry_ℕ h i - (entry_ℕ h i - entry_ℕ h (i + 1)) * r / h) (added (i * h + r)) (taken (i * h + r))
  inner i r iN rh =
      between added-chorded taken-chorded E one whole h g.some g.bends-added g.bends-taken
      (i * h) r s d e f (c - f) rs fits (div-mul-le_self (e * r) h) (lt-div-mul-add g.some) sum
      (subst (λ (k : ℕ). Near one whole k (added (i * h)) (taken (i * h))) (sym ends) (near h i (g.sound i (omega arith))))
      (subst (λ (k : ℕ). Near one whole d (added k) (taken k)) next (near h (i + 1) (g.sound (i + 1) (omega arith))))
    where
      s : ℕ
      s = h - r

      c : ℕ
      c = entry_ℕ h i

      d : ℕ
      d = entry_ℕ h (i + 1)

      e : ℕ
      e = c - d

      f : ℕ
      f = e * r / h

      rs : r + s ≡ h
      rs = omega arith

      next : (i + 1) * h ≡ i * h + r + s
      next = omega (arith, rs)

      fits : i * h + r + s ≤ quarter
      fits = omega (arith, rs, mul-le-mul_right h iN, g.steps)

      ends : d + e ≡ c
      ends = omega (arith, g.falls i iN)

      less : f ≤ e
      less = fallen e f r s (omega (arith, rs)) (subst (λ (k : ℕ). f * k ≤ e * r) (sym rs) (div-mul-le_self (e * r) h))

      sum : c - f + f ≡ d + e
      sum = omega (arith, less, ends)

  -- anywhere before the quarter's end
  module _ (t : ℕ) (tq : t < quarter) where
    before_last : t / h < N
    before_last = (div-lt_iff_lt-mul g.some).1 (subst (λ (k : ℕ). t < k) (sym g.steps) tq)

    before : Close E one whole (fixed_base_ℕ h t) (added t) (taken t)
    unfolding fixed_base_ℕ
    before =
        subst (λ (k : ℕ). Close E one whole (fixed_base_ℕ h t) (added k) (taken k)) (div-add-mod' t h)
        (inner (t / h) (t % h) before_last (mod-lt t g.some))

    pub base-is : fixed_base h t ≡ pos (fixed_base_ℕ h t)
    unfolding fixed_base fixed_base_ℕ
    base-is =
        ap₂ (λ (c d : ℤ). line h c d (t % h)) (entry-is h (t / h) (g.sound (t / h) (omega (arith, before_last)))) (entry-is h (t / h + 1) (g.sound (t / h + 1) (omega (arith, before_last))))
        ∙ line-is h (entry_ℕ h (t / h)) (entry_ℕ h (t / h + 1)) (t % h) (g.falls (t / h) before_last) (le_of_lt (mod-lt t g.some))

  -- and at the end
  none : nearest (pos one *ℤ pos 0) whole ≡ pos 0
  unfolding whole unit factorial
  none = refl

  end : fixed_base h quarter ≡ pos 0
  unfolding fixed_base entry base
  end = simp (rest, place, g.steps) none
    where
      rest : quarter % h ≡ 0
      rest = ap (λ (q : ℕ). q % h) (sym g.steps) ∙ mul-mod_left N h

      place : quarter / h ≡ N
      place = ap (λ (q : ℕ). q / h) (sym g.steps) ∙ mul-div_cancel N g.some

  off-test : (t : ℕ) → t ≤ quarter → (b : Bool) → eqb t quarter ≡ b → Off whole one (E * whole) (fixed_base h t) (cond b (pos 0) (sub_ℕ (added t) (taken t)))
  off-test t tq true e =
      subst (λ (z : ℤ). Off whole one (E * whole) z (pos 0)) (sym (ap (fixed_base h) (eqb-true t quarter e) ∙ end))
      (apart (0 * whole) (one * 0) (E * whole) (omega arith) (omega arith))
  off-test t tq false e =
      let l = lt_of_le-ne tq (eqb-false t quarter e) in
      subst (λ (z : ℤ). Off whole one (E * whole) z (sub_ℕ (added t) (taken t))) (sym (base-is t l))
      (within E one whole (fixed_base_ℕ h t) (added t) (taken t) (before t l))

  off-base : (t : ℕ) → t ≤ quarter → Off whole one (E * whole) (fixed_base h t) (base t)
  unfolding base
  off-base t tq = off-test t tq (eqb t quarter) refl

  pub claim : (t : ℕ) → Within E (around (fixed_base h) t) (cosine t)
  unfolding cosine
  claim t =
      in-quadrant whole one (E * whole) (t / quarter % 4) (fixed_base h (t % quarter)) (fixed_base h (quarter - t % quarter))
      (base (t % quarter)) (base (quarter - t % quarter))
      (off-base (t % quarter) (omega arith)) (off-base (quarter - t % quarter) (omega arith))
