-- One division of an angle by the step gives its quadrant, the entry before it and the one before its mirror image in the quarter:
-- for any step h and any count N of steps in a quarter turn, the lines from those two entries give the fixed cosine and sine.
-- Rests on the entries' fall (`Rule`), for what the code's line needs. Assumes nothing.
use mathlib.Core.Path.{◌≡◌, refl, sym, ◌∙◌, ap, ap₂}
use mathlib.Core.Logic.{⊎_elim}
use Prim.Native.Nat.{ℕ, zero, suc, ◌+◌, ◌-◌, ◌*◌, ◌/◌, ◌%◌, ◌^◌, ◌≤◌, ◌<◌}
use native.Mathlib.Nat.{mul_comm, mul-div_cancel, mul-mod_left, mod-lt, mod-eq_of_lt, div-eq_of_lt, div-div-eq-div-mul, add-mul-div_right, add-mul-mod_self_right, eq-or-lt_of_le, zero-mul, mul-le-mul, lt_of_le_of_lt}
use native.Mathlib.Omega.{arith}
use borrow.Author.Tests.{ne_eqb}
use lib.Arith.{mod-mul}
use lib.IntN.{ℤ, pos, neg_ℤ, nat_abs, ◌+ℤ◌, ◌-ℤ◌, ◌*ℤ◌, +ℤ_idl, +ℤ_idr, +ℤ_assoc, +ℤ_invr, neg_ℤ-+ℤ, neg_ℤ-neg_ℤ}
use mir.Syntax.{w64}
use mir.Val.{Fits}
use Rattle.angles.specs.Floor.{floor_div}
use Rattle.angles.proofs.Floors.{floor-of}
use Rattle.cosine.specs.Fraction.{quarter, in_quadrant, around}
use Rattle.cosine.specs.Fixed.{one, entry, line, fixed_base}
use Rattle.cosine.proofs.Natural.{entry_ℕ, line_ℕ, line-is, fall-below}
use Rattle.cosine.proofs.Rule.{Passed, natural, down, near, at_most_one}

-- the line from entry i to the next, r past entry i
abbrev line_from : ℕ → ℕ → ℕ → ℤ
line_from h i r = line h (entry h i) (entry h (i + 1)) r

-- a whole step on, the line is at the next entry
whole-step : (h : ℕ) (c d : ℤ) → zero < h → line h c d h ≡ d
whole-step h c d some =
    rw (ne_eqb h 0 (omega arith)) (ap (λ (z : ℤ). c -ℤ z) (ap (λ (z : ℤ). floor_div z h) (sym (+ℤ_idr ((c -ℤ d) *ℤ pos h))) ∙ floor-of h some (c -ℤ d) 0 some) ∙ back)
  where
    back : c -ℤ (c -ℤ d) ≡ d
    back =
        ap (λ (z : ℤ). c +ℤ z) (neg_ℤ-+ℤ c (neg_ℤ d) ∙ ap (λ (z : ℤ). neg_ℤ c +ℤ z) (neg_ℤ-neg_ℤ d))
        ∙ sym (+ℤ_assoc c (neg_ℤ c) d) ∙ ap (λ (z : ℤ). z +ℤ d) (+ℤ_invr c) ∙ +ℤ_idl d

some-steps : (h N : ℕ) → N * h ≡ quarter → zero < N
some-steps h zero e = omega (arith, e, zero-mul h)
some-steps h (suc N) e = omega arith

module _ {E h m N : ℕ} (p : Passed E h m N) where
  module _ (i r : ℕ) where
    before-end : r < h → fixed_base h (i * h + r) ≡ line_from h i r
    unfolding fixed_base
    before-end l = rw (place, rest)
      where
        place : (i * h + r) / h ≡ i
        place = ap (λ (n : ℕ). n / h) (omega arith) ∙ add-mul-div_right r i p.some ∙ rw (div-eq_of_lt l) (omega arith)

        rest : (i * h + r) % h ≡ r
        rest = ap (λ (n : ℕ). n % h) (omega arith) ∙ add-mul-mod_self_right r i h ∙ mod-eq_of_lt l

    -- where the next line begins
    at-end : r ≡ h → fixed_base h (i * h + r) ≡ line_from h i r
    unfolding fixed_base
    at-end e = rw (place, rest) (sym (ap (line_from h i) e ∙ whole-step h (entry h i) (entry h (i + 1)) p.some))
      where
        next : i * h + r ≡ (i + 1) * h
        next = omega arith

        place : (i * h + r) / h ≡ i + 1
        place = ap (λ (n : ℕ). n / h) next ∙ mul-div_cancel (i + 1) p.some

        rest : (i * h + r) % h ≡ 0
        rest = ap (λ (n : ℕ). n % h) next ∙ mul-mod_left (i + 1) h

    on_line : r ≤ h → fixed_base h (i * h + r) ≡ line_from h i r
    on_line k = ⊎_elim at-end before-end (eq-or-lt_of_le k)

  module _ (t : ℕ) where
    before_last : t / h % N < N
    before_last = mod-lt (t / h) (some-steps h N p.steps)

    within_step : t % h < h
    within_step = mod-lt t p.some

    rest : t % quarter ≡ t / h % N * h + t % h
    rest = ap (λ (q : ℕ). t % q) (sym p.steps) ∙ mod-mul t (some-steps h N p.steps) p.some

    near-is : fixed_base h (t % quarter) ≡ line_from h (t / h % N) (t % h)
    near-is = ap (fixed_base h) rest ∙ on_line (t / h % N) (t % h) (omega (arith, within_step))

    far-is : fixed_base h (quarter - t % quarter) ≡ line_from h (N - 1 - t / h % N) (h - t % h)
    far-is = ap (fixed_base h) mirrored ∙ on_line (N - 1 - t / h % N) (h - t % h) (omega arith)
      where
        mirror : (i j r q : ℕ) → i < N → r ≤ h → j ≡ N - 1 - i → q ≡ i * h + r → quarter - q ≡ j * h + (h - r)
        mirror i j r q l k e f = let n : N ≡ i + 1 + j = omega arith in omega (arith, ap (λ (x : ℕ). x * h) n, p.steps)

        mirrored : quarter - t % quarter ≡ (N - 1 - t / h % N) * h + (h - t % h)
        mirrored = mirror (t / h % N) (N - 1 - t / h % N) (t % h) (t % quarter) before_last (omega (arith, within_step)) refl rest

    quadrant-is : t / quarter ≡ t / h / N
    quadrant-is = ap (λ (q : ℕ). t / q) (sym p.steps ∙ mul_comm N h) ∙ sym (div-div-eq-div-mul t h N)

    module _ {near far : ℕ} (n : pos near ≡ line_from h (t / h % N) (t % h)) (f : pos far ≡ line_from h (N - 1 - t / h % N) (h - t % h)) where
      pub cosine-is : in_quadrant (t / h / N % 4) (pos near) (pos far) ≡ around (fixed_base h) t
      cosine-is = rw (quadrant-is, near-is, far-is, n, f)

      -- three quarters on, the quadrant is another and the remainder the same
      pub sine-is : in_quadrant ((t / h / N % 4 + 3) % 4) (pos near) (pos far) ≡ around (fixed_base h) (t + 3 * quarter)
      sine-is = rw (same_rest, near-is, far-is, other-quadrant, quadrant-is, n, f)
        where
          same_rest : (t + 3 * quarter) % quarter ≡ t % quarter
          same_rest = add-mul-mod_self_right t 3 quarter

          other-quadrant : (t + 3 * quarter) / quarter % 4 ≡ (t / quarter % 4 + 3) % 4
          other-quadrant = omega arith

-- ---- what the code's line needs

natural-of : {E h m N : ℕ} (p : Passed E h m N) (i : ℕ) → i ≤ N → {c : ℕ} → pos c ≡ entry h i → c ≡ entry_ℕ h i
natural-of p i l e = ap nat_abs (e ∙ natural p i (omega arith))

pub entry-fits : {E h m N : ℕ} (p : Passed E h m N) (i : ℕ) → i ≤ N → {c : ℕ} → pos c ≡ entry h i → Fits w64 c
entry-fits p i l e = record { fits = omega (arith, natural-of p i l e, at_most_one p i l) }

-- the line from c, the entry i, to d, the next: each step fits, and the end is the line of 01
pub record Falling (h i r c d : ℕ) : Type 0 where
  pub falls : d ≤ c
  pub product-fits : Fits w64 ((c - d) * r)
  pub fall-less : (c - d) * r / h ≤ c
  pub is-line : pos (line_ℕ h c d r) ≡ line_from h i r
  pub at_most : line_ℕ h c d r ≤ one

pub falling-line : {E h m N : ℕ} (p : Passed E h m N) → m * h < 2 ^ 64 → {i r c d : ℕ} → i < N → r ≤ h → pos c ≡ entry h i → pos d ≡ entry h (i + 1) → Falling h i r c d
falling-line {E} {h} p small {i} {r} {c} {d} l k hc hd =
    let ec = natural-of p i (omega arith) hc in
    let ed = natural-of p (i + 1) (omega arith) hd in
    let dc : d ≤ c = omega (arith, ec, ed, down p i l) in
    record {
      falls = dc;
      product-fits = record { fits = lt_of_le_of_lt (mul-le-mul (omega (arith, ec, ed, near p i l)) k) small };
      fall-less = omega (arith, fall-below h c d r k);
      is-line = sym (line-is h c d r dc k) ∙ ap₂ (λ (a b : ℤ). line h a b r) hc hd;
      at_most = omega (arith, ec, at_most_one p i (omega arith));
    }
