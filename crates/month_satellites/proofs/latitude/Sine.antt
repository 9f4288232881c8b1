-- The fixed sine of 5 to 90 degrees is from 2^26 to 2^30. The table falls, so a line between two entries stays above the lower
-- one, and the sine of an angle is the cosine of what is left of the quarter: it is above the one entry that is computed here.
-- Rests on the entries' fall (`cosine`).
use mathlib.Core.Path.{◌≡◌, ◌∙◌}
use mathlib.Core.Logic.{⊎_elim}
use Prim.Native.Nat.{ℕ, zero, suc, ◌+◌, ◌-◌, ◌*◌, ◌/◌, ◌%◌, ◌^◌, ◌≤◌, ◌<◌}
use native.Mathlib.Nat.{le_refl, le_trans, le_of_lt, eq-or-lt_of_le, add-zero, div-lt_iff_lt-mul, mod-lt}
use native.Mathlib.Omega.{arith}
use lib.Dec.{lit≤}
use lib.IntN.{pos}
use Rattle.angles.specs.Ticks.{arc_minute}
use Rattle.cosine.specs.Fraction.{quarter, factorial, arc, unit, term, added, taken, whole, base}
use Rattle.cosine.specs.Fixed.{entries, step, bound, fixed_base, fixed_cosine, fixed_sine}
use Rattle.cosine.proofs.Natural.{entry_ℕ, fixed_base_ℕ, fall-below}
use Rattle.cosine.proofs.Claim.{base-is}
use Rattle.cosine.proofs.Rule.{Passed, down, good}
use Rattle.cosine.proofs.Computed.{passed}

module _ {E h m N : ℕ} (p : Passed E h m N) where
  entries-fall : (i j : ℕ) → i + j ≤ N → entry_ℕ h (i + j) ≤ entry_ℕ h i
  entries-fall i zero l = rw (add-zero i) (le_refl (entry_ℕ h i))
  entries-fall i (suc j) l =
      let e : i + suc j ≡ i + j + 1 = omega arith in
      rw e (le_trans (down p (i + j) (omega arith)) (entries-fall i j (omega arith)))

  -- before entry k, the fixed cosine is not below it
  base_above : (t k : ℕ) → t < k * h → k ≤ N → entry_ℕ h k ≤ fixed_base_ℕ h t
  unfolding fixed_base_ℕ
  base_above t k l n =
      le_trans (rw e at (entries-fall (t / h + 1) (k - (t / h + 1)) (omega (arith, before))))
      (omega (arith, down p (t / h) (omega (arith, before)), fall-below h (entry_ℕ h (t / h)) (entry_ℕ h (t / h + 1)) (t % h) (le_of_lt (mod-lt t p.some))))
    where
      before : t / h < k
      before = (div-lt_iff_lt-mul {k = h} {x = t} {y = k} p.some).1 l

      e : t / h + 1 + (k - (t / h + 1)) ≡ k
      e = omega (arith, before)

-- on the first quarter, its end with it, the sine is the cosine of what is left of the quarter
pub sine-first : (t : ℕ) → zero < t → t ≤ quarter → fixed_sine t ≡ pos (fixed_base_ℕ step (quarter - t))
unfolding fixed_cosine
sine-first t some l = ⊎_elim at-end before-end (eq-or-lt_of_le l) ∙ base-is bound step (entries - 1) (good passed) (quarter - t) (omega arith)
  where
    at-end : t ≡ quarter → fixed_sine t ≡ fixed_base step (quarter - t)
    at-end e = rw e

    before-end : t < quarter → fixed_sine t ≡ fixed_base step (quarter - t)
    before-end k =
        let quadrant : (t + 3 * quarter) / quarter % 4 ≡ 3 = omega arith in
        let rest : (t + 3 * quarter) % quarter ≡ t = omega arith in
        rw (quadrant, rest)

-- the first entry past 85 degrees
past : ℕ
past = (quarter - 300 * arc_minute) / step + 1

past-high : 2 ^ 26 ≤ entry_ℕ step past
unfolding past entry_ℕ base added taken whole term factorial arc unit
past-high = lit≤ tt

pub sine-above : (t : ℕ) → 300 * arc_minute ≤ t → t ≤ quarter → 2 ^ 26 ≤ fixed_base_ℕ step (quarter - t)
unfolding past
sine-above t l k = le_trans past-high (base_above passed (quarter - t) past (omega arith) (lit≤ tt))
