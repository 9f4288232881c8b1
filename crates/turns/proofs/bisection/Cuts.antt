-- Halving a bracket: where it ends, that the change is still between its ends, and that more cuts than minutes change nothing.
-- By induction on the cuts: half of two minutes or more is a minute or more, and less than the whole. Assumes nothing.
use mathlib.Core.Path.{◌≡◌, refl}
use mathlib.Core.Bool.{Bool, true, false, not, cond, true≢false}
use Prim.Native.Nat.{ℕ, zero, suc, ◌+◌, ◌-◌, ◌/◌, ◌≤◌, ◌<◌}
use native.Mathlib.Nat.{le_refl}
use native.Mathlib.Omega.{arith}
use borrow.Author.Tests.{leb-true, leb-false, le-leb, lt-leb}
use lib.Dec.{leb}
use lib.IntN.{ℤ}
use Rattle.turns.specs.Sense.{rising, differ}
use Rattle.turns.specs.Cuts.{cut_from, earlier_end, later_end}

-- a fact of a choice, from the fact of each side
pub by-test : {A : Type 0} (P : A → Type 0) (t : Bool) (a b : A) → (t ≡ true → P a) → (t ≡ false → P b) → P (cond t a b)
by-test P true a b f g = f refl
by-test P false a b f g = g refl

-- two choices that agree where the test fails
pub same-else : {A : Type 0} (t : Bool) (a x y : A) → (t ≡ false → x ≡ y) → cond t a x ≡ cond t a y
same-else true a x y f = refl
same-else false a x y f = f refl

-- where two ends differ in sense and the middle is as the first, the middle and the last differ
senses : (a m b : Bool) → cond a (not b) b ≡ true → cond a (not m) m ≡ false → cond m (not b) b ≡ true
senses true true b h k = h
senses true false b h k = absurd (true≢false k)
senses false true b h k = absurd (true≢false k)
senses false false b h k = h

other_half : (x m y : ℤ) → differ x y ≡ true → differ x m ≡ false → differ m y ≡ true
unfolding differ
other_half x m y h k = senses (rising x) (rising m) (rising y) h k

module _ (slope : ℕ → ℤ) where
  -- ---- more cuts than minutes

  pub cuts-enough : (m n start length : ℕ) → length ≤ m → length ≤ n → cut_from slope m start length ≡ cut_from slope n start length
  unfolding cut_from
  cuts-enough zero zero start length h k = refl
  cuts-enough zero (suc n) start length h k = rw (le-leb length 1 (omega arith))
  cuts-enough (suc m) zero start length h k = rw (le-leb length 1 (omega arith))
  cuts-enough (suc m) (suc n) start length h k =
      same-else (leb length 1) start _ _
      (λ e. let l = leb-false length 1 e in
      rw (cuts-enough m n start (length / 2) (omega arith) (omega arith), cuts-enough m n (start + length / 2) (length - length / 2) (omega arith) (omega arith)))

  -- ---- one cut

  pub cut-done : (start length : ℕ) → length ≤ 1 → earlier_end slope start length ≡ start
  unfolding cut_from
  cut-done start zero h = refl
  cut-done start (suc n) h = rw (le-leb (suc n) 1 h)

  pub cut-early : (start length : ℕ) → 1 < length → differ (slope start) (slope (start + length / 2)) ≡ true → earlier_end slope start length ≡ earlier_end slope start (length / 2)
  unfolding cut_from
  cut-early start zero h e = omega arith
  cut-early start (suc n) h e = rw (lt-leb (suc n) 1 h, e) (cuts-enough n (suc n / 2) start (suc n / 2) (omega arith) (le_refl (suc n / 2)))

  pub cut-late : (start length : ℕ) → 1 < length → differ (slope start) (slope (start + length / 2)) ≡ false → earlier_end slope start length ≡ earlier_end slope (start + length / 2) (length - length / 2)
  unfolding cut_from
  cut-late start zero h e = omega arith
  cut-late start (suc n) h e = rw (lt-leb (suc n) 1 h, e) (cuts-enough n (suc n - suc n / 2) (start + suc n / 2) (suc n - suc n / 2) (omega arith) (le_refl (suc n - suc n / 2)))

  -- ---- where it ends

  cut-within : (n start length : ℕ) → 0 < length → (start ≤ cut_from slope n start length) × (cut_from slope n start length < start + length)
  unfolding cut_from
  cut-within zero start length h = (le_refl start, omega arith)
  cut-within (suc n) start length h =
      by-test (λ e. (start ≤ e) × (e < start + length)) (leb length 1) start _ (λ e. (le_refl start, omega arith))
      (λ e. let l = leb-false length 1 e in
      let early = cut-within n start (length / 2) (omega arith) in
      let late = cut-within n (start + length / 2) (length - length / 2) (omega arith) in
      by-test (λ e. (start ≤ e) × (e < start + length)) (differ (slope start) (slope (start + length / 2))) _ _ (λ d. (omega arith, omega arith)) (λ d. (omega arith, omega arith)))

  pub end-within : (start length : ℕ) → 0 < length → (start ≤ earlier_end slope start length) × (earlier_end slope start length < start + length)
  end-within start length h = cut-within length start length h

  -- ---- the change is held: the two ends, one minute apart, differ in sense

  Changes : ℕ → ℕ → Type 0
  Changes start length = differ (slope start) (slope (start + length)) ≡ true

  cut_holds : (n start length : ℕ) → length ≤ n → 0 < length → Changes start length → Changes (cut_from slope n start length) 1
  unfolding cut_from Changes
  cut_holds zero start length h s d = absurd (omega arith)
  cut_holds (suc n) start length h s d =
      by-test (λ e. Changes e 1) (leb length 1) start _
      (λ e. let l = leb-true length 1 e in let one : length ≡ 1 = omega arith in rw one at d)
      (λ e. let l = leb-false length 1 e in
      let whole : start + length / 2 + (length - length / 2) ≡ start + length = omega arith in
      by-test (λ e. Changes e 1) (differ (slope start) (slope (start + length / 2))) _ _
      (λ k. cut_holds n start (length / 2) (omega arith) (omega arith) k)
      (λ k. cut_holds n (start + length / 2) (length - length / 2) (omega arith) (omega arith) (rw whole (other_half (slope start) (slope (start + length / 2)) (slope (start + length)) d k))))

  pub change-held : (start length : ℕ) → 0 < length → differ (slope start) (slope (start + length)) ≡ true → differ (slope (earlier_end slope start length)) (slope (later_end slope start length)) ≡ true
  unfolding Changes
  change-held start length s d = cut_holds length start length (le_refl length) s d
