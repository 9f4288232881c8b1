-- The series from a height on, and the heights written at the front of a list. By the definition's clauses. Assumes nothing.
use Prim.Native.Nat.{ℕ, zero, suc, ◌+◌, ◌-◌, ◌*◌, ◌≤◌, ◌<◌}
use native.Mathlib.Omega.{arith}
use native.Mathlib.Numerals.{add-one}
use mathlib.Core.Path.{◌≡◌, refl, ap, ◌∙◌}
use mathlib.Core.List.{List, [], ◌∷◌, ◌++◌, append-nil}
use lib.IntN.{ℤ, pos}
use lib.ListN.{length, get_or, set, drop_of_length-le}
use lib.Seq.{sets, sets-eq}
use Rattle.heights.specs.Series.{series_from, series_of}

module _ (height : ℕ → ℤ) (start step : ℕ) where
  pub series-more : (n places : ℕ) → n < places → series_from height start step n (places - n) ≡ height (start + n * step) ∷ series_from height start step (n + 1) (places - (n + 1))
  unfolding series_from
  series-more n places h = let e : places - n ≡ suc (places - (n + 1)) = omega arith in rw e

  pub series-none : (n places : ℕ) → places ≤ n → series_from height start step n (places - n) ≡ []
  unfolding series_from
  series-none n places h = let e : places - n ≡ 0 = omega arith in rw e

  pub series-length : (n left : ℕ) → length (series_from height start step n left) ≡ left
  unfolding series_from
  series-length n zero = refl
  series-length n (suc left) = ap suc (series-length (n + 1) left)

  -- "a series' height n, from 0, at start + n × step"
  series-from : (n left i : ℕ) → i < left → get_or (series_from height start step n left) i (pos 0) ≡ height (start + (n + i) * step)
  unfolding series_from
  series-from n zero i h = absurd (omega arith)
  series-from n (suc left) zero h = ap (λ (k : ℕ). height (start + k * step)) (omega arith)
  series-from n (suc left) (suc i) h = let e : n + 1 + i ≡ n + suc i = omega arith in rw e at (series-from (n + 1) left i (omega arith))

  pub series-height : (places n : ℕ) → n < places → get_or (series_of height start step places) n (pos 0) ≡ height (start + n * step)
  series-height places n h = let e : 0 + n ≡ n = omega arith in rw e at (series-from 0 places n h)

-- the heights written at the front of a list, and those that are left
module _ (height : ℕ → ℤ) (start step : ℕ) (out : List ℤ) where
  pub written-more : (n places : ℕ) (first : ℤ) → n < places → first ≡ height (start + n * step) → sets (set out n first) (n + 1) (series_from height start step (n + 1) (places - (n + 1))) ≡ sets out n (series_from height start step n (places - n))
  written-more n places first h e =
      rw (series-more height start step n places h, e)
      (ap (λ (k : ℕ). sets (set out n (height (start + n * step))) k (series_from height start step (n + 1) (places - (n + 1)))) (add-one n))

  pub written_none : (n places : ℕ) → places ≤ n → sets out n (series_from height start step n (places - n)) ≡ out
  written_none n places h = rw (series-none height start step n places h)

  pub written_all : sets out 0 (series_of height start step (length out)) ≡ series_of height start step (length out)
  written_all =
      let xs = series_of height start step (length out) in
      let l : length xs ≡ length out = series-length height start step 0 (length out) in
      sets-eq xs out 0 (omega arith) ∙ (ap (λ (d : List ℤ). xs ++ d) (drop_of_length-le out {i = 0 + length xs} (omega arith)) ∙ append-nil xs)
