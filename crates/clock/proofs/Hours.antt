-- The hours of a month in the first places of a longer row, where a series has written them. Assumes nothing.
use Prim.Native.Nat.{ℕ, ◌≤◌}
use native.Mathlib.Omega.{arith}
use mathlib.Core.Path.{◌≡◌, ap, ◌∙◌}
use mathlib.Core.List.{List, ◌++◌}
use lib.IntN.{ℤ}
use lib.ListN.{length, take, drop, length-append}
use lib.Seq.{length-take-le, take_at}
use Rattle.heights.specs.Series.{series_of}
use Rattle.heights.proofs.series.Written.{series-length}

module _ (height : ℕ → ℤ) (start step n : ℕ) (places hours : List ℤ) (fits : n ≤ length places) (are : hours ≡ series_of height start step (length (take n places))) where
  hours-are : hours ≡ series_of height start step n
  hours-are = are ∙ ap (series_of height start step) (length-take-le n places fits)

  hours-many : length hours ≡ n
  hours-many = ap length hours-are ∙ series-length height start step 0 n

  -- they are the first of the row
  pub hours-first : take n (hours ++ drop n places) ≡ series_of height start step n
  hours-first = take_at hours (drop n places) n hours-many ∙ hours-are

  pub hours-count : length (take n (hours ++ drop n places)) ≡ n
  hours-count = ap length hours-first ∙ series-length height start step 0 n

  -- and the row has as many places as before
  pub hours-fit : n ≤ length (hours ++ drop n places)
  hours-fit = omega (arith, length-append hours (drop n places), hours-many)
