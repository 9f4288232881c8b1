-- A row put into its place: one more number of it while there are any; then row m is what was put, and the rows before it stand.
-- By the laws of a paste. Assumes nothing.
use mathlib.Core.Path.{◌≡◌, ◌∙◌}
use mathlib.Core.List.{List, [], ◌∷◌, ◌++◌, append_assoc}
use Prim.Native.Nat.{ℕ, zero, suc, ◌+◌, ◌*◌, ◌≤◌, ◌<◌}
use native.Mathlib.Numerals.{add-one}
use native.Mathlib.Omega.{arith}
use lib.ListN.{length, get_or, set, take, drop}
use lib.Seq.{paste, paste-suc, length-paste, length-take-le, take-append-le, take-take, take_at, drop_at, take_all}
use Rattle.limits.specs.Limits.{most_records}
use Rattle.calendar.specs.Calendar.{months_a_year}
use Rattle.month_prepared.specs.inner.Rows.{row_at}
use Rattle.year.specs.inner.Rows.{RowInto}

module _ {A : Type 0} where
  -- a part of the front of a list
  part-of-front : (i n at : ℕ) (xs ys : List A) → i + n ≤ at → at ≤ length xs → take n (drop i (take at xs ++ ys)) ≡ take n (drop i xs)
  part-of-front zero n at xs ys h l = take-append-le n (take at xs) ys (omega (arith, length-take-le at xs l)) ∙ take-take n at xs (omega arith)
  part-of-front (suc i) n zero xs ys h l = absurd (omega arith)
  part-of-front (suc i) n (suc at) [] ys h l = absurd (omega arith)
  part-of-front (suc i) n (suc at) (x ∷ xs) ys h l = part-of-front i n at xs ys (omega arith) (omega arith)

  module _ (row : List A) (m : ℕ) (rows : List A) (fits : RowInto row m rows) where
    pub put-more : (k : ℕ) (none : A) → k < most_records → set (paste rows (m * most_records) row k) (m * most_records + k) (get_or row k none) ≡ paste rows (m * most_records) row (k + 1)
    put-more k none h = rw (add-one k) (paste-suc rows (m * most_records) row k none (omega arith) (omega arith))

    pub put-length : length (paste rows (m * most_records) row most_records) ≡ months_a_year * most_records
    put-length = length-paste rows (m * most_records) row most_records (omega arith) (omega arith) ∙ fits.long

    pub row_put : row_at m (paste rows (m * most_records) row most_records) ≡ row
    row_put =
        let rest = drop (m * most_records + most_records) rows in
        rw (append_assoc (take (m * most_records) rows) (take most_records row) rest, drop_at (take (m * most_records) rows) (take most_records row ++ rest) (m * most_records) (length-take-le (m * most_records) rows (omega arith)))
        (take_at (take most_records row) rest most_records (length-take-le most_records row (omega arith)) ∙ take_all most_records row (omega arith))

    pub row-stands : (j : ℕ) → j < m → row_at j (paste rows (m * most_records) row most_records) ≡ row_at j rows
    row-stands j h =
        let rest = drop (m * most_records + most_records) rows in
        rw (append_assoc (take (m * most_records) rows) (take most_records row) rest) (part-of-front (j * most_records) most_records (m * most_records) rows (take most_records row ++ rest) (omega arith) (omega arith))
