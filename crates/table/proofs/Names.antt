-- The names of the table's frequencies are the names in its row of bytes. By the clauses of the definitions. Assumes nothing.
use mathlib.Core.Path.{◌≡◌, refl}
use Prim.Native.Nat.{ℕ, zero, suc, ◌+◌, ◌*◌}
use mathlib.Core.List.{map, List}
use native.Mathlib.Omega.{arith}
use native.Mathlib.Nat.{add-zero}
use native.Mathlib.Numerals.{add-one}
use lib.ListN.{get_or}
use Rattle.columns.specs.Columns.{padded}
use Rattle.columns.specs.Names.{names_from}
use Rattle.table.specs.inner.View.{listed, row_of, frequency_of}

-- a row is its columns
row-is-name : (xs : List ℕ) (a j n : ℕ) → listed (λ i. get_or xs (a + i) 0) j n ≡ padded 0 xs (a + j) n
unfolding listed padded
row-is-name xs a j zero = refl
row-is-name xs a j (suc n) = let e : a + suc j ≡ a + j + 1 = omega arith in rw (row-is-name xs a (suc j) n, e)

-- the names of the table's frequencies
pub names-of : (names speeds : List ℕ) (k n : ℕ) → map (λ f. f.name) (listed (frequency_of names speeds) k n) ≡ names_from names k n
unfolding listed names_from frequency_of row_of
names-of names speeds k zero = refl
names-of names speeds k (suc n) = rw (row-is-name names (5 * k) 0 5, add-zero (5 * k), add-one k, names-of names speeds (suc k) n)
