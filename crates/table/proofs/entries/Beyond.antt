-- Past the rows, the columns or the entries of the table, the default stands. By the lengths of rows and lists. Assumes nothing.
use mathlib.Core.Path.{◌≡◌, refl, sym, ap, ◌∙◌}
use mathlib.Core.List.{List, ◌∷◌, map}
use Prim.Native.Nat.{ℕ, zero, suc, ◌+◌, ◌*◌, ◌≤◌, ◌<◌}
use native.Mathlib.Nat.{le_trans, le_of_eq, le_of_lt, mul-le-mul, zero-add}
use native.Mathlib.Omega.{arith}
use lib.ListN.{length, get_or, get_or-eq_default}
use Rattle.table.specs.inner.View.{listed, row_of}
use Rattle.table.proofs.Rows.{row_at, row-length, listed_at, listed-length}

module _ {A : Type 0} (none : A) where
  pub past-columns : (width : ℕ) (xs : List A) (k j : ℕ) → width ≤ j → none ≡ get_or (row_of none width xs k) j none
  past-columns width xs k j h = sym (get_or-eq_default (row_of none width xs k) none (le_trans (le_of_eq (row-length none width xs k)) h))

  pub past-rows : (width : ℕ) (xs : List A) (k j : ℕ) → j < width → length xs ≤ width * k + j → none ≡ get_or (row_of none width xs k) j none
  past-rows width xs k j h l = sym (row_at none width xs k j h ∙ get_or-eq_default xs none l)

  pub past-entries : (f : ℕ → A) (n k : ℕ) → n ≤ k → none ≡ get_or (listed f 0 n) k none
  past-entries f n k h = sym (get_or-eq_default (listed f 0 n) none (le_trans (le_of_eq (listed-length f 0 n)) h))

  pub entry_at : (f : ℕ → A) (n k : ℕ) → k < n → f k ≡ get_or (listed f 0 n) k none
  entry_at f n k h = sym (rw (zero-add k) at (listed_at f 0 n k none h))

-- row 1,024 of a width above 0 is past 1,024 numbers
pub far : (n width row column : ℕ) → n ≤ 1024 → column < width → 1024 ≤ row → n ≤ width * row + column
far n width row column h l k = let w : 1 ≤ width = omega arith in omega (arith, mul-le-mul w k)

-- a row before it begins at a number that fits
pub near : (width row : ℕ) → width ≤ 8 → row < 1024 → width * row ≤ 8 * 1024
near width row h k = mul-le-mul h (le_of_lt k)

-- a function of every entry
pub listed-map : {A B : Type 0} (f : A → B) (g : ℕ → A) (k n : ℕ) → map f (listed g k n) ≡ listed (λ j. f (g j)) k n
unfolding listed
listed-map f g k zero = refl
listed-map f g k (suc n) = ap (λ xs. f (g k) ∷ xs) (listed-map f g (suc k) n)
