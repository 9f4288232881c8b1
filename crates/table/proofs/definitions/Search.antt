-- The first row with a place is what the table has there. By recursion on the rows that are left.
use mathlib.Core.Path.{◌≡◌, refl, ap}
use mathlib.Core.Bool.{Bool, true, false, cond}
use Prim.Native.Nat.{ℕ, zero, suc, ◌+◌, ◌-◌, ◌≤◌, ◌<◌}
use native.Mathlib.Numerals.{add-one}
use native.Mathlib.Omega.{arith}
use borrow.Author.Tests.{ltb-true, ltb-false}
use lib.Dec.{eqb, ltb}
use Rattle.table.specs.inner.View.{listed}
use Rattle.table.specs.Definitions.{Definition, first_with}
use Rattle.table.specs.inner.Found.{first_row}

module _ (f : ℕ → ℕ) (place : ℕ) where
  pub first_more : (k n : ℕ) → k < n → first_row f place k (n - k) ≡ cond (eqb (f k) place) k (first_row f place (k + 1) (n - (k + 1)))
  unfolding first_row
  first_more k n h = let e : n - k ≡ suc (n - (k + 1)) = omega arith in rw (e, add-one k)

  pub first-none : (k n : ℕ) → n ≤ k → first_row f place k (n - k) ≡ k
  unfolding first_row
  first-none k n h = let e : n - k ≡ 0 = omega arith in rw e

module _ {A : Type 0} (place_of : A → ℕ) (place : ℕ) (found : A → Definition) (otherwise : Definition) (row : ℕ → A) where
  -- a row among those listed is what is found
  found-by : (t : Bool) (k next r : ℕ) (rest : Definition) → (next ≡ r → rest ≡ found (row r)) → cond t k next ≡ r → cond t (found (row k)) rest ≡ found (row r)
  found-by true k next r rest ih e = ap (λ (j : ℕ). found (row j)) e
  found-by false k next r rest ih e = ih e

  row-found : (k n r : ℕ) → first_row (λ j. place_of (row j)) place k n ≡ r → r < k + n → first_with place_of place found otherwise (listed row k n) ≡ found (row r)
  unfolding first_row listed first_with
  row-found k zero r e h = absurd (omega arith)
  row-found k (suc n) r e h =
      found-by (eqb (place_of (row k)) place) k (first_row (λ j. place_of (row j)) place (suc k) n) r (first_with place_of place found otherwise (listed row (suc k) n))
      (λ e'. row-found (suc k) n r e' (omega arith)) e

  -- a row past them is none
  missing-by : (t : Bool) (k next r : ℕ) (rest : Definition) → k < r → (next ≡ r → rest ≡ otherwise) → cond t k next ≡ r → cond t (found (row k)) rest ≡ otherwise
  missing-by true k next r rest h ih e = absurd (omega arith)
  missing-by false k next r rest h ih e = ih e

  row-missing : (k n r : ℕ) → first_row (λ j. place_of (row j)) place k n ≡ r → k + n ≤ r → first_with place_of place found otherwise (listed row k n) ≡ otherwise
  unfolding first_row listed first_with
  row-missing k zero r e h = refl
  row-missing k (suc n) r e h =
      missing-by (eqb (place_of (row k)) place) k (first_row (λ j. place_of (row j)) place (suc k) n) r (first_with place_of place found otherwise (listed row (suc k) n)) (omega arith)
      (λ e'. row-missing (suc k) n r e' (omega arith)) e

  -- what stands in the list, by its first row
  pub first_found : (n r : ℕ) → first_row (λ j. place_of (row j)) place 0 n ≡ r → first_with place_of place found otherwise (listed row 0 n) ≡ cond (ltb r n) (found (row r)) otherwise
  first_found n r e = by (ltb r n) refl
    where
      by : (t : Bool) → ltb r n ≡ t → first_with place_of place found otherwise (listed row 0 n) ≡ cond t (found (row r)) otherwise
      by true l = row-found 0 n r e (omega (arith, ltb-true r n l))
      by false l = row-missing 0 n r e (omega (arith, ltb-false r n l))
