-- Laws of number fields: what a range tells of the number in it, and a row of fields with one field more.
-- By cases on the signs, and by the clauses of the definitions. Assumes nothing.
use mathlib.Core.Path.{◌≡◌, refl, ap}
use Prim.Native.Nat.{ℕ, suc, ◌+◌, ◌-◌, ◌≤◌, ◌<◌}
use mathlib.Core.List.{List, [], ◌∷◌, ◌++◌}
use mathlib.Core.Bool.{true}
use lib.ListN.{length, set, take}
use lib.Seq.{take-suc-set}
use lib.IntN.{ℤ, pos, negsuc, neg_ℤ}
use lib.Signed.{le_z}
use mir.Syntax.{w8}
use mir.Val.{SFits}
use borrow.Author.Tests.{leb-true}
use native.Mathlib.Omega.{arith}
use native.Mathlib.Numerals.{add-one}
use Rattle.fields.specs.Number as field
use Rattle.fields.specs.Number.{ranged}
use Rattle.std.specs.Prelude.{Result, Ok, Err}
use Rattle.fields.specs.declared.FieldError.{FieldError}
use Rattle.fields.proofs.Ranges.{ranged-within, le_z-trans}
use Rattle.card.specs.declared.formats.NumberField.{NumberField}
use Rattle.card.specs.declared.formats.Row.{Row}
use Rattle.card.specs.declared.formats.Row.TheVariants as row
use Rattle.card.specs.Formats.{row_field}
use Rattle.card.specs.inner.Fields.{IsSmall}
use Rattle.refusals.specs.Checked.{good, ◌>>=◌}
use Rattle.card.specs.Card.{field_gives, field_on, number, numbers_from}

-- a field whose range fits eight bits
pub small-fits : (low high v : ℤ) (x : field.Contents) → (le_z (neg_ℤ (pos 127)) low ≡ true) × (le_z high (pos 127) ≡ true) → Ok v ≡ ranged low high x → SFits w8 v
small-fits low high v x (l, h) e = let r = ranged-within low high v x e in fits v (le_z-trans (neg_ℤ (pos 127)) low v l r.0) (le_z-trans v high (pos 127) r.1 h)
  where
    fits : (v : ℤ) → le_z (neg_ℤ (pos 127)) v ≡ true → le_z v (pos 127) ≡ true → SFits w8 v
    fits (pos n) a b = record { sfits = omega (arith, leb-true n 127 b) }
    fits (negsuc n) a b = record { sfits = omega (arith, leb-true n 126 a) }

-- a row of fields, field k next: one field more, or none left
pub numbers_more : (line : List ℕ) (f : ℕ → NumberField) (left : List ℤ) (k n : ℕ) → k < n
    → numbers_from line f left k (n - k) ≡ (number line (f k) >>= λ v. numbers_from line f (left ++ (v ∷ [])) (k + 1) (n - (k + 1)))
unfolding numbers_from
numbers_more line f left k n h = let e : n - k ≡ suc (n - (k + 1)) = omega arith in rw e

pub numbers-none : (line : List ℕ) (f : ℕ → NumberField) (left : List ℤ) (k n : ℕ) → n ≤ k → numbers_from line f left k (n - k) ≡ good left
unfolding numbers_from
numbers-none line f left k n h = let e : n - k ≡ 0 = omega arith in rw e

-- a number stored at k is the last of the first k + 1
pub take-stored : {A : Type 0} (vs : List A) (k : ℕ) (v : A) → k < length vs → take (k + 1) (set vs k v) ≡ take k vs ++ (v ∷ [])
take-stored vs k v h = rw (add-one k) (take-suc-set vs k v h)

-- the number in a field of the line is what the field gives
pub number_is : (line : List ℕ) (f : NumberField) (x : Result ℤ FieldError) → x ≡ field_on line f → field_gives f x ≡ number line f
unfolding number
number_is line f x e = ap (field_gives f) e

-- a row's numbers fit eight bits
pub row_small : (row : Row) (k : ℕ) → IsSmall (row_field row k)
row_small row.Doodson k = (refl, refl)
row_small (row.Differences j) k = (refl, refl)

-- where a number was read, the field gave it
pub number-in : (line : List ℕ) (f : NumberField) (v : ℤ) → good v ≡ number line f → Ok v ≡ field_on line f
unfolding number
number-in line f v e = go (field_on line f) e
  where
    go : (x : Result ℤ FieldError) → good v ≡ field_gives f x → Ok v ≡ x
    go (Ok w) q = let is : v ≡ w = cc in ap Ok is
    go (Err error) q = let z : ◌≡◌ {A = ℕ} 0 1 = cc in absurd (omega arith)
