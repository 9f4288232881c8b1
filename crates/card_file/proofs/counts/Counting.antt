-- The satellites of all mains together, main by main. A row past the array's end counts none.
-- Rests on the laws of rows. Assumes nothing.
use mathlib.Core.Path.{◌≡◌, refl, ◌∙◌}
use Prim.Native.Nat.{ℕ, zero, suc, ◌+◌, ◌-◌, ◌*◌, ◌≤◌, ◌<◌, min}
use mathlib.Core.Bool.{Bool, true, false}
use lib.Dec.{ltb}
use borrow.Author.Tests.{ltb-true, ltb-false}
use native.Mathlib.Omega.{arith}
use lib.ListN.{length, get_or, get_or-eq_default}
use Rattle.table.specs.Table.{Main}
use Rattle.table.specs.inner.View.{listed, row_of, main_of, satellite_of, table_of}
use Rattle.table.specs.declared.Table.{Table}
use Rattle.table.proofs.Rows.{listed-length, listed_at, listed_next, listed-end}
use Rattle.limits.specs.Limits.{most_mains}
use Rattle.card_mains.specs.Mains.{satellites_in}

-- main k of a table's struct
abbrev main_in : Table → ℕ → Main
main_in t = main_of t.maincards t.mainangles t.satelliteangles t.satelliteratios

-- the third number of its row says how many satellites it has
count_of : (t : Table) (k : ℕ) → length (main_in t k).satellites ≡ get_or t.maincards (3 * k + 2) 0
unfolding main_of row_of
count_of t k =
    listed-length (satellite_of t.satelliteangles t.satelliteratios) _ _
    ∙ listed_at (λ (j : ℕ). get_or t.maincards (3 * k + j) 0) 0 3 2 0 (omega arith)

-- the mains from k on
abbrev pub satellites_from : Table → ℕ → ℕ
satellites_from t k = satellites_in (listed (main_in t) k (t.mains - k))

pub satellites-next : (t : Table) (k : ℕ) → k < t.mains → satellites_from t k ≡ get_or t.maincards (3 * k + 2) 0 + satellites_from t (k + 1)
unfolding satellites_in
satellites-next t k h = rw (listed_next (main_in t) k t.mains h, count_of t k)

satellites-end : (t : Table) (k : ℕ) → t.mains ≤ k → satellites_from t k ≡ 0
unfolding satellites_in
satellites-end t k h = rw (listed-end (main_in t) k t.mains h)

-- past the array's end
none-past : (t : Table) → length t.maincards ≡ 3 * most_mains → (k n : ℕ) → most_mains ≤ k → satellites_in (listed (main_in t) k n) ≡ 0
unfolding satellites_in listed
none-past t e k zero h = refl
none-past t e k (suc n) h =
    let past : length t.maincards ≤ 3 * k + 2 = omega arith in
    rw (count_of t k, get_or-eq_default t.maincards 0 {n = 3 * k + 2} past, none-past t e (suc k) n (omega arith))

satellites-past : (t : Table) (k : ℕ) → length t.maincards ≡ 3 * most_mains → most_mains ≤ k → satellites_from t k ≡ 0
satellites-past t k e h = none-past t e k (t.mains - k) h

-- so none are left where the mains or the rows end, whichever is first
pub satellites-least : (t : Table) (k : ℕ) → length t.maincards ≡ 3 * most_mains → min t.mains most_mains ≤ k → satellites_from t k ≡ 0
satellites-least t k e h = by (ltb k most_mains) refl
  where
    by : (b : Bool) → ltb k most_mains ≡ b → satellites_from t k ≡ 0
    by true d = satellites-end t k (omega (arith, ltb-true k most_mains d))
    by false d = satellites-past t k e (ltb-false k most_mains d)

-- all mains
pub satellites-all : (t : Table) → satellites_from t 0 ≡ satellites_in (table_of t).mains
unfolding table_of
satellites-all t = let e : t.mains - 0 ≡ t.mains = omega arith in rw e
