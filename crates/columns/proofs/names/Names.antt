-- Names compared from byte j on, and looked for from place k on, as the loops go.
-- By the clauses of the definitions. Assumes nothing.
use mathlib.Core.Path.{◌≡◌, refl, ap}
use Prim.Native.Nat.{ℕ, zero, suc, ◌+◌, ◌-◌, ◌≤◌, ◌<◌}
use mathlib.Core.List.{List}
use mathlib.Core.Bool.{true, cond, ◌&&◌}
use lib.ListN.{length, get_or}
use lib.Dec.{eqb}
use native.Mathlib.Omega.{arith}
use Rattle.std.specs.Prelude.{Some, None}
use Rattle.columns.specs.Columns.{padded}
use Rattle.columns.specs.Names.{same, name_at, names_from, place_from}

pub same_more : (f g : ℕ) (s t : List ℕ) (j e : ℕ) → j < e
    → same (padded f s j (e - j)) (padded g t j (e - j))
    ≡ (eqb (get_or s j f) (get_or t j g) && same (padded f s (j + 1) (e - (j + 1))) (padded g t (j + 1) (e - (j + 1))))
unfolding same padded
same_more f g s t j e h = let m : e - j ≡ suc (e - (j + 1)) = omega arith in rw m

pub same_none : (f g : ℕ) (s t : List ℕ) (j e : ℕ) → e ≤ j → same (padded f s j (e - j)) (padded g t j (e - j)) ≡ true
unfolding same padded
same_none f g s t j e h = let m : e - j ≡ 0 = omega arith in rw m

pub place-more : (name names : List ℕ) (k n : ℕ) → k < n
    → place_from name (names_from names k (n - k)) k ≡ cond (same name (name_at names k)) (Some k) (place_from name (names_from names (k + 1) (n - (k + 1))) (k + 1))
unfolding place_from names_from
place-more name names k n h = let e : n - k ≡ suc (n - (k + 1)) = omega arith in rw e

pub place_none : (name names : List ℕ) (k n : ℕ) → n ≤ k → place_from name (names_from names k (n - k)) k ≡ None
unfolding place_from names_from
place_none name names k n h = let e : n - k ≡ 0 = omega arith in rw e

-- so many names
pub names-count : (names : List ℕ) (k n : ℕ) → length (names_from names k n) ≡ n
unfolding names_from
names-count names k zero = refl
names-count names k (suc n) = ap suc (names-count names (k + 1) n)
