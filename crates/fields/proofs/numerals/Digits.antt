-- The number that digits write, one digit on; and that a cap put on it between two digits shows only as a cap on the end:
-- what is at least the cap stays so with any digit more. By induction on the digits. Assumes nothing.
use mathlib.Core.Path.{◌≡◌, refl}
use Prim.Native.Nat.{ℕ, zero, suc, ◌+◌, ◌-◌, ◌*◌, ◌≤◌, ◌<◌, min}
use mathlib.Core.List.{List, [], ◌∷◌, ◌++◌}
use mathlib.Core.Bool.{true, false}
use lib.ListN.{get_or, replicate}
use lib.Dec.{eqb}
use native.Mathlib.Omega.{arith}
use Rattle.columns.specs.Columns.{columns, padded}
use Rattle.columns.proofs.Columns.{padded-more, padded-none}
use Rattle.fields.specs.Numerals.{begins, numeral}

pub numeral-more : (s : List ℕ) (v k e : ℕ) → k < e
    → numeral v (columns s k (e - k)) ≡ numeral (10 * v + (get_or s k 32 - 48)) (columns s (k + 1) (e - (k + 1)))
unfolding numeral
numeral-more s v k e h = rw (padded-more 32 s k e h)

pub numeral-none : (s : List ℕ) (v k e : ℕ) → e ≤ k → numeral v (columns s k (e - k)) ≡ v
unfolding numeral
numeral-none s v k e h = rw (padded-none 32 s k e h)

pub numeral-append : (v : ℕ) (ds es : List ℕ) → numeral v (ds ++ es) ≡ numeral (numeral v ds) es
unfolding numeral
numeral-append v [] es = refl
numeral-append v (d ∷ ds) es = numeral-append (10 * v + (d - 48)) ds es

pub zeros-more : (v i n : ℕ) → i < n → numeral v (replicate (n - i) 48) ≡ numeral (10 * v + 0) (replicate (n - (i + 1)) 48)
unfolding numeral
zeros-more v i n h = let e : n - i ≡ suc (n - (i + 1)) = omega arith in rw e

pub zeros-none : (v i n : ℕ) → n ≤ i → numeral v (replicate (n - i) 48) ≡ v
unfolding numeral
zeros-none v i n h = let e : n - i ≡ 0 = omega arith in rw e

capped-numeral : (c x y : ℕ) (ds : List ℕ) → min c x ≡ min c y → min c (numeral x ds) ≡ min c (numeral y ds)
unfolding numeral
capped-numeral c x y [] h = h
capped-numeral c x y (d ∷ ds) h =
    let e : min c (10 * x + (d - 48)) ≡ min c (10 * y + (d - 48)) = omega arith in
    capped-numeral c (10 * x + (d - 48)) (10 * y + (d - 48)) ds e

pub capped-before : (c n x : ℕ) (ds : List ℕ) → n ≡ min c x → min c (numeral n ds) ≡ min c (numeral x ds)
capped-before c n x ds h = let e : min c n ≡ min c x = omega arith in capped-numeral c n x ds e

-- a byte begins the columns from k to e where it stands in column k, below e
pub begins-more : (b : ℕ) (s : List ℕ) (k e : ℕ) → k < e → begins b (columns s k (e - k)) ≡ eqb (get_or s k 32) b
unfolding begins
begins-more b s k e h = rw (padded-more 32 s k e h)

pub begins-none : (b : ℕ) (s : List ℕ) (k e : ℕ) → e ≤ k → begins b (columns s k (e - k)) ≡ false
unfolding begins
begins-none b s k e h = rw (padded-none 32 s k e h)

pub begins-within : (b : ℕ) (s : List ℕ) (k e : ℕ) → begins b (columns s k (e - k)) ≡ true → k < e
unfolding begins padded
begins-within b s k e h = go (e - k) refl h
  where
    go : (n : ℕ) → e - k ≡ n → begins b (columns s k n) ≡ true → k < e
    go zero m t = let z : ◌≡◌ {A = ℕ} 0 1 = cc in omega arith
    go (suc n) m t = omega arith
