-- Laws of places: a place that a name finds is one of those counted, and the searches through rows of cards go one row on.
-- By induction on the names, and by the clauses of the definitions. Assumes nothing.
use mathlib.Core.Path.{◌≡◌, refl}
use Prim.Native.Nat.{ℕ, zero, suc, ◌+◌, ◌-◌, ◌*◌, ◌≤◌, ◌<◌}
use mathlib.Core.List.{List, [], ◌∷◌, ◌++◌}
use mathlib.Core.Bool.{Bool, true, false, cond, ◌||◌}
use lib.Dec.{eqb}
use lib.ListN.{get_or}
use native.Mathlib.Omega.{arith}
use Rattle.columns.specs.Names.{same, names_from, place_from, place_of}
use Rattle.std.specs.Prelude.{Some}
use Rattle.table.specs.inner.View.{listed}
use Rattle.table.proofs.Rows.{listed_next, listed-end}
use Rattle.refusals.specs.Checked.{good, bad}
use Rattle.refusals.specs.Places.{is_among}
use Rattle.card.specs.Places.{not_main, main_at}

-- names from place k on are found at place k or above, and below their end
place-before : (name names : List ℕ) (k n place : ℕ) → place_from name (names_from names k n) k ≡ Some place → place < k + n
unfolding place_from names_from
place-before name names k zero place e = let z : ◌≡◌ {A = ℕ} 0 1 = cc in absurd (omega arith)
place-before name names k (suc n) place e = go (same name _) e (λ h. place-before name names (k + 1) n place h)
  where
    go : (t : Bool) → cond t (Some k) (place_from name (names_from names (k + 1) n) (k + 1)) ≡ Some place
        → (place_from name (names_from names (k + 1) n) (k + 1) ≡ Some place → place < k + 1 + n) → place < k + suc n
    go true q later = let p : k ≡ place = cc in omega arith
    go false q later = omega (arith, later q)

pub place-within : (name names : List ℕ) (n place : ℕ) → place_of name (names_from names 0 n) ≡ Some place → place < n
place-within name names n place e = omega (arith, place-before name names 0 n place e)

-- the rows of cards from row k on: one row on, or none left
module _ (place width : ℕ) (cards : List ℕ) (k count : ℕ) where
  pub among-more : k < count → is_among place (listed (λ i. get_or cards (width * i) 0) k (count - k)) ≡ (eqb place (get_or cards (width * k) 0) || is_among place (listed (λ i. get_or cards (width * i) 0) (k + 1) (count - (k + 1))))
  unfolding is_among
  among-more h = rw (listed_next (λ i. get_or cards (width * i) 0) k count h)

  pub among_none : count ≤ k → is_among place (listed (λ i. get_or cards (width * i) 0) k (count - k)) ≡ false
  unfolding is_among
  among_none h = rw (listed-end (λ i. get_or cards (width * i) 0) k count h)

  pub main-more : (j : ℕ) → k < count → main_at j place (listed (λ i. get_or cards (width * i) 0) k (count - k)) k ≡ cond (eqb place (get_or cards (width * k) 0)) (good k) (main_at j place (listed (λ i. get_or cards (width * i) 0) (k + 1) (count - (k + 1))) (k + 1))
  unfolding main_at
  main-more j h = rw (listed_next (λ i. get_or cards (width * i) 0) k count h)

  pub main-none : (j : ℕ) → count ≤ k → main_at j place (listed (λ i. get_or cards (width * i) 0) k (count - k)) k ≡ bad (not_main j)
  unfolding main_at
  main-none j h = rw (listed-end (λ i. get_or cards (width * i) 0) k count h)

-- among places of two kinds
pub among-both : (place : ℕ) (ps qs : List ℕ) → is_among place (ps ++ qs) ≡ (is_among place ps || is_among place qs)
unfolding is_among
among-both place [] qs = refl
among-both place (p ∷ ps) qs = go (eqb place p) (among-both place ps qs)
  where
    go : (t : Bool) → is_among place (ps ++ qs) ≡ (is_among place ps || is_among place qs) → (t || is_among place (ps ++ qs)) ≡ ((t || is_among place ps) || is_among place qs)
    go true e = refl
    go false e = e
