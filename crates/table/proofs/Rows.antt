-- Laws of the view: entries counted out, and rows of an array. Writing row n of an array gives that row and leaves those before it,
-- so that a table's list grows by one entry at its end. By recursion on how many are left, and on the numbers written.
use mathlib.Core.Path.{◌≡◌, refl, sym, ap, ◌∙◌}
use mathlib.Core.List.{List, [], ◌∷◌, ◌++◌}
use Prim.Native.Nat.{ℕ, zero, suc, ◌+◌, ◌-◌, ◌*◌, ◌≤◌, ◌<◌}
use native.Mathlib.Omega.{arith}
use native.Mathlib.Nat.{add-zero, zero-add, not-suc-le-zero, mul-le-mul_left, mul-suc}
use native.Mathlib.Numerals.{add-one}
use lib.IntN.{ℤ}
use lib.ListN.{length, get_or, set, take, drop, length-set, drop_of_length-le}
use lib.Seq.{sets, drop-cons, get_or-set_same, get_or-set_other, get_or-take, length-take-le, ext_get_or}
use Rattle.table.specs.inner.View.{listed, row_of}

module _ {A : Type 0} where
  -- entries that are equal one by one make equal lists
  pub listed_same : (f g : ℕ → A) (k n : ℕ) → ((j : ℕ) → k ≤ j → j < k + n → f j ≡ g j) → listed f k n ≡ listed g k n
  unfolding listed
  listed_same f g k zero h = refl
  listed_same f g k (suc n) h =
      let first : f k ≡ g k = h k (omega arith) (omega arith) in
      let rest : listed f (suc k) n ≡ listed g (suc k) n = listed_same f g (suc k) n (λ j a b. h j (omega arith) (omega arith)) in
      rw (first, rest)

  -- one entry more stands at the end
  pub listed-one-more : (f : ℕ → A) (k n : ℕ) → listed f k (n + 1) ≡ listed f k n ++ (f (k + n) ∷ [])
  unfolding listed
  listed-one-more f k n = rw (add-one n) (more k n)
    where
      more : (k n : ℕ) → listed f k (suc n) ≡ listed f k n ++ (f (k + n) ∷ [])
      more k zero = rw (add-zero k)
      more k (suc n) = let e : suc k + n ≡ k + suc n = omega arith in ap (λ (l : List A). f k ∷ l) (rw e at (more (suc k) n))

  pub listed-length : (f : ℕ → A) (k n : ℕ) → length (listed f k n) ≡ n
  unfolding listed
  listed-length f k zero = refl
  listed-length f k (suc n) = ap suc (listed-length f (suc k) n)

  pub listed_at : (f : ℕ → A) (k n i : ℕ) (none : A) → i < n → get_or (listed f k n) i none ≡ f (k + i)
  unfolding listed
  listed_at f k zero i none h = absurd (not-suc-le-zero h)
  listed_at f k (suc n) zero none h = rw (add-zero k)
  listed_at f k (suc n) (suc i) none h = let e : suc k + i ≡ k + suc i = omega arith in rw e at (listed_at f (suc k) n i none (omega arith))

  -- what is left of the entries before `end`, at k
  pub listed_next : (f : ℕ → A) (k end : ℕ) → k < end → listed f k (end - k) ≡ f k ∷ listed f (k + 1) (end - (k + 1))
  unfolding listed
  listed_next f k end h = let e : end - k ≡ suc (end - (k + 1)) = omega arith in rw (e, add-one k)

  pub listed-end : (f : ℕ → A) (k end : ℕ) → end ≤ k → listed f k (end - k) ≡ []
  unfolding listed
  listed-end f k end h = let e : end - k ≡ 0 = omega arith in rw e

  -- a run of stores leaves what stands before it
  pub sets-before : (xs : List A) (i : ℕ) (vs : List A) (j : ℕ) (d : A) → j < i → get_or (sets xs i vs) j d ≡ get_or xs j d
  sets-before xs i [] j d h = refl
  sets-before xs i (v ∷ vs) j d h = sets-before (set xs i v) (suc i) vs j d (omega arith) ∙ get_or-set_other xs i j v d (λ e. omega arith)

  -- and gives its own numbers where it stands
  pub sets-within : (xs : List A) (i : ℕ) (vs : List A) (j : ℕ) (d : A) → j < length vs → i + length vs ≤ length xs → get_or (sets xs i vs) (i + j) d ≡ get_or vs j d
  sets-within xs i [] j d h fits = absurd (not-suc-le-zero h)
  sets-within xs i (v ∷ vs) zero d h fits = rw (add-zero i) (sets-before (set xs i v) (suc i) vs i d (omega arith) ∙ get_or-set_same xs i v d (omega arith))
  sets-within xs i (v ∷ vs) (suc j) d h fits =
      let e : suc i + j ≡ i + suc j = omega arith in
      rw e at (sets-within (set xs i v) (suc i) vs j d (omega arith) (omega (arith, length-set xs i v)))

  -- a run of stores with one number more at its end
  pub sets-one-more : (xs : List A) (i : ℕ) (vs : List A) (v : A) → sets xs i (vs ++ (v ∷ [])) ≡ set (sets xs i vs) (i + length vs) v
  sets-one-more xs i [] v = rw (add-zero i)
  sets-one-more xs i (a ∷ vs) v = let e : i + suc (length vs) ≡ suc i + length vs = omega arith in rw e (sets-one-more (set xs i a) (suc i) vs v)

  -- the first n numbers of a row, counted out
  pub take-listed : (xs : List A) (n : ℕ) (d : A) → n ≤ length xs → take n xs ≡ listed (λ i. get_or xs i d) 0 n
  take-listed xs n d h =
      ext_get_or d (take n xs) (listed (λ i. get_or xs i d) 0 n) (length-take-le n xs h ∙ sym (listed-length (λ i. get_or xs i d) 0 n))
      (λ i b.
      let k : i < n = omega (arith, length-take-le n xs h) in
      get_or-take n xs i d k ∙ sym (rw zero-add at (listed_at (λ i. get_or xs i d) 0 n i d k)))

  -- entries in two runs
  pub listed-both : (f : ℕ → A) (k n m : ℕ) → listed f k (n + m) ≡ listed f k n ++ listed f (k + n) m
  unfolding listed
  listed-both f k zero m = rw (zero-add m, add-zero k)
  listed-both f k (suc n) m =
      let e : suc n + m ≡ suc (n + m) = omega arith in
      let g : k + suc n ≡ suc k + n = omega arith in
      rw (e, g) (ap (λ (l : List A). f k ∷ l) (listed-both f (suc k) n m))

  -- number j of row k
  pub row_at : (none : A) (width : ℕ) (xs : List A) (k j : ℕ) → j < width → get_or (row_of none width xs k) j none ≡ get_or xs (width * k + j) none
  unfolding row_of
  row_at none width xs k j h = rw zero-add at (listed_at (λ i. get_or xs (width * k + i) none) 0 width j none h)

  pub row-length : (none : A) (width : ℕ) (xs : List A) (k : ℕ) → length (row_of none width xs k) ≡ width
  unfolding row_of
  row-length none width xs k = listed-length (λ i. get_or xs (width * k + i) none) 0 width

  module _ (none : A) (width : ℕ) (xs : List A) (n : ℕ) (row : List A) (wide : length row ≡ width) where
    -- the row that was written
    pub row_put : width * n + width ≤ length xs → row_of none width (sets xs (width * n) row) n ≡ row
    row_put fits =
        ext_get_or none (row_of none width (sets xs (width * n) row) n) row (row-length none width (sets xs (width * n) row) n ∙ sym wide)
        (λ i h.
        let h' : i < width = omega (arith, row-length none width (sets xs (width * n) row) n) in
        row_at none width (sets xs (width * n) row) n i h' ∙ sets-within xs (width * n) row i none (omega arith) (omega arith))

    -- a row before it
    pub row_kept : (k : ℕ) → k < n → row_of none width (sets xs (width * n) row) k ≡ row_of none width xs k
    unfolding row_of
    row_kept k h =
        listed_same (λ j. get_or (sets xs (width * n) row) (width * k + j) none) (λ j. get_or xs (width * k + j) none) 0 width
        (λ j a b. sets-before xs (width * n) row (width * k + j) none (omega (arith, mul-le-mul_left width h, mul-suc width k)))

-- a row copied number by number, j of them so far: storing what is left of it gives what storing all of it gives
pub record Copied {A : Type 0} (before : List A) (at : ℕ) (row now : List A) (j : ℕ) : Type 0 where
  pub same_length : length now ≡ length before
  pub rest : sets now (at + j) (drop j row) ≡ sets before at row

module _ {A : Type 0} {before row : List A} {at : ℕ} where
  pub copied_none : Copied before at row before 0
  copied_none = record { same_length = refl; rest = rw (add-zero at) }

  pub copied_next : {now : List A} {j : ℕ} (d : A) → j < length row → Copied before at row now j → Copied before at row (set now (at + j) (get_or row j d)) (j + 1)
  copied_next {now} {j} d h c =
      let e : at + (j + 1) ≡ suc (at + j) = omega arith in
      record { same_length = length-set now (at + j) (get_or row j d) ∙ c.same_length; rest = rw (e, add-one j) (rw (drop-cons row j d h) at c.rest) }

  pub copied_all : {now : List A} {j : ℕ} → length row ≤ j → Copied before at row now j → now ≡ sets before at row
  copied_all h c = rw (drop_of_length-le row h) at c.rest

-- the rows up to the one that was written: one more, at the end
pub rows-put : {A : Type 0} (none : A) (width : ℕ) (xs : List A) (n : ℕ) (row : List A) → length row ≡ width → width * n + width ≤ length xs
    → listed (row_of none width (sets xs (width * n) row)) 0 (n + 1) ≡ listed (row_of none width xs) 0 n ++ (row ∷ [])
rows-put none width xs n row wide fits =
    listed-one-more (row_of none width (sets xs (width * n) row)) 0 n
    ∙ rw (
      zero-add n,
      row_put none width xs n row wide fits,
      listed_same (row_of none width (sets xs (width * n) row)) (row_of none width xs) 0 n (λ k a b. row_kept none width xs n row wide k (omega arith)),
    )

-- a row of numbers and one more
pub ends_with : (angles : List ℤ) (start : ℕ) (ds : List ℤ) (p : ℤ) (n : ℕ) → length ds ≡ n → set (sets angles start ds) (start + n) p ≡ sets angles start (ds ++ (p ∷ []))
ends_with angles start ds p n e = rw (← e) (sym (sets-one-more angles start ds p))
