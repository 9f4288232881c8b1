-- A row of padded columns: its first and the rest, its length, its parts; what is read of a part of a line is read of the line.
-- By induction on the count of columns. Assumes nothing.
use mathlib.Core.Path.{◌≡◌, refl, sym, ap, ◌∙◌}
use Prim.Native.Nat.{ℕ, zero, suc, ◌+◌, ◌-◌, ◌≤◌, ◌<◌, max}
use mathlib.Core.List.{List, [], ◌∷◌}
use mathlib.Core.Bool.{Bool, true, false, cond}
use lib.ListN.{length, get_or, take, drop}
use lib.Seq.{get_or-take, get_or-drop}
use lib.Dec.{leb}
use native.Mathlib.Nat.{le_of_suc-le-suc, not-suc-le-zero, add-zero, sub-zero}
use native.Mathlib.Numerals.{add-one}
use native.Mathlib.Omega.{arith}
use borrow.Author.Tests.{le-leb, lt-leb, leb-true, leb-false}
use Rattle.columns.specs.Bytes.{every, leading, behind}
use Rattle.columns.specs.Columns.{padded}
use Rattle.columns.proofs.Bytes.{leading-cons, leading-short, leading-is, every-leading}

-- within the row the filler does not matter
pub get_d-within : {A : Type 0} (l : List A) (i : ℕ) (d e : A) → i < length l → get_or l i d ≡ get_or l i e
get_d-within [] i d e h = absurd (not-suc-le-zero h)
get_d-within (x ∷ l) zero d e h = refl
get_d-within (x ∷ l) (suc i) d e h = get_d-within l i d e (le_of_suc-le-suc h)

-- the columns from k to e: the first and the others, or none
pub padded-more : (f : ℕ) (s : List ℕ) (k e : ℕ) → k < e → padded f s k (e - k) ≡ get_or s k f ∷ padded f s (k + 1) (e - (k + 1))
unfolding padded
padded-more f s k e h = let m : e - k ≡ suc (e - (k + 1)) = omega arith in rw m

pub padded-none : (f : ℕ) (s : List ℕ) (k e : ℕ) → e ≤ k → padded f s k (e - k) ≡ []
unfolding padded
padded-none f s k e h = let m : e - k ≡ 0 = omega arith in rw m

pub length-padded : (f : ℕ) (s : List ℕ) (k n : ℕ) → length (padded f s k n) ≡ n
unfolding padded
length-padded f s k zero = refl
length-padded f s k (suc n) = ap suc (length-padded f s (k + 1) n)

-- a part that is padded is that part of the padded row
padded-from : (f : ℕ) (s : List ℕ) (a w j n : ℕ) → j + n ≤ w → padded f (take w (drop a s)) j n ≡ padded f s (a + j) n
unfolding padded
padded-from f s a w j zero h = refl
padded-from f s a w j (suc n) h =
    let i : j < w = omega arith in
    let m : j + 1 + n ≤ w = omega arith in
    let e : a + (j + 1) ≡ a + j + 1 = omega arith in
    rw (get_or-take w (drop a s) j f i, get_or-drop a s j f, padded-from f s a w (j + 1) n m, e)

pub padded-part : (f : ℕ) (s : List ℕ) (a w : ℕ) → padded f (take w (drop a s)) 0 w ≡ padded f s a w
padded-part f s a w = let h : 0 + w ≤ w = omega arith in padded-from f s a w 0 w h ∙ ap (λ (k : ℕ). padded f s k w) (add-zero a)

-- a row with as many columns as it has bytes is itself
padded-tail : (f x : ℕ) (s : List ℕ) (k n : ℕ) → padded f (x ∷ s) (k + 1) n ≡ padded f s k n
unfolding padded
padded-tail f x s k zero = refl
padded-tail f x s k (suc n) = rw (padded-tail f x s (k + 1) n, add-one k)

pub padded-all : (f : ℕ) (s : List ℕ) → padded f s 0 (length s) ≡ s
unfolding padded
padded-all f [] = refl
padded-all f (x ∷ s) = rw (padded-tail f x s 0 (length s), padded-all f s)

-- how far a kind goes in the columns from k to e, one column on
pub run_more : (kind : ℕ → Bool) (s : List ℕ) (k e : ℕ) → k < e
    → length (leading kind (padded 32 s k (e - k))) ≡ cond (kind (get_or s k 32)) (suc (length (leading kind (padded 32 s (k + 1) (e - (k + 1)))))) 0
run_more kind s k e h = rw (padded-more 32 s k e h) (leading-cons kind (get_or s k 32) (padded 32 s (k + 1) (e - (k + 1))))

pub run_none : (kind : ℕ → Bool) (s : List ℕ) (k e : ℕ) → e ≤ k → length (leading kind (padded 32 s k (e - k))) ≡ 0
unfolding leading
run_none kind s k e h = rw (padded-none 32 s k e h)

-- a kind goes through the columns from k to e when it goes at least to e
pub every-run : (kind : ℕ → Bool) (s : List ℕ) (k e : ℕ) → every kind (padded 32 s k (e - k)) ≡ leb e (k + length (leading kind (padded 32 s k (e - k))))
every-run kind s k e = rw (every-leading kind (padded 32 s k (e - k)), length-padded 32 s k (e - k)) (shift (length (leading kind (padded 32 s k (e - k)))) e k)
  where
    shift : (n e k : ℕ) → leb (e - k) n ≡ leb e (k + n)
    shift n e k = go (leb (e - k) n) refl
      where
        go : (t : Bool) → leb (e - k) n ≡ t → t ≡ leb e (k + n)
        go true h = let m : e ≤ k + n = omega (arith, leb-true (e - k) n h) in sym (le-leb _ _ m)
        go false h = let m : k + n < e = omega (arith, leb-false (e - k) n h) in sym (lt-leb _ _ m)

-- parts of a row of columns
padded-take : (f : ℕ) (s : List ℕ) (k n m : ℕ) → m ≤ n → take m (padded f s k n) ≡ padded f s k m
unfolding padded
padded-take f s k n zero h = refl
padded-take f s k zero (suc m) h = absurd (not-suc-le-zero h)
padded-take f s k (suc n) (suc m) h = rw (padded-take f s (k + 1) n m (le_of_suc-le-suc h))

pub padded-drop : (f : ℕ) (s : List ℕ) (k n m : ℕ) → drop m (padded f s k n) ≡ padded f s (k + m) (n - m)
unfolding padded
padded-drop f s k n zero = rw (add-zero k, sub-zero n)
padded-drop f s k zero (suc m) = let z : 0 - suc m ≡ 0 = omega arith in rw z
padded-drop f s k (suc n) (suc m) =
    let e : k + suc m ≡ k + 1 + m = omega arith in
    let d : suc n - suc m ≡ n - m = omega arith in
    rw (padded-drop f s (k + 1) n m, e, d)

-- the columns from k to e, without the first
pub padded-next : (f : ℕ) (s : List ℕ) (k e : ℕ) → drop 1 (padded f s k (e - k)) ≡ padded f s (k + 1) (e - (k + 1))
padded-next f s k e = let d : e - k - 1 ≡ e - (k + 1) = omega arith in rw (padded-drop f s k (e - k) 1, d)

-- where a kind ends at column r, it is in the columns from k to r, and behind it are those from r to e
module _ (kind : ℕ → Bool) (s : List ℕ) (k e r : ℕ) (ends : r ≡ k + length (leading kind (padded 32 s k (e - k)))) where
  pub run-within : (k ≤ r) × (r ≤ max k e)
  run-within = let h = leading-short kind (padded 32 s k (e - k)) in (omega arith, omega (arith, length-padded 32 s k (e - k)))

  pub run-leading : leading kind (padded 32 s k (e - k)) ≡ padded 32 s k (r - k)
  run-leading =
      let cs = padded 32 s k (e - k) in
      let m : length (leading kind cs) ≤ e - k = omega (arith, leading-short kind cs, length-padded 32 s k (e - k)) in
      let d : r - k ≡ length (leading kind cs) = omega arith in
      rw d (leading-is kind cs ∙ padded-take 32 s k (e - k) (length (leading kind cs)) m)

  pub run-behind : behind kind (padded 32 s k (e - k)) ≡ padded 32 s r (e - r)
  unfolding behind
  run-behind =
      let n = length (leading kind (padded 32 s k (e - k))) in
      let d : e - k - n ≡ e - (k + n) = omega arith in
      rw (ends, padded-drop 32 s k (e - k) n, d)
