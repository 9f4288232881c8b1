-- How many bytes of a kind a row begins with: at most all of them, and all where every byte is of the kind.
-- By induction on the row. Assumes nothing.
use mathlib.Core.Path.{◌≡◌, refl, ap}
use Prim.Native.Nat.{ℕ, suc, ◌≤◌}
use mathlib.Core.List.{List, [], ◌∷◌}
use mathlib.Core.Bool.{Bool, true, false, cond, ◌&&◌}
use lib.ListN.{length, take}
use lib.Dec.{leb, leb-suc-zero, leb-suc-suc}
use native.Mathlib.Omega.{arith}
use Rattle.columns.specs.Bytes.{every, leading}

-- one byte more: it counts where it is of the kind, and ends the count where not
pub leading-cons : (kind : ℕ → Bool) (b : ℕ) (bs : List ℕ) → length (leading kind (b ∷ bs)) ≡ cond (kind b) (suc (length (leading kind bs))) 0
unfolding leading
leading-cons kind b bs = go (kind b)
  where
    go : (t : Bool) → length (cond t (b ∷ leading kind bs) []) ≡ cond t (suc (length (leading kind bs))) 0
    go true = refl
    go false = refl

pub leading-short : (kind : ℕ → Bool) (bs : List ℕ) → length (leading kind bs) ≤ length bs
unfolding leading
leading-short kind [] = omega arith
leading-short kind (b ∷ bs) = go (kind b) (leading-short kind bs)
  where
    go : (t : Bool) → length (leading kind bs) ≤ length bs → length (cond t (b ∷ leading kind bs) []) ≤ suc (length bs)
    go true h = omega arith
    go false h = omega arith

pub leading-is : (kind : ℕ → Bool) (bs : List ℕ) → leading kind bs ≡ take (length (leading kind bs)) bs
unfolding leading
leading-is kind [] = refl
leading-is kind (b ∷ bs) = go (kind b) (leading-is kind bs)
  where
    go : (t : Bool) → leading kind bs ≡ take (length (leading kind bs)) bs → cond t (b ∷ leading kind bs) [] ≡ take (length (cond t (b ∷ leading kind bs) [])) (b ∷ bs)
    go true h = ap (λ (l : List ℕ). b ∷ l) h
    go false h = refl

pub every-leading : (kind : ℕ → Bool) (bs : List ℕ) → every kind bs ≡ leb (length bs) (length (leading kind bs))
unfolding every leading
every-leading kind [] = refl
every-leading kind (b ∷ bs) = go (kind b) (every-leading kind bs)
  where
    go : (t : Bool) → every kind bs ≡ leb (length bs) (length (leading kind bs)) → (t && every kind bs) ≡ leb (suc (length bs)) (length (cond t (b ∷ leading kind bs) []))
    go true h = rw (leb-suc-suc) h
    go false h = rw (leb-suc-zero)
