-- Rows of bytes that keep to a kind, joined: every byte, the bytes it begins with, what is behind them.
-- By induction on the first row. Assumes nothing.
use mathlib.Core.Path.{◌≡◌, refl}
use Prim.Native.Nat.{ℕ, zero, suc}
use mathlib.Core.Bool.{Bool, true, ◌&&◌, and_assoc}
use mathlib.Core.List.{List, [], ◌∷◌, ◌++◌}
use lib.ListN.{replicate}
use lib.Seq.{drop-append_seam}
use Rattle.calendar.proofs.Months.{both}
use Rattle.columns.specs.Bytes.{every, leading, behind}

pub every_append : (kind : ℕ → Bool) (fs bs : List ℕ) → every kind (fs ++ bs) ≡ (every kind fs && every kind bs)
unfolding every
every_append kind [] bs = refl
every_append kind (f ∷ fs) bs = rw (every_append kind fs bs, and_assoc)

pub every-replicate : (kind : ℕ → Bool) (n b : ℕ) → kind b ≡ true → every kind (replicate n b) ≡ true
unfolding every
every-replicate kind zero b h = refl
every-replicate kind (suc n) b h = rw (h, every-replicate kind n b h)

-- a kind within another
pub every-wider : (kind wide : ℕ → Bool) → ((b : ℕ) → kind b ≡ true → wide b ≡ true) → (bs : List ℕ) → every kind bs ≡ true → every wide bs ≡ true
unfolding every
every-wider kind wide within [] h = refl
every-wider kind wide within (b ∷ bs) h = let p = both (kind b) (every kind bs) h in rw (within b p.0, every-wider kind wide within bs p.1)

-- a row of a kind in front of one that does not begin with it
module _ (kind : ℕ → Bool) (bs : List ℕ) (ends : leading kind bs ≡ []) where
  pub leading-front : (fs : List ℕ) → every kind fs ≡ true → leading kind (fs ++ bs) ≡ fs
  unfolding every leading
  leading-front [] h = ends
  leading-front (f ∷ fs) h = let p = both (kind f) (every kind fs) h in rw (p.0, leading-front fs p.1)

  pub behind-front : (fs : List ℕ) → every kind fs ≡ true → behind kind (fs ++ bs) ≡ bs
  unfolding behind
  behind-front fs h = rw (leading-front fs h, drop-append_seam fs bs)
