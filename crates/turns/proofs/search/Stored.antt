-- A list stored from the front of another, as far as there are places: a store past the end changes nothing. By the laws of `sets`.
-- Assumes nothing.
use mathlib.Core.Path.{◌≡◌, refl, ◌∙◌}
use mathlib.Core.List.{List, [], ◌∷◌}
use Prim.Native.Nat.{ℕ, zero, suc, ◌+◌, ◌≤◌}
use native.Mathlib.Nat.{zero-add}
use native.Mathlib.Omega.{arith}
use lib.ListN.{length, set, take, length-set, length-take}
use lib.Seq.{sets, sets-eq, set_out, take_all, take_at}
use Rattle.turns.specs.Written.{from_front}

module _ {A : Type 0} where
  pub stored-all : (vs l : List A) → length vs ≤ length l → sets l 0 vs ≡ from_front vs l
  stored-all vs l h = let e = zero-add (length vs) in sets-eq vs l 0 (omega arith) ∙ rw e

  sets-past : (vs l : List A) (i : ℕ) → length l ≤ i → sets l i vs ≡ l
  sets-past [] l i h = refl
  sets-past (v ∷ vs) l i h = rw (set_out l i v h) (sets-past vs l (suc i) (omega arith))

  -- the stores for which there are n places, or more
  sets-room : (n : ℕ) (vs l : List A) (i : ℕ) → length l ≤ i + n → sets l i vs ≡ sets l i (take n vs)
  sets-room zero vs l i h = sets-past vs l i (omega arith)
  sets-room (suc n) [] l i h = refl
  sets-room (suc n) (v ∷ vs) l i h = sets-room n vs (set l i v) (suc i) (omega (arith, length-set l i v))

  pub stored-in-front : (vs l : List A) → sets l 0 vs ≡ from_front (take (length l) vs) l
  stored-in-front vs l =
      sets-room (length l) vs l 0 (omega arith) ∙ stored-all (take (length l) vs) l (omega (arith, length-take (length l) vs))

  -- where there is room for all
  pub all-in-front : (vs l : List A) → length vs ≤ length l → from_front (take (length l) vs) l ≡ from_front vs l
  all-in-front vs l h = rw (take_all (length l) vs h)

  pub taken-from-front : (vs l : List A) {n : ℕ} → length vs ≡ n → take n (from_front vs l) ≡ vs
  taken-from-front vs l {n} e = take_at vs _ n e
