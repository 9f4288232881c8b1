-- Bytes stored one run after another: what is left to store gives, from here on, what all of it gives from the beginning.
-- By recursion on a run. Assumes nothing.
use mathlib.Core.Path.{◌≡◌, refl, sym, ap, ◌∙◌}
use mathlib.Core.List.{List, [], ◌∷◌, ◌++◌}
use Prim.Native.Nat.{ℕ, suc, ◌+◌}
use native.Mathlib.Omega.{arith}
use native.Mathlib.Nat.{add-zero}
use lib.ListN.{length, set}
use lib.Seq.{sets, length-sets}

module _ {A : Type 0} where
  -- two runs, one behind the other, are one
  pub sets-append : (l : List A) (i : ℕ) (xs ys : List A) → sets l i (xs ++ ys) ≡ sets (sets l i xs) (i + length xs) ys
  sets-append l i [] ys = rw (add-zero i)
  sets-append l i (x ∷ xs) ys = let e : i + suc (length xs) ≡ suc i + length xs = omega arith in rw e (sets-append (set l i x) (suc i) xs ys)

  -- `all` is to be stored from `at` on; `rest` of it is left, from `next` on
  pub record Left (before : List A) (at : ℕ) (all now : List A) (next : ℕ) (rest : List A) : Type 0 where
    pub same_length : length now ≡ length before
    pub left : sets now next rest ≡ sets before at all

  pub left-all : (before : List A) (at : ℕ) (all : List A) → Left before at all before at all
  left-all before at all = record { same_length = refl; left = refl }

  module _ {before : List A} {at : ℕ} {all now : List A} {next : ℕ} where
    -- the next run is stored, up to a place
    pub left-next : (xs : List A) {rest after : List A} (place : ℕ) → Left before at all now next (xs ++ rest) → after ≡ sets now next xs → next + length xs ≡ place → Left before at all after place rest
    left-next xs {rest} {after} place l e ends =
        record {
          same_length = ap length e ∙ (length-sets now next xs ∙ l.same_length);
          left = rw (e, ← ends) (sym (sets-append now next xs rest) ∙ l.left);
        }

    -- and the last
    pub left-last : (xs : List A) {after : List A} → Left before at all now next xs → after ≡ sets now next xs → after ≡ sets before at all
    left-last xs l e = e ∙ l.left

    -- nothing is left
    pub left-none : Left before at all now next [] → now ≡ sets before at all
    left-none l = l.left
