-- A file that is not empty is its first line and the lines of what is behind it.
-- By induction on the file. Assumes nothing.
use mathlib.Core.Path.{◌≡◌, refl}
use Prim.Native.Nat.{ℕ, suc, ◌<◌}
use mathlib.Core.List.{List, [], ◌∷◌}
use mathlib.Core.Bool.{Bool, true, false, cond, not}
use lib.ListN.{length, drop}
use lib.Dec.{eqb}
use native.Mathlib.Nat.{not-suc-le-zero}
use native.Mathlib.Numerals.{add-one}
use native.Mathlib.Omega.{arith}
use Rattle.columns.specs.Bytes.{leading}
use Rattle.columns.specs.Lines.{in_front, lines_of, first_line, rest_lines}

-- one byte in front
lines_cons : (t : Bool) (b : ℕ) (s : List ℕ) → lines_of s ≡ first_line s ∷ lines_of (drop (suc (length (first_line s))) s)
    → cond t ([] ∷ lines_of s) (in_front b (lines_of s))
    ≡ cond (not t) (b ∷ first_line s) [] ∷ lines_of (drop (suc (length (cond (not t) (b ∷ first_line s) []))) (b ∷ s))
lines_cons true b s h = refl
lines_cons false b s h = rw h

lines-first : (b : ℕ) (s : List ℕ) → lines_of (b ∷ s) ≡ first_line (b ∷ s) ∷ lines_of (drop (suc (length (first_line (b ∷ s)))) (b ∷ s))
unfolding lines_of leading
lines-first b [] = go (eqb b 10)
  where
    go : (t : Bool) → cond t ([] ∷ lines_of []) (in_front b (lines_of [])) ≡ cond (not t) (b ∷ []) [] ∷ lines_of (drop (suc (length (cond (not t) (b ∷ []) []))) (b ∷ []))
    go true = refl
    go false = refl
lines-first b (x ∷ s) = lines_cons (eqb b 10) b (x ∷ s) (lines-first x s)

pub lines_next : (s : List ℕ) → 0 < length s → lines_of s ≡ first_line s ∷ lines_of (rest_lines s)
lines_next [] h = absurd (not-suc-le-zero h)
lines_next (b ∷ s) h = rw (add-one (length (first_line (b ∷ s)))) (lines-first b s)

pub lines_none : (s : List ℕ) → length s ≡ 0 → lines_of s ≡ []
unfolding lines_of
lines_none [] h = refl
lines_none (b ∷ s) h = absurd (omega arith)
