-- Line n of a text, walked to line by line. Assumes nothing.
use Prim.Native.Nat.{ℕ, ◌+◌, ◌-◌, ◌<◌}
use mathlib.Core.Path.{◌≡◌, refl}
use mathlib.Core.List.{List, [], ◌∷◌}
use native.Mathlib.Numerals.{add-one}
use native.Mathlib.Omega.{arith}
use lib.ListN.{length}
use Rattle.columns.specs.Bytes.{leading}
use Rattle.columns.specs.Lines.{lines_of, first_line, rest_lines}
use Rattle.columns.proofs.Lines.{lines_next}
use Rattle.messages.specs.Lines.{line_at}

-- what is behind the first line has the next line one nearer; behind the end is nothing
pub line_next : (s : List ℕ) (n : ℕ) → line_at (lines_of s) (n + 1) ≡ line_at (lines_of (rest_lines s)) n
unfolding line_at lines_of leading
line_next [] n = refl
line_next (b ∷ s) n = let h : 0 < length (b ∷ s) = omega arith in rw (lines_next (b ∷ s) h, add-one n) refl

pub line_first : (s : List ℕ) → line_at (lines_of s) 0 ≡ first_line s
unfolding line_at lines_of leading
line_first [] = refl
line_first (b ∷ s) = let h : 0 < length (b ∷ s) = omega arith in rw (lines_next (b ∷ s) h) refl

-- one line nearer, where lines are left to pass
pub line_passed : (s : List ℕ) (n i : ℕ) → i < n → line_at (lines_of s) (n - i) ≡ line_at (lines_of (rest_lines s)) (n - (i + 1))
line_passed s n i h = let e : n - i ≡ n - (i + 1) + 1 = omega arith in rw e (line_next s (n - (i + 1)))
