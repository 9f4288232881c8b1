-- The input lines that lines that are parsed take: one each, none where the line is bad. Assumes nothing.
use Rattle.std.proofs.Common.{◌≡◌, ℕ, suc, ◌+◌, ◌%◌, ◌^◌, refl, ap, ◌∙◌, arith}
use Rattle.transcript.specs.inner.Window.{lines_below}

pub below_none : (line : ℕ) → line ≡ lines_below line 0
unfolding lines_below
below_none line = refl

pub below_more : (line k : ℕ) → (lines_below line k + 1) % 2 ^ 64 ≡ lines_below line (k + 1)
unfolding lines_below
below_more line k = let s : k + 1 ≡ suc k = omega arith in rw s refl

-- one line
pub taken_one : (line next : ℕ) → next ≡ (line + 1) % 2 ^ 64 → next ≡ lines_below line 1
unfolding lines_below
taken_one line next e = e ∙ below_more line 0

-- a line behind k of them
pub taken_more : (line k held next : ℕ) → held ≡ lines_below line k → next ≡ lines_below held 1 → next ≡ lines_below line (k + 1)
unfolding lines_below
taken_more line k held next h n = n ∙ ap (λ (i : ℕ). (i + 1) % 2 ^ 64) h ∙ below_more line k
