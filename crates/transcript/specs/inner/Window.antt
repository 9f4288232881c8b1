-- Only inner contracts cite this: where what is read and not yet taken stands in a buffer of n bytes, and the line feeds there. Assumes nothing.
use Rattle.std.specs.Prelude.{ℕ, zero, suc, ◌+◌, ◌%◌, ◌^◌, ◌<◌, ◌≤◌, Option, IfSome, Bool, true, false, List, ◌==◌, slice_index}
use Rattle.transcript.specs.declared.input.Window.{Window}

pub record Within (n : ℕ) (w : Window) : Type 0 where
  pub ordered : w.from ≤ w.to
  pub inside : w.to ≤ n

-- where a line ends that begins where the window does: in the window, if its LF was read
pub record Ends (n : ℕ) (w : Window) (end : Option ℕ) : Type 0 where
  pub within : Within n w
  pub inside : IfSome end (λ e. (w.from ≤ e) × (e < w.to))

-- 1 where a test holds, else 0
abbrev pub one_if : Bool → ℕ
one_if true = 1
one_if false = 0

-- how many of n bytes, from byte k on, are LF (10)
unfoldable pub feeds_from : List ℕ → ℕ → ℕ → ℕ
feeds_from bytes k zero = 0
feeds_from bytes k (suc n) = one_if (slice_index bytes k == 10) + feeds_from bytes (k + 1) n

-- the input line that many lines below a line, as it is counted in 64 bits
unfoldable pub lines_below : ℕ → ℕ → ℕ
lines_below line zero = line
lines_below line (suc n) = (lines_below line n + 1) % 2 ^ 64
