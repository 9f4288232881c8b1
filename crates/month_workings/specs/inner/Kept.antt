-- Only inner contracts cite this: what is kept of the mains that are worked out, each in a row of its V and its sums X and Y. A V of T or more stands for a main that is not yet.
use Rattle.std.specs.Prelude.{ℕ, ◌+◌, ◌*◌, ◌<◌, ◌≡◌, List, ℤ, pos, length, get_or, replicate}
use Rattle.limits.specs.Limits.{most_mains}
use Rattle.angles.specs.Ticks.{turn}
use Rattle.table.specs.inner.View.{listed}
use Rattle.month_arguments.specs.Longitudes.{Longitudes}
use Rattle.month_arguments.specs.inner.Rows.{row_argument, arguments_in}
use Rattle.month_satellites.specs.Latitude.{Factors}
use Rattle.refusals.specs.Checked.{good}
use Rattle.month_pairs.specs.Pairs.{Corrected, start_pair}
use Rattle.month_pairs.specs.inner.Rows.{pairs_of, row_corrected}

-- V of main k of so many (0 past the last)
abbrev pub argument_at : Longitudes → List ℤ → ℕ → ℕ → ℕ
argument_at l angles mains k = get_or (listed (row_argument l angles) 0 mains) k 0

-- the pair of main k of so many, by refusal 11 ((2^20, 0) past the last)
abbrev pub corrected_at : Factors → List ℕ → List ℕ → List ℤ → List ℕ → ℕ → ℕ → Corrected
corrected_at g longitudes cards angles ratios mains k = get_or (listed (row_corrected g longitudes cards angles ratios) 0 mains) k (good start_pair)

-- main k is worked out
abbrev pub Has : List ℤ → ℕ → Type 0
Has kept k = get_or (arguments_in kept) k 0 < turn

-- no main is: every number is T
abbrev pub none_kept : List ℤ
none_kept = replicate (3 * most_mains) (pos turn)

-- V and the pair of every main that is worked out are its own
pub record Kept (argument : ℕ → ℕ) (corrected : ℕ → Corrected) (kept : List ℤ) : Type 0 where
  pub room : length kept ≡ 3 * most_mains
  pub arguments : (k : ℕ) → Has kept k → get_or (arguments_in kept) k 0 ≡ argument k
  pub pairs : (k : ℕ) → Has kept k → get_or (pairs_of kept) k (good start_pair) ≡ corrected k

-- main k is worked out too, and those before still are
pub record WithMain (argument : ℕ → ℕ) (corrected : ℕ → Corrected) (k : ℕ) (before after : List ℤ) : Type 0 where
  pub kept : Kept argument corrected after
  pub has : Has after k
  pub still : (j : ℕ) → Has before j → Has after j

-- the mains of a shallow constituent's parts are worked out, from its row of cards
pub record WithParts (argument : ℕ → ℕ) (corrected : ℕ → Corrected) (card : List ℕ) (after : List ℤ) : Type 0 where
  pub kept : Kept argument corrected after
  pub has : (j : ℕ) → j < get_or card 1 0 → Has after (get_or card (2 + j) 0)
