-- Laws of part 1: a frequency that is read is the card's, and a name and a frequency stored at the next place are the table's last entry.
-- By the clauses of the definitions, and the laws of rows of the table.
use mathlib.Core.Path.{◌≡◌, refl, ◌∙◌}
use Prim.Native.Nat.{ℕ, suc, ◌+◌, ◌-◌, ◌*◌, ◌≤◌, ◌<◌}
use mathlib.Core.List.{List, [], ◌∷◌, ◌++◌}
use native.Mathlib.Omega.{arith}
use native.Mathlib.Nat.{zero-add}
use lib.IntN.{pos, nat_abs}
use lib.ListN.{length, get_or, set, drop}
use lib.Seq.{sets, get_or-set_same, get_or-set_other}
use Rattle.columns.specs.Columns.{padded, columns}
use Rattle.columns.specs.Lines.{lines_of, first_line, rest_lines}
use Rattle.columns.specs.Names.{names_from}
use Rattle.table.specs.Table.{Frequency}
use Rattle.table.specs.inner.View.{listed, frequency_of}
use Rattle.table.proofs.Rows.{listed_same, listed-one-more, row_put, row_kept}
use Rattle.std.specs.Prelude.{Option, Result, Ok, Err}
use Rattle.card.specs.declared.faults.Fault.{Fault}
use Rattle.card.specs.Formats.{frequency_name}
use Rattle.refusals.specs.Checked.{good, ◌>>=◌}
use Rattle.limits.specs.Limits.{most_frequencies}
use Rattle.card.specs.declared.faults.Trouble.TheVariants.{TooManyFrequencies, EndedInFrequencies}
use Rattle.card.specs.Card.{gives, given, ended, onward_or_end}
use Rattle.card_frequencies.specs.Frequencies.{frequency_card, next_frequency, frequencies_from}
use Rattle.columns.proofs.names.Names.{names-count}
use Rattle.card.proofs.lines.Walk.{lines-here, lines_end}
use Rattle.card.specs.inner.Answers.{card_gives}
use Rattle.card.specs.inner.Lines.{next_gives}
use Rattle.card_frequencies.specs.inner.Answers.{frequency_on}
use Rattle.card.proofs.lines.Openings.{had-room}
use Rattle.table.proofs.Names.{names-of}

pub frequency-room : (names line : List ℕ) (n : ℕ) (f : Frequency) → next_frequency (names_from names 0 n) line ≡ gives f → n < most_frequencies
unfolding next_frequency
frequency-room names line n f e = rw (names-count names 0 n) at (had-room most_frequencies TooManyFrequencies (length (names_from names 0 n)) line (frequency_card (names_from names 0 n) line) f e)

-- the frequency is the number in its field
pub frequency-read : (line : List ℕ) (r : Result ℕ Fault) → card_gives (frequency_on line) r ≡ (card_gives pos r >>= λ f. good (record { name = columns line frequency_name 5; frequency = nat_abs f }))
frequency-read line (Ok v) = refl
frequency-read line (Err fault) = refl

-- columns stored one by one
pub store-more : (names line : List ℕ) (a from j w : ℕ) → j < w
    → sets names (a + j) (columns line (from + j) (w - j)) ≡ sets (set names (a + j) (get_or line (from + j) 32)) (a + (j + 1)) (columns line (from + (j + 1)) (w - (j + 1)))
unfolding padded
store-more names line a from j w h =
    let e : w - j ≡ suc (w - (j + 1)) = omega arith in
    let f : from + (j + 1) ≡ from + j + 1 = omega arith in
    let g : a + (j + 1) ≡ suc (a + j) = omega arith in
    rw (e, f, g)

pub store-none : (names line : List ℕ) (a from j w : ℕ) → w ≤ j → sets names (a + j) (columns line (from + j) (w - j)) ≡ names
unfolding padded
store-none names line a from j w h = let e : w - j ≡ 0 = omega arith in rw e

-- a name and a frequency stored at the next place
pub frequency-put : (names speeds name : List ℕ) (v n : ℕ) → length name ≡ 5 → 5 * n + 5 ≤ length names → n < length speeds
    → listed (frequency_of (sets names (5 * n) name) (set speeds n v)) 0 (n + 1) ≡ listed (frequency_of names speeds) 0 n ++ (record { name = name; frequency = v } ∷ [])
unfolding frequency_of
frequency-put names speeds name v n wide fits room =
    listed-one-more (frequency_of (sets names (5 * n) name) (set speeds n v)) 0 n
    ∙ rw (
      zero-add n,
      row_put 0 5 names n name wide fits,
      get_or-set_same speeds n v 0 room,
      listed_same (frequency_of (sets names (5 * n) name) (set speeds n v)) (frequency_of names speeds) 0 n
          (λ k a b. let h : k < n = omega arith in rw (row_kept 0 5 names n name wide k h, get_or-set_other speeds n k v 0 (λ e. omega arith))),
    )

-- the frequencies from byte `at` on, as the code reads the line there and steps to the next; or none left
module _ (file : List ℕ) (at n : ℕ) (names speeds : List ℕ) (count : ℕ) where
  pub frequencies-step : (next : ℕ) (line : List ℕ) (r : Result (Option ℕ) Fault) → at < length file → line ≡ first_line (drop at file) → drop next file ≡ rest_lines (drop at file)
      → next_gives (frequency_on line) r ≡ next_frequency (names_from names 0 count) line
      → frequencies_from (lines_of (drop at file)) n (listed (frequency_of names speeds) 0 count)
      ≡ onward_or_end (next_gives (frequency_on line) r) n (given (listed (frequency_of names speeds) 0 count) (lines_of (drop next file)) (n + 1))
      (λ f. frequencies_from (lines_of (drop next file)) (n + 1) (listed (frequency_of names speeds) 0 count ++ (f ∷ [])))
  unfolding frequencies_from
  frequencies-step next line r h first rest card =
      rw (lines-here file at next line h first rest, names-of names speeds 0 count, ← card)

  pub frequencies-end : length file ≤ at → frequencies_from (lines_of (drop at file)) n (listed (frequency_of names speeds) 0 count) ≡ ended EndedInFrequencies n
  unfolding frequencies_from
  frequencies-end h = rw (lines_end file at h)
