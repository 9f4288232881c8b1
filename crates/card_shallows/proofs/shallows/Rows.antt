-- Laws of part 4: the places of its constituents, a constituent stored in the next rows, and the cards from a byte of the file on.
-- By the clauses of the definitions, the laws of rows of the table and of lines of the file.
use mathlib.Core.Path.{◌≡◌, refl, sym, ap, ◌∙◌}
use mathlib.Core.List.{List, [], ◌∷◌, ◌++◌}
use Prim.Native.Nat.{ℕ, zero, suc, ◌+◌, ◌*◌, ◌≤◌, ◌<◌}
use native.Mathlib.Omega.{arith}
use native.Mathlib.Nat.{zero-add, add-zero}
use lib.IntN.{ℤ, pos}
use lib.ListN.{length, get_or, drop}
use lib.Seq.{sets}
use Rattle.columns.specs.Lines.{lines_of, first_line, rest_lines}
use Rattle.table.specs.inner.View.{listed, shallow_of}
use Rattle.table.proofs.Rows.{listed_same, listed-one-more, listed-length, row_at, row_put, row_kept}
use Rattle.limits.specs.Limits.{most_shallows}
use Rattle.card.specs.declared.faults.Trouble.TheVariants.{TooManyShallows, EndedInShallows}
use Rattle.card.specs.Card.{given, ended, onward_or_end}
use Rattle.card_shallows.specs.Shallow.{shallow_card, next_shallow}
use Rattle.card_shallows.specs.Shallows.{shallow_places, shallows_from}
use Rattle.card.specs.inner.Places.{places_in}
use Rattle.card.proofs.lines.Walk.{lines-here, lines_end}
use Rattle.card.proofs.lines.Openings.{had-room}
use Rattle.std.specs.Prelude.{Option, Some, Result, Ok}
use Rattle.card.specs.declared.faults.Fault.{Fault}
use Rattle.card.specs.inner.Lines.{next_gives}
use Rattle.card_shallows.specs.inner.Answers.{in_rows, in_row}
use Rattle.card_shallows.specs.declared.parts.ShallowRow.{ShallowRow}

-- a row begins with its place
pub places_of : (cards : List ℕ) (coefficients : List ℤ) (k n : ℕ) → shallow_places (listed (shallow_of cards coefficients) k n) ≡ listed (λ i. get_or cards (6 * i) 0) k n
unfolding listed shallow_of
places_of cards coefficients k zero = refl
places_of cards coefficients k (suc n) =
    rw (row_at 0 6 cards k 0 (omega arith), add-zero (6 * k), places_of cards coefficients (suc k) n)

-- a card that gives a constituent had room
pub shallow-room : (names : List (List ℕ)) (mains : List ℕ) (cards line : List ℕ) (n : ℕ) (r : Result (Option ShallowRow) Fault) (row : ShallowRow) → r ≡ Ok (Some row)
    → next_gives in_row r ≡ next_shallow names mains (places_in 6 cards n) line → n < most_shallows
unfolding next_shallow
shallow-room names mains cards line n r row told card =
    let e = sym card ∙ ap (next_gives in_row) told in
    rw (listed-length (λ i. get_or cards (6 * i) 0) 0 n) at (had-room most_shallows TooManyShallows (length (places_in 6 cards n)) line (shallow_card names mains (places_in 6 cards n) line) (in_row row) e)

-- a constituent stored in the next rows
pub shallow-put : (cards : List ℕ) (coefficients : List ℤ) (card : List ℕ) (row : List ℤ) (n : ℕ) → length card ≡ 6 → length row ≡ 4 → 6 * n + 6 ≤ length cards → 4 * n + 4 ≤ length coefficients
    → listed (shallow_of (sets cards (6 * n) card) (sets coefficients (4 * n) row)) 0 (n + 1) ≡ listed (shallow_of cards coefficients) 0 n ++ (in_rows card row ∷ [])
unfolding shallow_of
shallow-put cards coefficients card row n wide wide' fits fits' =
    listed-one-more (shallow_of (sets cards (6 * n) card) (sets coefficients (4 * n) row)) 0 n
    ∙ rw (
      zero-add n,
      row_put 0 6 cards n card wide fits,
      row_put (pos 0) 4 coefficients n row wide' fits',
      listed_same (shallow_of (sets cards (6 * n) card) (sets coefficients (4 * n) row)) (shallow_of cards coefficients) 0 n
          (λ k a b. let h : k < n = omega arith in rw (row_kept 0 6 cards n card wide k h, row_kept (pos 0) 4 coefficients n row wide' k h)),
    )

-- the cards from byte `at` on, as the code reads the line there and steps to the next; or none left
module _ (names : List (List ℕ)) (mains : List ℕ) (file : List ℕ) (at n : ℕ) (cards : List ℕ) (coefficients : List ℤ) (count : ℕ) where
  pub shallows-step : (next : ℕ) (line : List ℕ) (r : Result (Option ShallowRow) Fault) → at < length file → line ≡ first_line (drop at file) → drop next file ≡ rest_lines (drop at file)
      → next_gives in_row r ≡ next_shallow names mains (places_in 6 cards count) line
      → shallows_from names mains (lines_of (drop at file)) n (listed (shallow_of cards coefficients) 0 count)
      ≡ onward_or_end (next_gives in_row r) n (given (listed (shallow_of cards coefficients) 0 count) (lines_of (drop next file)) (n + 1))
      (λ s. shallows_from names mains (lines_of (drop next file)) (n + 1) (listed (shallow_of cards coefficients) 0 count ++ (s ∷ [])))
  unfolding shallows_from
  shallows-step next line r h first rest card =
      rw (lines-here file at next line h first rest, places_of cards coefficients 0 count, ← card)

  pub shallows-end : length file ≤ at → shallows_from names mains (lines_of (drop at file)) n (listed (shallow_of cards coefficients) 0 count) ≡ ended EndedInShallows n
  unfolding shallows_from
  shallows-end h = rw (lines_end file at h)
