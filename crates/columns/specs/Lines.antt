-- 01, The card file: its lines.
use Rattle.std.specs.Prelude.{ℕ, ◌+◌, List, [], ◌∷◌, Bool, cond, not, ◌&&◌, leb, eqb, length, drop}
use Rattle.limits.specs.Limits.{most_columns}
use Rattle.columns.specs.Bytes.{among, blank, every, leading}

-- a byte in front of the first line
abbrev pub in_front : ℕ → List (List ℕ) → List (List ℕ)
in_front b [] = (b ∷ []) ∷ []
in_front b (l ∷ ls) = (b ∷ l) ∷ ls

-- "Lines end in LF (the last may lack it)": LF is byte 10
unfoldable pub lines_of : List ℕ → List (List ℕ)
lines_of [] = []
lines_of (b ∷ bs) = cond (eqb b 10) ([] ∷ lines_of bs) (in_front b (lines_of bs))

-- a byte that is not LF
abbrev pub in_line : ℕ → Bool
in_line byte = not (eqb byte 10)

-- the first line: the bytes in front of the first LF
abbrev pub first_line : List ℕ → List ℕ
first_line = leading in_line

-- the file behind its first line and that line's LF
abbrev pub rest_lines : List ℕ → List ℕ
rest_lines file = drop (length (first_line file) + 1) file

-- "at most 80 columns, bytes 32 to 126"; a line that is not so is refused by 1
abbrev pub line_good : List ℕ → Bool
line_good line = leb (length line) most_columns && every (among 32 126) line

-- "A blank card is blanks throughout."
abbrev pub blank_card : List ℕ → Bool
blank_card = every blank
