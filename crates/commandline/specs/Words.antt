-- The words of a command line: one row of bytes, in which a byte 0 ends each word. Assumes nothing.
use Rattle.std.specs.Prelude.{ℕ, cond, List, [], ◌∷◌, leb, drop}
use Rattle.columns.specs.Bytes.{among, leading}
use Rattle.columns.specs.Columns.{column}

-- the word that begins at a byte: the bytes from there on in front of the next 0
unfoldable pub word_at : List ℕ → ℕ → List ℕ
word_at row at = leading (among 1 255) (drop at row)

-- in ASCII, a row each: data/standard-cards.txt, data/victoria.txt, feet, metres
abbrev pub default_words : List ℕ
default_words =
    100 ∷ 97 ∷ 116 ∷ 97 ∷ 47 ∷ 115 ∷ 116 ∷ 97 ∷ 110 ∷ 100 ∷ 97 ∷ 114 ∷ 100 ∷ 45 ∷ 99 ∷ 97 ∷ 114 ∷ 100 ∷ 115 ∷ 46 ∷ 116 ∷ 120 ∷ 116 ∷ 0 ∷
    100 ∷ 97 ∷ 116 ∷ 97 ∷ 47 ∷ 118 ∷ 105 ∷ 99 ∷ 116 ∷ 111 ∷ 114 ∷ 105 ∷ 97 ∷ 46 ∷ 116 ∷ 120 ∷ 116 ∷ 0 ∷
    102 ∷ 101 ∷ 101 ∷ 116 ∷ 0 ∷
    109 ∷ 101 ∷ 116 ∷ 114 ∷ 101 ∷ 115 ∷ 0 ∷
    []

-- the byte of the default words at a place, of 54; 0 behind them
abbrev pub default_byte : ℕ → ℕ
default_byte k = cond (leb 54 k) 0 (column default_words k)
