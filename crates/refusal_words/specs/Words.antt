-- 01, "Turned down by the input" and "Turned down by the state": the words of each row of the two tables. Assumes nothing.
use Rattle.std.specs.Prelude.{ℕ, ◌-◌, cond, List, [], ◌∷◌, ◌++◌, eqb, length, replicate}
use Prim.Native.String.{String}
use Prim.Native.String as string
use Prim.Native.Char.{code}

-- the rows: a number and its words
unfoldable pub refusal_rows : List (ℕ × String)
refusal_rows =
    (1, "line over 80 columns or a byte outside 32 to 126") ∷
    (2, "malformed number") ∷
    (3, "number outside its stated range") ∷
    (4, "name blank or twice, or place repeated") ∷
    (5, "no such frequency, main or definition") ∷
    (6, "more entries than stated") ∷
    (7, "file ends inside a part") ∷
    (8, "year or month out of range") ∷
    (9, "minutes outside the month or reversed, or step out of range") ∷
    (10, "more turns than the lent buffers hold") ∷
    (11, "size of X or Y over 2^22") ∷
    (21, "no table") ∷
    (22, "no station") ∷
    (23, "no month") ∷
    (31, "the two lent buffers differ in length") ∷
    (32, "station number over 99999") ∷
    (33, "a height outside -999 to 9998") ∷
    (34, "buffer too short for the month") ∷
    (35, "a stride outside 1 to 720 minutes") ∷
    []

-- the words of a number; none where no row has it
unfoldable pub words_in : List (ℕ × String) → ℕ → String
words_in [] number = ""
words_in ((n, words) ∷ rows) number = cond (eqb number n) words (words_in rows number)

abbrev pub words_of : ℕ → String
words_of = words_in refusal_rows

-- words as bytes, in ASCII
unfoldable pub bytes_of : String → List ℕ
bytes_of string.[] = []
bytes_of (string.◌∷◌ c s) = code c ∷ bytes_of s

-- bytes with zeros behind them, 64 in all
unfoldable pub zeros_behind : List ℕ → List ℕ
zeros_behind bytes = bytes ++ replicate (64 - length bytes) 0
