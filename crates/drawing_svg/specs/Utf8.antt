-- The characters of UTF-8 beyond ASCII (the table of well-formed byte sequences of Unicode, 3-7): how many bytes one has by its first byte,
-- from where to where its second byte goes, and that all others go from 128 to 191.
-- Assumes nothing.
use Rattle.std.specs.Prelude.{ℕ, Bool, true, cond, ◌&&◌, List, leb, ltb, eqb, get_or}

-- whether a byte is from one to another
unfoldable pub is_from : ℕ → ℕ → ℕ → Bool
is_from low high byte = leb low byte && leb byte high

-- 0 where no character beyond ASCII begins so
unfoldable pub size_from : ℕ → ℕ
size_from first =
    cond (is_from 194 223 first) 2 (cond (is_from 224 239 first) 3 (cond (is_from 240 244 first) 4 0))

unfoldable pub second_low : ℕ → ℕ
second_low first = cond (eqb first 224) 160 (cond (eqb first 240) 144 128)

unfoldable pub second_high : ℕ → ℕ
second_high first = cond (eqb first 237) 159 (cond (eqb first 244) 143 191)

-- past a text's end there is a 0, which is neither a second byte nor a later one
unfoldable pub is_second : List ℕ → Bool
is_second text = is_from (second_low (get_or text 0 0)) (second_high (get_or text 0 0)) (get_or text 1 0)

-- whether the byte at a place is a later byte, where a character of so many bytes has one there
unfoldable pub is_later : List ℕ → ℕ → ℕ → Bool
is_later text size i = cond (ltb i size) (is_from 128 191 (get_or text i 0)) true

-- whether the bytes behind the first are those of a character of so many
unfoldable pub goes_on : List ℕ → ℕ → Bool
goes_on text size = is_second text && (is_later text size 2 && is_later text size 3)

-- the bytes of the character beyond ASCII with which a text begins; 0 where it begins with none
unfoldable pub sequence_of : List ℕ → ℕ
sequence_of text = cond (goes_on text (size_from (get_or text 0 0))) (size_from (get_or text 0 0)) 0
