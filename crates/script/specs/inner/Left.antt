-- Only inner contracts cite this: what is left of a line, for the functions that read it word by word. Assumes nothing.
use Rattle.std.specs.Prelude.{ℕ, zero, suc, List, [], ◌∷◌, cond, eqb, Option, Some, None}
use Rattle.script.specs.declared.words.Field.{Field}
use Rattle.script.specs.Words.{words, Reading, read, unread}

-- the words from byte k on; none past the line's end
unfoldable pub words_from : List ℕ → ℕ → List (List ℕ)
words_from line zero = words line
words_from [] (suc k) = []
words_from (b ∷ bs) (suc k) = words_from bs k

-- the length of the word that a line begins with
unfoldable pub word_length : List ℕ → ℕ
word_length [] = 0
word_length (b ∷ bs) = cond (eqb b 32) 0 (suc (word_length bs))

-- a field of the code: a number and where the next word begins
abbrev pub reading_at : List ℕ → Option Field → Reading
reading_at line (Some field) = read field.value (words_from line field.next)
reading_at line None = unread
