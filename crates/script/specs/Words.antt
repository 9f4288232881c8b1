-- docs/FORMATS.md, "The list of calls that `replay` plays": the words of a line, without its LF, and the decimal numbers among them. Assumes nothing.
use Rattle.std.specs.Prelude.{ℕ, zero, suc, ◌+◌, ◌*◌, ◌-◌, List, [], ◌∷◌, ◌++◌, Bool, cond, ◌&&◌, leb, eqb, Option, Some, None}
use Rattle.columns.specs.Lines.{in_front}

-- ---- words

-- "one blank between them": what stands between the blanks of a line (32 is the blank). So two blanks have an empty word between them.
unfoldable pub words : List ℕ → List (List ℕ)
words [] = [] ∷ []
words (b ∷ bs) = cond (eqb b 32) ([] ∷ words bs) (in_front b (words bs))

-- ---- numbers

-- "every other number 0 to 4294967295"
abbrev pub largest : ℕ
largest = 4294967295

-- 48 to 57 are the digits 0 to 9
abbrev pub is_digit : ℕ → Bool
is_digit b = leb 48 b && leb b 57

-- a digit behind the digits of n
abbrev pub with_digit : ℕ → ℕ → ℕ
with_digit n b = 10 * n + (b - 48)

-- the number of some digits behind those of n, where it is at most `most`
unfoldable pub number_after : ℕ → ℕ → List ℕ → Option ℕ
number_after most n [] = Some n
number_after most n (b ∷ bs) = cond (is_digit b) (cond (leb (with_digit n b) most) (number_after most (with_digit n b) bs) None) None

-- a decimal number of at most `most`: one digit or more
unfoldable pub number : ℕ → List ℕ → Option ℕ
number most [] = None
number most (b ∷ bs) = number_after most 0 (b ∷ bs)

-- the number that some words begin with, and the words behind it
pub data Reading : Type 0 where
  read : ℕ → List (List ℕ) → Reading
  unread : Reading

abbrev pub reading_of : Option ℕ → List (List ℕ) → Reading
reading_of (Some n) ws = read n ws
reading_of None ws = unread

abbrev pub reading : ℕ → List (List ℕ) → Reading
reading most [] = unread
reading most (w ∷ ws) = reading_of (number most w) ws

-- goes on with the number and the words behind it; the line is bad where there is no number
abbrev pub onward : {A : Type 0} → A → Reading → (ℕ → List (List ℕ) → A) → A
onward bad (read n ws) f = f n ws
onward bad unread f = bad

-- a last number, with no word behind it
abbrev pub ended : List (List ℕ) → ℕ → Option ℕ
ended [] n = Some n
ended (w ∷ ws) n = None

unfoldable pub last_number : List (List ℕ) → Option ℕ
last_number ws = onward None (reading largest ws) (λ n ws. ended ws n)

-- goes on with the last number
abbrev pub given : {A : Type 0} → A → Option ℕ → (ℕ → A) → A
given bad (Some n) f = f n
given bad None f = bad

-- the last two numbers, with no word behind them
unfoldable pub last_two : List (List ℕ) → Option (ℕ × ℕ)
last_two ws = onward None (reading largest ws) (λ first ws. given None (last_number ws) (λ second. Some (first, second)))

-- goes on with the last two numbers
abbrev pub given_two : {A : Type 0} → A → Option (ℕ × ℕ) → (ℕ → ℕ → A) → A
given_two bad (Some (first, second)) f = f first second
given_two bad None f = bad

-- so many numbers behind some that are read already, with no word behind them
unfoldable pub numbers_after : List ℕ → ℕ → List (List ℕ) → Option (List ℕ)
numbers_after ns zero [] = Some ns
numbers_after ns zero (w ∷ ws) = None
numbers_after ns (suc k) ws = onward None (reading largest ws) (λ n ws. numbers_after (ns ++ (n ∷ [])) k ws)
