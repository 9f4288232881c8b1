-- `refusal_words::text_of` meets its contract: a row for each number, and none for the others. Assumes nothing.
use Prim.{Unit}
use Prim.Native.Nat.{ℕ}
use Prim.Native.String.{String}
use mathlib.Core.Path.{◌≡◌, refl}
use mathlib.Core.List.{List, [], ◌∷◌}
use borrow.Author.Tests.{ne_eqb}
use Rattle.refusal_words.specs.Words.{refusal_rows, words_in, bytes_of, zeros_behind}
use Rattle.refusal_words.proofs.text_of.Goals as goal

-- a number that none of the rows has, row by row, beside what is known already: it has no words
abbrev Lacked : Type 0 → List (ℕ × String) → ℕ → Type 0
Lacked T [] number = T
Lacked T ((n, words) ∷ rows) number = Lacked (T × (number ≡ n → ⊥)) rows number

known : (T : Type 0) (rows : List (ℕ × String)) (number : ℕ) → Lacked T rows number → T
known T [] number t = t
known T ((n, words) ∷ rows) number l = (known (T × (number ≡ n → ⊥)) rows number l).0

no_words : (T : Type 0) (rows : List (ℕ × String)) (number : ℕ) → Lacked T rows number → words_in rows number ≡ ""
unfolding words_in
no_words T [] number l = refl
no_words T ((n, words) ∷ rows) number l =
    rw (ne_eqb number n (known (T × (number ≡ n → ⊥)) rows number l).1) (no_words (T × (number ≡ n → ⊥)) rows number l)

pub returns-in-1 : goal.returns-in-1
unfolding refusal_rows words_in bytes_of zeros_behind
returns-in-1 c =
    rw c.in-1.is c.with_zeros.ensures

pub returns-in-2 : goal.returns-in-2
unfolding refusal_rows words_in bytes_of zeros_behind
returns-in-2 c =
    rw c.in-2.is c.with_zeros-in-2.ensures

pub returns-in-3 : goal.returns-in-3
unfolding refusal_rows words_in bytes_of zeros_behind
returns-in-3 c =
    rw c.in-3.is c.with_zeros-in-3.ensures

pub returns-in-4 : goal.returns-in-4
unfolding refusal_rows words_in bytes_of zeros_behind
returns-in-4 c =
    rw c.in-4.is c.with_zeros-in-4.ensures

pub returns-in-5 : goal.returns-in-5
unfolding refusal_rows words_in bytes_of zeros_behind
returns-in-5 c =
    rw c.in-5.is c.with_zeros-in-5.ensures

pub returns-in-6 : goal.returns-in-6
unfolding refusal_rows words_in bytes_of zeros_behind
returns-in-6 c =
    rw c.in-6.is c.with_zeros-in-6.ensures

pub returns-in-7 : goal.returns-in-7
unfolding refusal_rows words_in bytes_of zeros_behind
returns-in-7 c =
    rw c.in-7.is c.with_zeros-in-7.ensures

pub returns-in-8 : goal.returns-in-8
unfolding refusal_rows words_in bytes_of zeros_behind
returns-in-8 c =
    rw c.in-8.is c.with_zeros-in-8.ensures

pub returns-in-9 : goal.returns-in-9
unfolding refusal_rows words_in bytes_of zeros_behind
returns-in-9 c =
    rw c.in-9.is c.with_zeros-in-9.ensures

pub returns-in-10 : goal.returns-in-10
unfolding refusal_rows words_in bytes_of zeros_behind
returns-in-10 c =
    rw c.in-10.is c.with_zeros-in-10.ensures

pub returns-in-11 : goal.returns-in-11
unfolding refusal_rows words_in bytes_of zeros_behind
returns-in-11 c =
    rw c.in-11.is c.with_zeros-in-11.ensures

pub returns-in-21 : goal.returns-in-21
unfolding refusal_rows words_in bytes_of zeros_behind
returns-in-21 c =
    rw c.in-21.is c.with_zeros-in-21.ensures

pub returns-in-22 : goal.returns-in-22
unfolding refusal_rows words_in bytes_of zeros_behind
returns-in-22 c =
    rw c.in-22.is c.with_zeros-in-22.ensures

pub returns-in-23 : goal.returns-in-23
unfolding refusal_rows words_in bytes_of zeros_behind
returns-in-23 c =
    rw c.in-23.is c.with_zeros-in-23.ensures

pub returns-in-31 : goal.returns-in-31
unfolding refusal_rows words_in bytes_of zeros_behind
returns-in-31 c =
    rw c.in-31.is c.with_zeros-in-31.ensures

pub returns-in-32 : goal.returns-in-32
unfolding refusal_rows words_in bytes_of zeros_behind
returns-in-32 c =
    rw c.in-32.is c.with_zeros-in-32.ensures

pub returns-in-33 : goal.returns-in-33
unfolding refusal_rows words_in bytes_of zeros_behind
returns-in-33 c =
    rw c.in-33.is c.with_zeros-in-33.ensures

pub returns-in-34 : goal.returns-in-34
unfolding refusal_rows words_in bytes_of zeros_behind
returns-in-34 c =
    rw c.in-34.is c.with_zeros-in-34.ensures

pub returns-in-35 : goal.returns-in-35
unfolding refusal_rows words_in bytes_of zeros_behind
returns-in-35 c =
    rw c.in-35.is c.with_zeros-in-35.ensures

pub returns-in_default : goal.returns-in_default
unfolding refusal_rows bytes_of zeros_behind
returns-in_default c =
    rw (no_words (Unit {0}) refusal_rows c.args.number c.in_default.in_default-own.rest) c.with_zeros-in_default.ensures
