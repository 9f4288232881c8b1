-- The words of a line, one after another: each is the bytes in front of a blank or of the line's end, and the next begins behind that.
-- By induction on the line. Assumes nothing.
use mathlib.Core.Path.{◌≡◌, refl, sym, ap, ◌∙◌}
use mathlib.Core.List.{List, [], ◌∷◌}
use mathlib.Core.Bool.{Bool, true, false, cond}
use Prim.Native.Nat.{ℕ, zero, suc, ◌+◌, ◌-◌, ◌≤◌, ◌<◌}
use native.Mathlib.Nat.{not-suc-le-zero, le_of_suc-le-suc, suc-add, zero-add, add-zero}
use native.Mathlib.Numerals.{add-one}
use native.Mathlib.Omega.{arith}
use lib.Dec.{eqb, leb, ltb}
use borrow.Author.Tests.{leb-true, ltb-false}
use lib.ListN.{length, get_or, set, take, drop}
use lib.Seq.{drop-cons, take-suc-set, take_all}
use Rattle.columns.specs.Lines.{in_front}
use Rattle.std.specs.Prelude.{Option, Some, None}
use Rattle.std.specs.Option.{unwrap_or}
use Rattle.std.specs.List.{position_or_len}
use Rattle.std.proofs.lemmas.List.Recursion.{is_position_or_len}
use Rattle.script.specs.Words.{words, number, is_digit, with_digit, number_after, read, unread, reading_of, reading, largest, numbers_after}
use Rattle.script.specs.declared.words.Field.{Field}
use Rattle.script.specs.inner.Left.{words_from, word_length, reading_at}

-- ---- what is left of a list

pub drop-next : (l : List ℕ) (i : ℕ) → i < length l → drop i l ≡ get_or l i 0 ∷ drop (i + 1) l
drop-next l i h = rw (add-one i) (drop-cons l i 0 h)

pub drop-none : (l : List ℕ) (i : ℕ) → length l ≤ i → drop i l ≡ []
drop-none [] zero h = refl
drop-none [] (suc i) h = refl
drop-none (x ∷ l) zero h = absurd (not-suc-le-zero h)
drop-none (x ∷ l) (suc i) h = drop-none l i (le_of_suc-le-suc h)

-- ---- numbers

-- a word that is not empty begins its number at 0
pub number-some : (most : ℕ) (w : List ℕ) → 0 < length w → number_after most 0 w ≡ number most w
unfolding number
number-some most [] h = absurd (not-suc-le-zero h)
number-some most (b ∷ bs) h = refl

pub number-empty : (most : ℕ) (w : List ℕ) → length w ≡ 0 → number most w ≡ number most []
number-empty most [] h = refl
number-empty most (b ∷ bs) h = absurd (omega arith)

-- ---- words

pub word-short : (s : List ℕ) → word_length s ≤ length s
unfolding word_length
word-short [] = omega arith
word-short (b ∷ bs) = go (eqb b 32) (word-short bs)
  where
    go : (t : Bool) → word_length bs ≤ length bs → cond t 0 (suc (word_length bs)) ≤ suc (length bs)
    go true h = omega arith
    go false h = omega arith

-- a word ends at the first blank
word-is : (s : List ℕ) → word_length s ≡ position_or_len (λ b. eqb b 32) s
unfolding word_length
word-is s = is_position_or_len word_length (λ b. eqb b 32) refl (λ x xs. let e : 1 + word_length xs ≡ suc (word_length xs) = omega arith in rw e) s

pub first-blank : (s : List ℕ) → unwrap_or (cond (ltb (position_or_len (λ b. eqb b 32) s) (length s)) (Some (position_or_len (λ b. eqb b 32) s)) None) (length s) ≡ word_length s
first-blank s = rw (← word-is s) (go (ltb (word_length s) (length s)) refl)
  where
    go : (t : Bool) → ltb (word_length s) (length s) ≡ t → unwrap_or (cond t (Some (word_length s)) None) (length s) ≡ word_length s
    go true h = refl
    go false h = omega (arith, ltb-false _ _ h, word-short s)

-- the first word, and those behind the blank that ends it
pub words-first : (s : List ℕ) → words s ≡ take (word_length s) s ∷ words_from s (suc (word_length s))
unfolding words word_length words_from
words-first [] = refl
words-first (b ∷ bs) = go (eqb b 32) (words-first bs)
  where
    go : (t : Bool) → words bs ≡ take (word_length bs) bs ∷ words_from bs (suc (word_length bs))
        → cond t ([] ∷ words bs) (in_front b (words bs)) ≡ take (cond t 0 (suc (word_length bs))) (b ∷ bs) ∷ words_from (b ∷ bs) (suc (cond t 0 (suc (word_length bs))))
    go true h = refl
    go false h = rw h

-- the words from a byte on are those of what is left of the line
pub from-add : (l : List ℕ) (i k : ℕ) → i ≤ length l → words_from l (i + k) ≡ words_from (drop i l) k
unfolding words_from
from-add l zero k h = rw (zero-add k)
from-add [] (suc i) k h = absurd (not-suc-le-zero h)
from-add (b ∷ bs) (suc i) k h = rw (suc-add i k) (from-add bs i k (le_of_suc-le-suc h))

pub from-within : (l : List ℕ) (i : ℕ) → i ≤ length l → words_from l i ≡ words (drop i l)
unfolding words_from
from-within l i h = rw (add-zero i) at (from-add l i 0 h)

pub from_past : (l : List ℕ) (i : ℕ) → length l < i → words_from l i ≡ []
unfolding words_from
from_past l zero h = absurd (not-suc-le-zero h)
from_past [] (suc i) h = refl
from_past (b ∷ bs) (suc i) h = from_past bs i (le_of_suc-le-suc h)

-- the word at byte i, and those behind it
pub from_next : (l : List ℕ) (i : ℕ) → i ≤ length l → words_from l i ≡ take (word_length (drop i l)) (drop i l) ∷ words_from l (i + word_length (drop i l) + 1)
from_next l i h =
    let e : i + word_length (drop i l) + 1 ≡ i + suc (word_length (drop i l)) = omega arith in
    from-within l i h ∙ words-first (drop i l) ∙ rw (e, from-add l i (suc (word_length (drop i l))) h)

-- what a word says as a number, with the words behind it, is what the line's words begin with
pub reading-is : (l : List ℕ) (i e most : ℕ) (n : Option ℕ) → i ≤ length l → e ≡ i + word_length (drop i l) → n ≡ number most (take (e - i) (drop i l))
    → reading_of n (words_from l (e + 1)) ≡ reading most (words_from l i)
reading-is l i e most n h he hn =
    let w : e - i ≡ word_length (drop i l) = omega arith in
    rw (hn, w, he, from_next l i h)

-- the line's words: the first, and those behind it
pub words_are : (l : List ℕ) (e : ℕ) → e ≡ word_length (drop 0 l) → words l ≡ take e l ∷ words_from l (e + 1)
words_are l e h = rw (h, add-one (word_length l)) (words-first l)

-- ---- so many numbers

-- one more of them, read and put behind those in front
pub numbers-more : (ns : List ℕ) (i n v : ℕ) (ws vs : List (List ℕ)) → i < length ns → length ns ≡ n → read v vs ≡ reading largest ws
    → numbers_after (take (i + 1) (set ns i v)) (n - (i + 1)) vs ≡ numbers_after (take i ns) (n - i) ws
unfolding numbers_after
numbers-more ns i n v ws vs h e r =
    let s : n - i ≡ suc (n - (i + 1)) = omega arith in
    rw (s, ← r, add-one i, take-suc-set ns i v h)

-- one that is not there
pub numbers-none : (ns : List ℕ) (i n : ℕ) (ws : List (List ℕ)) → i < n → unread ≡ reading largest ws → None ≡ numbers_after (take i ns) (n - i) ws
unfolding numbers_after
numbers-none ns i n ws h r = let s : n - i ≡ suc (n - (i + 1)) = omega arith in rw (s, ← r)

-- all of them, where a word is left behind, and where none is
pub numbers-behind : (ns : List ℕ) (i n : ℕ) (l : List ℕ) (k : ℕ) → n ≤ i → k ≤ length l → None ≡ numbers_after (take i ns) (n - i) (words_from l k)
unfolding numbers_after
numbers-behind ns i n l k h b = let z : n - i ≡ 0 = omega arith in rw (z, from_next l k b)

pub numbers-all : (ns : List ℕ) (i n : ℕ) (l : List ℕ) (k : ℕ) → n ≤ i → length ns ≡ n → length l < k → Some ns ≡ numbers_after (take i ns) (n - i) (words_from l k)
unfolding numbers_after
numbers-all ns i n l k h e b = let z : n - i ≡ 0 = omega arith in rw (z, from_past l k b, take_all i ns (omega arith))

-- a number that is read is at most the largest allowed
after-most : (most n m : ℕ) (w : List ℕ) → n ≤ most → number_after most n w ≡ Some m → m ≤ most
unfolding number_after
after-most most n m [] h e = let k : n ≡ m = cc in omega arith
after-most most n m (b ∷ bs) h e = go (is_digit b) (leb (with_digit n b) most) refl (after-most most (with_digit n b) m bs) e
  where
    go : (t u : Bool) → leb (with_digit n b) most ≡ u → (with_digit n b ≤ most → number_after most (with_digit n b) bs ≡ Some m → m ≤ most)
        → cond t (cond u (number_after most (with_digit n b) bs) None) None ≡ Some m → m ≤ most
    go true true k more f = more (leb-true _ _ k) f
    go true false k more f = let z : ◌≡◌ {A = ℕ} 0 1 = cc in omega arith
    go false u k more f = let z : ◌≡◌ {A = ℕ} 0 1 = cc in omega arith

reading-most : (most m : ℕ) (ws vs : List (List ℕ)) → reading most ws ≡ read m vs → m ≤ most
unfolding number
reading-most most m [] vs e = let z : ◌≡◌ {A = ℕ} 0 1 = cc in omega arith
reading-most most m ([] ∷ ws) vs e = let z : ◌≡◌ {A = ℕ} 0 1 = cc in omega arith
reading-most most m ((b ∷ bs) ∷ ws) vs e = go (number_after most 0 (b ∷ bs)) refl e
  where
    go : (x : Option ℕ) → number_after most 0 (b ∷ bs) ≡ x → reading_of x ws ≡ read m vs → m ≤ most
    go (Some k) f g = let q : k ≡ m = cc in after-most most 0 m (b ∷ bs) (omega arith) (f ∙ ap Some q)
    go None f g = let z : ◌≡◌ {A = ℕ} 0 1 = cc in omega arith

pub field-most : (l : List ℕ) (i most : ℕ) (o : Option Field) (f : Field) → reading_at l o ≡ reading most (words_from l i) → o ≡ Some f → f.value ≤ most
field-most l i most o f e h = reading-most most f.value (words_from l i) (words_from l f.next) (sym e ∙ ap (reading_at l) h)
