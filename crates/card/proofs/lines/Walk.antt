-- Laws of walking down the file: what is left behind a position, and where the next line starts.
-- Rests on the laws of lines of columns.
use mathlib.Core.Path.{◌≡◌, refl, sym, ◌∙◌}
use Prim.Native.Nat.{ℕ, ◌+◌, ◌-◌, ◌≤◌, ◌<◌}
use mathlib.Core.List.{List, [], ◌∷◌}
use mathlib.Core.Bool.{Bool, true, false}
use lib.Dec.{leb}
use borrow.Author.Tests.{leb-true, leb-false}
use lib.ListN.{length, take, drop, length-drop, drop_of_length-le}
use lib.Seq.{take_all, drop-drop, drop-length}
use native.Mathlib.Omega.{arith}
use Rattle.columns.specs.Lines.{lines_of, in_line, first_line, rest_lines}
use Rattle.columns.proofs.Bytes.{leading-short}
use Rattle.columns.proofs.Lines.{lines_next, lines_none}

-- the part of a slice from byte a on
pub tail-is : (s : List ℕ) (a : ℕ) → take (length s - a) (drop a s) ≡ drop a s
tail-is s a = take_all (length s - a) (drop a s) (omega (arith, length-drop a s))

-- what is behind n bytes, found again by its length
pub drop-again : (n : ℕ) (s : List ℕ) → drop (length s - length (drop n s)) s ≡ drop n s
drop-again n s = go (leb n (length s)) refl
  where
    go : (t : Bool) → leb n (length s) ≡ t → drop (length s - length (drop n s)) s ≡ drop n s
    go true e = let m : length s - length (drop n s) ≡ n = omega (arith, length-drop n s, leb-true n (length s) e) in rw m
    go false e =
        let h : length s ≤ n = omega (arith, leb-false n (length s) e) in
        let m : length s - length (drop n s) ≡ length s = omega (arith, length-drop n s) in
        rw m (drop-length s ∙ sym (drop_of_length-le s h))

-- the lines behind the one at byte a
module _ (s : List ℕ) (a : ℕ) (h : a < length s) where
  pub rest-shorter : length (rest_lines (drop a s)) < length s - a
  rest-shorter = omega (arith, length-drop (length (first_line (drop a s)) + 1) (drop a s), length-drop a s)

  pub rest-again : drop (length s - length (rest_lines (drop a s))) s ≡ rest_lines (drop a s)
  rest-again = let n = length (first_line (drop a s)) + 1 in rw (drop-drop n a s) (drop-again (a + n) s)

  -- the first line ends within the file
  pub line-within : a + length (first_line (drop a s)) ≤ length s
  line-within = omega (arith, leading-short in_line (drop a s), length-drop a s)

  -- what is behind it starts behind its LF, or at the end of the file
  pub behind-lf : drop (a + length (first_line (drop a s)) + 1) s ≡ rest_lines (drop a s)
  behind-lf =
      let n = length (first_line (drop a s)) in
      let e : a + n + 1 ≡ a + (n + 1) = omega arith in
      rw e (sym (drop-drop (n + 1) a s))

  pub behind-last : (e : ℕ) → e ≡ a + length (first_line (drop a s)) → length s ≤ e → drop e s ≡ rest_lines (drop a s)
  behind-last e is h =
      let past : length s ≤ a + length (first_line (drop a s)) + 1 = omega (arith, is) in
      drop_of_length-le s h ∙ sym (sym behind-lf ∙ drop_of_length-le s past)

-- the lines from byte `at` on, as the code reads the line there and steps to the next; or none left
pub lines-here : (file : List ℕ) (at next : ℕ) (line : List ℕ) → at < length file → line ≡ first_line (drop at file) → drop next file ≡ rest_lines (drop at file)
    → lines_of (drop at file) ≡ line ∷ lines_of (drop next file)
lines-here file at next line h first rest = rw (rest, first) (lines_next (drop at file) (omega (arith, length-drop at file)))

pub lines_end : (file : List ℕ) (at : ℕ) → length file ≤ at → lines_of (drop at file) ≡ []
lines_end file at h = lines_none (drop at file) (omega (arith, length-drop at file))
