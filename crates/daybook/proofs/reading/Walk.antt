-- What one more line of the file adds. Assumes nothing.
use Prim.Native.Nat.{ℕ, ◌+◌, ◌-◌, ◌≤◌, ◌<◌, max}
use mathlib.Core.Path.{◌≡◌, refl}
use mathlib.Core.Bool.{Bool, true, false, cond}
use mathlib.Core.List.{List}
use native.Mathlib.Numerals.{add-one}
use native.Mathlib.Omega.{arith}
use lib.Dec.{eqb, leb}
use lib.ListN.{length, take, drop, set, length-take, length-drop}
use lib.Seq.{length-take-le, take-suc-set}
use borrow.Author.Tests.{leb-true, leb-false, ne_eqb}
use Rattle.std.specs.Prelude.{Option, Some, None}
use Rattle.columns.specs.Columns.{column}
use Rattle.columns.specs.Lines.{lines_of, in_line, first_line, rest_lines}
use Rattle.columns.proofs.Bytes.{leading-short}
use Rattle.columns.proofs.Lines.{lines_next, lines_none}
use Rattle.commandline.specs.Times.{time_of}
use Rattle.daybook.specs.Booking.{without_return, booking_of}
use Rattle.daybook.specs.Bookings.{bookings, no_booking, minutes_from, longest_of}

-- a line without its CR is no longer
pub without-short : (line : List ℕ) → length (without_return line) ≤ length line
unfolding without_return
without-short line = go (eqb (column line (length line - 1)) 13)
  where
    go : (t : Bool) → length (cond t (take (length line - 1) line) line) ≤ length line
    go true = omega (arith, length-take (length line - 1) line)
    go false = omega arith

-- a word of another length is no time
no-time : (word : List ℕ) → (length word ≡ 5 → ⊥) → time_of word ≡ None
unfolding time_of
no-time word h = rw (ne_eqb _ _ h)

-- a booking takes eight bytes at the least: its time has five, behind the day's three
pub booked-long : (line : List ℕ) (minute : ℕ) → booking_of line ≡ Some minute → 8 ≤ length line
unfolding booking_of
booked-long line minute e = go (leb 8 (length line)) refl
  where
    either : (t : Bool) → ◌≡◌ {A = Option ℕ} (cond t None None) None
    either true = refl
    either false = refl

    go : (t : Bool) → leb 8 (length line) ≡ t → 8 ≤ length line
    go true h = leb-true 8 (length line) h
    go false h =
        let short = no-time (take 5 (drop 3 line)) (λ five. omega (arith, leb-false 8 (length line) h, five, length-take 5 (drop 3 line), length-drop 3 line)) in
        let none : ◌≡◌ {A = Option ℕ} None (Some minute) = rw (short, either) at e in
        absurd (let z : ◌≡◌ {A = ℕ} 0 1 = cc in omega arith)

-- what is left of a file, its next line first
module _ (rest : List ℕ) (some : 0 < length rest) where
  -- what is behind the line is shorter
  pub rest_shorter : length (rest_lines rest) < length rest
  rest_shorter = omega (arith, length-drop (length (first_line rest) + 1) rest)

  -- by a booking's eight bytes, where it is one
  pub rest_far : (minute : ℕ) → booking_of (without_return (first_line rest)) ≡ Some minute → length (rest_lines rest) + 8 ≤ length rest
  rest_far minute e =
      let line = first_line rest in
      omega (arith, booked-long (without_return line) minute e, without-short line, leading-short in_line rest, length-drop (length line + 1) rest)

  -- a line that is no booking ends the reading
  pub stops : (minutes : List ℕ) (k : ℕ) → k ≤ length minutes → booking_of (without_return (first_line rest)) ≡ None
      → no_booking (k + 1) ≡ minutes_from (take k minutes) (lines_of rest)
  unfolding minutes_from
  stops minutes k h e = rw (lines_next rest some, e, length-take-le k minutes h)

  -- a booking joins those before it
  pub one_more : (minutes : List ℕ) (k minute : ℕ) → k < length minutes → booking_of (without_return (first_line rest)) ≡ Some minute
      → minutes_from (take (k + 1) (set minutes k minute)) (lines_of (rest_lines rest)) ≡ minutes_from (take k minutes) (lines_of rest)
  unfolding minutes_from
  one_more minutes k minute h e = rw (lines_next rest some, e, add-one k, take-suc-set minutes k minute h)

  -- the longest line from here on is this one or one behind it
  pub longest_here : longest_of (lines_of rest) ≡ max (length (without_return (first_line rest))) (longest_of (lines_of (rest_lines rest)))
  unfolding longest_of
  longest_here = rw (lines_next rest some)

-- with nothing left, the minutes are those that are filled in
pub no_more : (rest minutes : List ℕ) → length rest ≡ 0 → minutes_from minutes (lines_of rest) ≡ bookings minutes
unfolding minutes_from
no_more rest minutes h = rw (lines_none rest h)

pub longest_none : (rest : List ℕ) → length rest ≡ 0 → longest_of (lines_of rest) ≡ 0
unfolding longest_of
longest_none rest h = rw (lines_none rest h)
