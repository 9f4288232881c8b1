-- docs/FORMATS.md, "The file of bookings": what its lines say together. Assumes nothing.
use Rattle.std.specs.Prelude.{ℕ, ◌+◌, max, List, [], ◌∷◌, ◌++◌, Option, Some, None, length}
use Rattle.daybook.specs.Booking.{without_return, booking_of}

-- "The file has at most 65,536 bytes", and a booking takes eight at the least
abbrev pub most_bookings : ℕ
most_bookings = 8_192

-- the minutes of all bookings, or the number of the first line that is none
pub data Read : Type 0 where
  bookings : List ℕ → Read
  no_booking : ℕ → Read

-- goes on with a booking's minute
abbrev pub onward : Option ℕ → Read → (ℕ → Read) → Read
onward (Some minute) none f = f minute
onward None none f = none

-- the lines behind those of the bookings before them; lines are counted from 1
unfoldable pub minutes_from : List ℕ → List (List ℕ) → Read
minutes_from before [] = bookings before
minutes_from before (line ∷ lines) =
    onward (booking_of (without_return line)) (no_booking (length before + 1)) (λ minute. minutes_from (before ++ (minute ∷ [])) lines)

abbrev pub minutes_of : List (List ℕ) → Read
minutes_of = minutes_from []

-- how long the longest line is
unfoldable pub longest_of : List (List ℕ) → ℕ
longest_of [] = 0
longest_of (line ∷ lines) = max (length (without_return line)) (longest_of lines)
