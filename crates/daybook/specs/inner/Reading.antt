-- Only inner contracts cite this: what a reading of a file says, with the minutes that it left.
use Rattle.std.specs.Prelude.{ℕ, ◌≤◌, List, Result, Ok, Err, ◌≡◌, length, take}
use Rattle.columns.specs.Lines.{lines_of}
use Rattle.daybook.specs.Bookings.{Read, bookings, no_booking, minutes_of}
use Rattle.daybook.specs.declared.reading.NoBooking.{NoBooking}

-- so many of the minutes are filled in
abbrev pub reading_gives : Result ℕ NoBooking → List ℕ → Read
reading_gives (Ok count) minutes = bookings (take count minutes)
reading_gives (Err none) minutes = no_booking none.line

-- there is a place for each
abbrev pub Within : Result ℕ NoBooking → ℕ → Type 0
Within (Ok count) places = count ≤ places
Within (Err none) places = Unit

-- so many places were lent
pub record ReadPost (file : List ℕ) (places : ℕ) (left : List ℕ) (r : Result ℕ NoBooking) : Type 0 where
  pub gives : reading_gives r left ≡ minutes_of (lines_of file)
  pub kept : length left ≡ places
  pub within : Within r places
