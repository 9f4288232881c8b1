-- docs/FORMATS.md, "The file of bookings": what a line says. Assumes nothing.
use Rattle.std.specs.Prelude.{ℕ, ◌+◌, ◌-◌, ◌*◌, cond, not, ◌&&◌, List, Option, None, option_map, eqb, ltb, length, take, drop}
use Rattle.columns.specs.Bytes.{among, every}
use Rattle.columns.specs.Columns.{column, columns}
use Rattle.digits.specs.Dates.{minute_of_month}
use Rattle.commandline.specs.Times.{time_of}

-- "A CR before the LF is not part of the line": CR is byte 13
unfoldable pub without_return : List ℕ → List ℕ
without_return line = cond (eqb (column line (length line - 1)) 13) (take (length line - 1) line) line

-- "the day of the month as two digits", which are 48 to 57; 0 where the line begins with no two digits
unfoldable pub day_of : List ℕ → ℕ
day_of line = cond (every (among 48 57) (columns line 0 2)) (10 * (column line 0 - 48) + (column line 1 - 48)) 0

-- a booking on a day, at a time of it
abbrev pub booked_on : ℕ → Option ℕ → Option ℕ
booked_on day = option_map (minute_of_month day)

-- "DD HH:MM, and anything after it that does not begin with a digit": the blank is byte 32, and stands behind the line's end. "day 00 is none"
unfoldable pub booking_of : List ℕ → Option ℕ
booking_of line =
    cond
    (eqb (column line 2) 32 && not (every (among 48 57) (columns line 8 1)) && not (eqb (day_of line) 0))
    (booked_on (day_of line) (time_of (take 5 (drop 3 line))))
    None

-- "A control character other than TAB is shown as `?`": TAB is byte 9, the question mark 63
abbrev pub shown_as : ℕ → ℕ
shown_as byte = cond (eqb byte 9) 9 (cond (ltb byte 32) 63 byte)
