-- What the figures on a sheet are: a height's rounded size, decimal digits, and the day and the time of day of a minute of the month.
-- Assumes nothing.
use Rattle.std.specs.Prelude.{ℕ, ◌+◌, ◌/◌, ◌%◌, Bool, cond, List, [], ◌∷◌, ◌++◌, leb}

-- The size of a height in thousandths of the unit, from tenths of thousandths: rounded, a half goes away from zero
abbrev pub thousandths : ℕ → ℕ
thousandths size = (size + 5) / 10

-- The ASCII character of a number's last decimal digit
abbrev pub last_digit : ℕ → ℕ
last_digit number = 48 + number % 10

-- The last two digits, three and four
abbrev pub last_two : ℕ → List ℕ
last_two number = last_digit (number / 10) ∷ last_digit number ∷ []

abbrev pub last_three : ℕ → List ℕ
last_three number = last_digit (number / 100) ∷ last_two number

abbrev pub last_four : ℕ → List ℕ
last_four number = last_two (number / 100) ++ last_two number

-- 01, Heights and turns: "Minutes run from 0 to days × 1,440 inclusive". The day in which a minute lies, the month's first day being 1
abbrev pub day_of : ℕ → ℕ
day_of minute = minute / 1_440 + 1

-- The hour of its day
abbrev pub hour_of : ℕ → ℕ
hour_of minute = minute % 1_440 / 60

-- The time of day of a minute of the month, HH:MM; 58 is the colon
abbrev pub time_of_day : ℕ → List ℕ
time_of_day minute = last_two (hour_of minute) ++ (58 ∷ last_two (minute % 60))

-- A time on a day: the end of the day, which is the next one's 00:00, is its 24:00
abbrev pub time_on_day : ℕ → ℕ → List ℕ
time_on_day day minute = cond (leb (day_of minute) day) (time_of_day minute) (50 ∷ 52 ∷ 58 ∷ 48 ∷ 48 ∷ [])

-- The decimals of a height that is given in thousandths, behind a point, which is 46
abbrev pub three_decimals : ℕ → List ℕ
three_decimals rounded = 46 ∷ last_three rounded

-- The decimals of a height that is given in tenths of thousandths
abbrev pub four_decimals : ℕ → List ℕ
four_decimals size = 46 ∷ last_four size

-- What stands behind a latitude's degrees: the word deg, its minutes past the degree, and the letter N, which is 78, or S, which is 83
abbrev pub latitude_end : ℕ → Bool → List ℕ
latitude_end size south = 32 ∷ 100 ∷ 101 ∷ 103 ∷ 32 ∷ (last_two (size % 60) ++ (39 ∷ 32 ∷ cond south 83 78 ∷ []))
