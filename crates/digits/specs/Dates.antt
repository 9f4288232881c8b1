-- Dates on a sheet: the month after a month, in whose first minute a month's last one lies (01: "Minutes run from 0 to days × 1,440
-- inclusive"), a date in digits, and the months' names. Assumes nothing.
use Rattle.std.specs.Prelude.{ℕ, ◌+◌, ◌-◌, ◌*◌, cond, List, [], ◌∷◌, ◌++◌, ltb, leb, get_or}
use Rattle.calendar.specs.Calendar.{month_days}
use Rattle.digits.specs.Digits.{last_two, last_four, day_of}

-- December's next is January
abbrev pub month_behind : ℕ → ℕ
month_behind month = cond (ltb month 12) (month + 1) 1

-- with it the year changes; four digits are written, so that no year is past 9999
abbrev pub year_behind : ℕ → ℕ → ℕ
year_behind year month = cond (ltb month 12) year (cond (ltb year 9_999) (year + 1) 9_999)

-- ISO 8601: YYYY-MM-DDT, behind which a time of day stands; 45 is the hyphen and 84 the T
abbrev pub iso_date : ℕ → ℕ → ℕ → List ℕ
iso_date year month day = last_four year ++ (45 ∷ (last_two month ++ (45 ∷ (last_two day ++ (84 ∷ [])))))

-- the date of a minute of a month; the month's last minute lies on the first day of the next month
abbrev pub iso_day : ℕ → ℕ → ℕ → List ℕ
iso_day year month minute =
    cond
    (leb (day_of minute) (month_days year month))
    (iso_date year month (day_of minute))
    (iso_date (year_behind year month) (month_behind month) 1)

-- the minute of the month of a minute of one of its days, the first day being 1; past every month where there is no such day or minute
abbrev pub minute_of_month : ℕ → ℕ → ℕ
minute_of_month day minute =
    cond (ltb 1_000_000 day) 4_294_967_295
    (cond (ltb 1_440 minute) 4_294_967_295 (cond (ltb day 1) 4_294_967_295 ((day - 1) * 1_440 + minute)))

-- nine blanks, for a number that is no month's
abbrev pub no_name : List ℕ
no_name = 32 ∷ 32 ∷ 32 ∷ 32 ∷ 32 ∷ 32 ∷ 32 ∷ 32 ∷ 32 ∷ []

-- January, February and so on, in ASCII and in nine columns each, with blanks at the end
abbrev pub month_names : List (List ℕ)
month_names =
    (74 ∷ 97 ∷ 110 ∷ 117 ∷ 97 ∷ 114 ∷ 121 ∷ 32 ∷ 32 ∷ []) ∷
    (70 ∷ 101 ∷ 98 ∷ 114 ∷ 117 ∷ 97 ∷ 114 ∷ 121 ∷ 32 ∷ []) ∷
    (77 ∷ 97 ∷ 114 ∷ 99 ∷ 104 ∷ 32 ∷ 32 ∷ 32 ∷ 32 ∷ []) ∷
    (65 ∷ 112 ∷ 114 ∷ 105 ∷ 108 ∷ 32 ∷ 32 ∷ 32 ∷ 32 ∷ []) ∷
    (77 ∷ 97 ∷ 121 ∷ 32 ∷ 32 ∷ 32 ∷ 32 ∷ 32 ∷ 32 ∷ []) ∷
    (74 ∷ 117 ∷ 110 ∷ 101 ∷ 32 ∷ 32 ∷ 32 ∷ 32 ∷ 32 ∷ []) ∷
    (74 ∷ 117 ∷ 108 ∷ 121 ∷ 32 ∷ 32 ∷ 32 ∷ 32 ∷ 32 ∷ []) ∷
    (65 ∷ 117 ∷ 103 ∷ 117 ∷ 115 ∷ 116 ∷ 32 ∷ 32 ∷ 32 ∷ []) ∷
    (83 ∷ 101 ∷ 112 ∷ 116 ∷ 101 ∷ 109 ∷ 98 ∷ 101 ∷ 114 ∷ []) ∷
    (79 ∷ 99 ∷ 116 ∷ 111 ∷ 98 ∷ 101 ∷ 114 ∷ 32 ∷ 32 ∷ []) ∷
    (78 ∷ 111 ∷ 118 ∷ 101 ∷ 109 ∷ 98 ∷ 101 ∷ 114 ∷ 32 ∷ []) ∷
    (68 ∷ 101 ∷ 99 ∷ 101 ∷ 109 ∷ 98 ∷ 101 ∷ 114 ∷ 32 ∷ []) ∷
    []

-- a month's place among the names behind the blank one, January being month 1; the blank one's where there is no such month
abbrev pub place_of : ℕ → ℕ
place_of month = cond (ltb month 13) month 0

abbrev pub month_name : ℕ → List ℕ
month_name month = get_or (no_name ∷ month_names) (place_of month) []
