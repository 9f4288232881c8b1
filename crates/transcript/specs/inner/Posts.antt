-- Only inner contracts cite this: what the readers of a call, of a card file, of a station's lines and of minutes' lines hand on. Assumes nothing.
use Rattle.std.specs.Prelude.{◌≡◌, ℕ, ◌+◌, ◌≤◌, cond, List, nat_lt, slice_index, Option, Some, None, IfSome, Result, IfOk}
use Rattle.limits.specs.Limits.{most_records}
use Rattle.transcript.specs.inner.Window.{Within, lines_below}
use Rattle.station.specs.declared.records.Rows.{Rows}
use Rattle.station.specs.inner.Rows.{put_row}
use Rattle.transcript.specs.declared.input.Window.{Window}
use Rattle.transcript.specs.declared.reading.Asked.{Asked}
use Rattle.transcript.specs.declared.reading.Asked.TheVariants.{Cards, Station, Date, Height, Series, Turns, Year, Bookings, Hourly}
use Rattle.transcript.specs.declared.reading.Heard.{Heard}
use Rattle.transcript.specs.declared.reading.Halt.{Halt}

-- the card file stands in the buffer of n bytes, from the first place to the second; one that came whole has the bytes asked for, and LF (10) behind them
pub record FilePost (n bytes : ℕ) (left : List ℕ) (w : Window) (r : Result (ℕ × ℕ) ℕ) : Type 0 where
  pub within : Within n w
  pub whole : IfOk r (λ f. (f.0 ≤ f.1) × (f.1 ≤ n) × (f.1 ≡ f.0 + bytes) × (slice_index left f.1 ≡ 10))

-- the rows with record k, from 0: 146 are kept
abbrev pub kept_row : Rows → ℕ → ℕ → ℕ → ℕ → Rows
kept_row rows k place amplitude phase = cond (nat_lt k most_records) (put_row rows k place amplitude phase) rows

-- the input line behind a line that is parsed, or that of a line that is bad
abbrev pub lines_taken : {A : Type 0} → Option A → ℕ → ℕ
lines_taken (Some parsed) line = lines_below line 1
lines_taken None line = line

-- a line was taken, a minute's or a record's; where it is bad, none was
pub record LinePost {A : Type 0} (n : ℕ) (w : Window) (v : Window) (r : Option A) : Type 0 where
  pub within : Within n v
  pub line : v.line ≡ lines_taken r w.line

-- where the lines behind a window were all minutes, so many of them were taken
pub record MinutesPost (n lines : ℕ) (w : Window) (v : Window) (r : Option (Unit {0})) : Type 0 where
  pub within : Within n v
  pub whole : IfSome r (λ _. v.line ≡ lines_below w.line lines)

-- what a call asks can be lent: a card file's bytes in a buffer of n, and places in buffers of m minutes and h heights
abbrev pub Fits : ℕ → ℕ → ℕ → Asked → Type 0
Fits n m h (Cards from end) = (from ≤ end) × (end ≤ n)
Fits n m h (Station latitude count strides rows) = Unit {0}
Fits n m h (Date year month) = Unit {0}
Fits n m h (Height minute) = Unit {0}
Fits n m h (Series start step count) = count ≤ h
Fits n m h (Turns first last minutes heights) = (minutes ≤ m) × (heights ≤ h)
Fits n m h (Year line) = (line.count ≤ h) × (line.minutes ≤ m) × (line.heights ≤ h)
Fits n m h (Bookings count heights) = (count ≤ m) × (heights ≤ h)
Fits n m h (Hourly station bytes) = Unit {0}

pub record Lent (n m h : ℕ) (a : Asked) : Type 0 where
  pub fits : Fits n m h a

-- what is heard, with the window behind it
pub record HeardPost (n m h : ℕ) (w : Window) (r : Result Heard Halt) : Type 0 where
  pub within : Within n w
  pub lent : IfOk r (λ heard. Lent n m h heard.asked)
