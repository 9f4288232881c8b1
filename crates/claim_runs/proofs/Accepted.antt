-- A list with each kind of call in it is accepted (specs/Accepted.antt): by computing, from the bytes of the card file on. Each value on the
-- way, as the table and the month, is written out once. Assumes nothing.
use Prim.{Unit}
use Prim.Native.Nat.{ℕ, zero, suc, ◌+◌, ◌-◌, ◌≤◌}
use native.Mathlib.Nat.{sub-zero}
use native.Mathlib.Omega.{arith}
use mathlib.Core.Logic.{∥∥₁_map}
use mathlib.Core.Path.{◌≡◌, refl, ap, ap₂, fun_ext, subst, ◌∙◌}
use mathlib.Core.Bool.{false}
use mathlib.Core.List.{List, [], ◌∷◌, ◌++◌}
use lib.Dec.{ltb}
use lib.IntN.{ℤ, pos, ◌-ℤ◌, zero-*ℤ}
use lib.ListN.{length, drop, length-replicate}
use mir.Val.{Val}
use Rattle.limits.specs.Limits.{most_minutes}
use Rattle.cosine.specs.Fraction.{factorial, arc, unit, term, added, taken, whole, base}
use Rattle.cosine.specs.Fixed.{entry, fixed_base, fixed_cosine}
use Rattle.calendar.specs.Calendar.{is_fourth, month_days, month_minutes, months_days, year_minutes, years_days, day_count, between, in_range}
use Rattle.columns.specs.Bytes.{every, leading, behind}
use Rattle.columns.specs.Lines.{lines_of}
use Rattle.columns.specs.Columns.{padded}
use Rattle.columns.specs.Names.{same, place_from}
use Rattle.fields.specs.Numerals.{begins, numeral, whole_good, whole_size, fixed_good, fixed_size}
use Rattle.fields.specs.Number as fields
use Rattle.fields.specs.Number.{unsigned, unblanked, contents_of}
use Rattle.table.specs.Table.{Main, Table}
use Rattle.table.specs.Definitions.{first_with, definition_at}
use Rattle.card.specs.Formats.{longitude_field, increase_field}
use Rattle.refusals.specs.Places.{is_among}
use Rattle.card.specs.Card.{number, numbers_from, new_name, place_named, new_place, opening, due_card, given}
use Rattle.card_frequencies.specs.Frequencies.{frequency_card, next_frequency, frequencies_from}
use Rattle.card_frequencies.specs.Longitudes.{five_card, five_from}
use Rattle.card_mains.specs.Mains.{satellites_in, main_made, main_numbers, main_card, next_main}
use Rattle.card_constituents.specs.Constituents.{mains_from}
use Rattle.card_shallows.specs.Shallow.{next_shallow}
use Rattle.card_shallows.specs.Shallows.{shallows_from}
use Rattle.card_file.specs.Cards.{first_undefined, read_cards, cards_outcome}
use Rattle.station.specs.Station.{Station, record_outcome, records_outcome, station_outcome}
use Rattle.month_arguments.specs.Longitudes.{longitude, longitudes_on, times}
use Rattle.month_arguments.specs.Arguments.{argument}
use Rattle.month_satellites.specs.Satellites.{sum_over, main_pair}
use Rattle.month_pairs.specs.Pairs.{checked}
use Rattle.month_pairs.specs.Shallow.{main_corrected}
use Rattle.month_workings.specs.Worked.{argument_of, correction_of}
use Rattle.month_prepared.specs.Prepared.{Constituent, Month}
use Rattle.month_prepared.specs.Months.{owner_of}
use Rattle.month.specs.Month.{month_day, weight, constituent, records_prepared, month_of}
use Rattle.year.specs.Year.{months_from, year_of}
use Rattle.heights.specs.Angle.{angle}
use Rattle.heights.specs.Share.{share}
use Rattle.heights.specs.Height.{sum_of_shares, height_at, height_over}
use Rattle.heights.specs.Series.{series_from}
use Rattle.hourly.specs.Writing.{decimal, entry_written, written_by, cards_written}
use Rattle.hourly.specs.Month.{cards_from, cards_of, any_outside, heights_asked, bytes_of, CardsGiven, into_buffer}
use Rattle.turns.specs.Slope.{fall, falls_at, slope_at, slope_over}
use Rattle.turns.specs.Sense.{rising, differ}
use Rattle.turns.specs.Search.{turns_from}
use Rattle.turns.specs.Stride.{tides_of}
use Rattle.station.specs.Strides.{stride_outside, strides_outside}
use Rattle.turns.specs.Strides.{amplitude_of, station_stride}
use Rattle.turns.specs.Written as written
use Rattle.calls.specs.State.{Maybe, none, some}
use Rattle.calls.specs.Names.{names_in}
use Rattle.refusals.specs.Outcome.{Outcome, accepted, refuse_if, ◌>>◌}
use Rattle.calls.specs.Calls.{cards_returns, station_returns, date_gives, date_returns, height_returns, series_heights, series_gives, turns_gives}
use Rattle.calls.specs.Year.{sheet_asked, year_gives}
use Rattle.calls.specs.Bookings.{minutes_from, bookings_heights, bookings_gives}
use Rattle.calls.specs.Hourly.{hourly_bytes, hourly_gives}
use Rattle.clock.proofs.Clock.TheLaws as ClockLaws
use Rattle.claim.specs.Zeroed.{zeroed, zero_of}
use Rattle.claim.proofs.Zeros.{zeros-are-zeroed}
use Rattle.claim.specs.Document.{Last, worked_out, gives, after, gives_all}
use prog.Routine.{Env}
use Rattle.claim_runs.specs.Accepted.{z0, frequency_line, five_line, main_line, card_lines, ended, small_file, z0-records, z0-station, none-station, year-sheet, three_minutes, three_places, station_number, stars, july_cards, accepted_calls, AcceptedByTheDocument, AcceptedFrom, HasTheClock, AcceptedByTheMachine, AcceptedInAnyProgram}
use Rattle.claim_runs.proofs.Program.{clock_program, has-the-clock}
use Rattle.claim_runs.specs.Values.{clock_at, zero_memory}
use Rattle.claim_runs.specs.Runs.{Started, GiveAll}
use Rattle.claim_runs.proofs.EachKind.{all-reached, new-run, held-new-run}
use Rattle.claim_runs.proofs.OnMachine.{on-machine, always-ends}

-- ---- the card file: its lines, its parts, its table

lines_are : lines_of small_file ≡ card_lines
unfolding lines_of ended frequency_line five_line main_line
lines_are = refl

abbrev noughts : List ℕ
noughts = 0 ∷ 0 ∷ 0 ∷ 0 ∷ 0 ∷ []

abbrev z0-main : Main
z0-main = record { place = 0; doodson = pos 0 ∷ pos 0 ∷ pos 0 ∷ pos 0 ∷ pos 0 ∷ pos 0 ∷ []; phase = pos 0; satellites = [] }

-- each part leaves the lines behind it, whatever they are
module _ (rest : List (List ℕ)) where
  frequencies-are : frequencies_from (frequency_line ∷ [] ∷ rest) 1 [] ≡ given (record { name = z0; frequency = 0 } ∷ []) rest 3
  unfolding frequencies_from next_frequency frequency_card new_name place_from frequency_line opening every padded number contents_of unblanked behind leading begins unsigned fixed_good fixed_size numeral fields.ranged
  frequencies-are = refl

  longitudes-are : five_from longitude_field (five_line ∷ rest) 3 ≡ given noughts rest 4
  unfolding five_from five_card numbers_from five_line due_card every padded number contents_of unblanked behind leading begins unsigned fixed_good fixed_size numeral fields.ranged
  longitudes-are = refl

  increases-are : five_from increase_field (five_line ∷ rest) 4 ≡ given noughts rest 5
  unfolding five_from five_card numbers_from five_line due_card every padded number contents_of unblanked behind leading begins unsigned fixed_good fixed_size numeral fields.ranged
  increases-are = refl

  mains-are : mains_from (z0 ∷ []) (main_line ∷ [] ∷ rest) 5 [] ≡ given (z0-main ∷ []) rest 7
  unfolding mains_from satellites_in next_main main_card new_place place_named place_from same is_among main_numbers main_made numbers_from main_line opening every padded number contents_of unblanked behind leading begins unsigned whole_good whole_size fixed_good fixed_size numeral fields.ranged
  mains-are = refl

  shallows-are : shallows_from (z0 ∷ []) (0 ∷ []) ([] ∷ rest) 7 [] ≡ given [] rest 8
  unfolding shallows_from next_shallow opening every
  shallows-are = refl

abbrev table : Table
table = record { frequencies = record { name = z0; frequency = 0 } ∷ []; longitudes = noughts; increases = noughts; mains = z0-main ∷ []; shallows = [] }

cards-read : cards_outcome small_file ≡ accepted table
unfolding cards_outcome read_cards first_undefined is_among
cards-read = rw (lines_are, frequencies-are, longitudes-are, increases-are, mains-are, shallows-are)

-- ---- the station's month

-- P is 100 × 2^20 / 256
abbrev z0-month : List Constituent
z0-month = record { argument = 0; lag = 0; frequency = 0; p = pos 409_600; q = pos 0 } ∷ []

month-is : month_of table z0-station 1976 7 ≡ accepted z0-month
unfolding month_of records_prepared definition_at first_with constituent weight argument_of argument correction_of main_corrected checked main_pair sum_over times longitudes_on longitude month_day day_count years_days months_days month_days is_fourth
month-is = refl

-- in each month of a year
abbrev z0-in : ℕ → Month
z0-in last = record { last = last; constituents = z0-month }

-- 1976, with 29 days in February
abbrev z0-year : List Month
z0-year =
    z0-in 44_640 ∷ z0-in 41_760 ∷ z0-in 44_640 ∷ z0-in 43_200 ∷ z0-in 44_640 ∷ z0-in 43_200 ∷ z0-in 44_640 ∷ z0-in 44_640 ∷ z0-in 43_200 ∷ z0-in 44_640 ∷ z0-in 43_200
    ∷ z0-in 44_640 ∷ []

year-is : year_of table z0-station 1976 ≡ accepted z0-year
unfolding months_from month_minutes month_of records_prepared definition_at first_with constituent weight argument_of argument correction_of main_corrected checked main_pair sum_over times longitudes_on longitude month_day day_count years_days months_days month_days is_fourth
year-is = refl

-- ---- its heights and turns

-- Z0 has angle 0 at every minute, and so one height
angle-is : (minute : ℕ) → angle 0 0 0 minute ≡ 0
unfolding angle
angle-is minute = rw (zero-*ℤ (pos minute -ℤ pos 21_600))

share-is : share (pos 409_600) (pos 0) 0 ≡ pos 409_600
unfolding share fixed_cosine fixed_base entry base added taken whole term factorial arc unit
share-is = refl

height-is : (minute : ℕ) → height_at z0-month minute ≡ pos 100
unfolding height_at sum_of_shares
height-is minute = rw (angle-is minute, share-is)

over-is : height_over z0-year 0 ≡ pos 100
unfolding owner_of
over-is = height-is 0

stride-is : station_stride table z0-station ≡ 120
unfolding station_stride tides_of amplitude_of place_from same
stride-is = refl

-- four strides come to the end, however many are allowed: all the 360 that a search to minute 360 allows would be too many to compute
turns-are : (more : ℕ) → turns_from (slope_at z0-month) 120 360 (suc (suc (suc (suc more)))) 0 ≡ []
unfolding turns_from differ rising slope_at falls_at fall angle fixed_cosine fixed_base entry base added taken whole term factorial arc unit
turns-are more = refl

-- .. in the year as in the month
year-turns-are : (more : ℕ) → turns_from (slope_over z0-year) 120 360 (suc (suc (suc (suc more)))) 0 ≡ []
unfolding turns_from differ rising slope_at falls_at fall angle fixed_cosine fixed_base entry base added taken whole term factorial arc unit owner_of
year-turns-are more = refl

-- ---- its hourly cards

abbrev level : ℕ → ℤ
level minute = pos 100

-- one centimetre is not outside a card's range
level-asked : (place day left : ℕ) → heights_asked place (cards_from level station_number 1976 7 day left) ≡ accepted tt
unfolding heights_asked cards_from any_outside series_from
level-asked place day zero = refl
level-asked place day (suc left) = level-asked (place + 1 + 1) (day + 1) left

july-length : length july_cards ≡ 4_278
unfolding july_cards cards_written written_by entry_written decimal cards_from series_from month_days is_fourth
july-length = refl

july-bytes : bytes_of (cards_of level station_number 1976 7) 4_300 ≡ accepted july_cards
unfolding july_cards
july-bytes =
    ap₂ (λ (asked : Outcome Unit) (n : ℕ). asked >> refuse_if (ltb 4_300 n) 34 0 (accepted july_cards)) (level-asked 1 1 (month_days 1976 7)) july-length

stars-length : (n : ℕ) → length (stars n) ≡ n
unfolding stars
stars-length n = length-replicate n 42

stars-beyond : (n k : ℕ) → n ≤ k → drop n (stars k) ≡ stars (k - n)
unfolding stars
stars-beyond zero k h = rw (sub-zero k)
stars-beyond (suc n) zero h = absurd (omega arith)
stars-beyond (suc n) (suc k) h = let e : k - n ≡ suc k - suc n = omega arith in stars-beyond n k (omega arith) ∙ ap stars e

-- ---- what was last accepted, and what follows from it

abbrev after_cards : Last
after_cards = record { cards = some small_file; station = none; date = none }

abbrev after_none : Last
after_none = record { cards = some small_file; station = some none-station; date = none }

abbrev after_station : Last
after_station = record { cards = some small_file; station = some z0-station; date = none }

abbrev after_date : Last
after_date = record { cards = some small_file; station = some z0-station; date = some (record { year = 1976; month = 7 }) }

-- the table, whichever station there is
table-worked : (s : Maybe Station) → worked_out (record { cards = some small_file; station = s; date = none }) ≡ record { table = some table; station = s; month = none }
unfolding worked_out
table-worked s = rw cards-read

month-worked : worked_out after_date ≡ record { table = some table; station = some z0-station; month = some (record { year = 1976; month = 7; prepared = record { last = most_minutes; constituents = z0-month } }) }
unfolding worked_out date_gives in_range between month_minutes month_days
month-worked = rw (cards-read, month-is)

-- ---- each call

cards-accepted : cards_returns small_file ≡ accepted tt
unfolding cards_returns
cards-accepted = rw cards-read

none-accepted : station_returns (worked_out after_cards) none-station ≡ accepted tt
unfolding station_returns station_outcome strides_outside stride_outside records_outcome
none-accepted = rw (table-worked none)

-- whichever station there was
station-accepted : (s : Maybe Station) → station_returns (worked_out (record { cards = some small_file; station = s; date = none })) z0-station ≡ accepted tt
unfolding station_returns station_outcome strides_outside stride_outside records_outcome record_outcome is_among
station-accepted s = rw (table-worked s)

date-accepted : date_returns (worked_out after_station) 1976 7 ≡ accepted tt
unfolding date_gives date_returns in_range between
date-accepted = rw (table-worked (some z0-station), month-is)

height-given : height_returns (worked_out after_date) 0 ≡ accepted (pos 100)
unfolding height_returns
height-given = rw (month-worked, height-is 0)

one-given : series_gives (worked_out after_date) 0 1 (pos 0 ∷ []) ≡ record { returned = accepted tt; heights = pos 100 ∷ [] }
unfolding series_heights series_gives series_from
one-given = rw (month-worked, height-is 0)

series-given : series_gives (worked_out after_date) 0 1 [] ≡ record { returned = accepted tt; heights = [] }
unfolding series_heights series_gives series_from
series-given = rw month-worked

turns-given : turns_gives (worked_out after_date) 0 360 [] [] ≡ record { returned = accepted (record { count = 0; high = false }); minutes = []; heights = [] }
unfolding turns_gives written.given
turns-given = rw (month-worked, stride-is, turns-are 356)

year-given : year_gives (worked_out after_date) year-sheet [] [] [] ≡ record { returned = accepted (record { count = 0; high = false }); series = []; minutes = []; heights = [] }
unfolding sheet_asked year_gives written.given series_from between year_minutes months_days month_days is_fourth
year-given = rw (month-worked, year-is, stride-is, year-turns-are 356)

one-of-a-year : year_gives (worked_out after_date) year-sheet (pos 0 ∷ []) [] [] ≡ record { returned = accepted (record { count = 0; high = false }); series = pos 100 ∷ []; minutes = []; heights = [] }
unfolding sheet_asked year_gives written.given series_from between year_minutes months_days month_days is_fourth
one-of-a-year = rw (month-worked, year-is, over-is, stride-is, year-turns-are 356)

bookings-given : bookings_gives (worked_out after_date) three_minutes three_places ≡ record { returned = accepted tt; heights = pos 100 ∷ pos 100 ∷ pos 100 ∷ [] }
unfolding bookings_heights bookings_gives minutes_from
bookings-given = rw (month-worked, height-is 0, height-is 720)

cards-are : hourly_bytes (worked_out after_date) station_number 4_300 ≡ accepted july_cards
unfolding hourly_bytes
cards-are = rw month-worked (ap (λ (height : ℕ → ℤ). bytes_of (cards_of height station_number 1976 7) 4_300) (fun_ext height-is) ∙ july-bytes)

-- so many bytes are taken, and the rest is as it was
abbrev taking : ℕ → List ℕ → CardsGiven
taking n rest = record { returned = accepted n; buffer = july_cards ++ rest }

hourly-given : hourly_gives (worked_out after_date) station_number (stars 4_300) ≡ record { returned = accepted 4_278; buffer = july_cards ++ stars 22 }
unfolding hourly_gives
hourly-given =
    let within : 4_278 ≤ 4_300 = omega arith in
    ap (λ (o : Outcome (List ℕ)). into_buffer o (stars 4_300)) (ap (hourly_bytes (worked_out after_date) station_number) (stars-length 4_300) ∙ cards-are)
    ∙ ap (λ (n : ℕ). taking n (drop n (stars 4_300))) july-length
    ∙ ap (taking 4_278) (stars-beyond 4_278 4_300 within)

names-given : names_in (worked_out after_date) ≡ z0 ∷ []
names-given = rw month-worked

pub accepted-by-the-document : AcceptedByTheDocument
unfolding gives_all gives after
accepted-by-the-document =
    rw (cards-accepted, none-accepted, station-accepted (some none-station), station-accepted none, date-accepted, height-given, series-given, one-given, turns-given, year-given, one-of-a-year, bookings-given, hourly-given, names-given)

module _ (program : Env) (has : HasTheClock program) where
  -- the machine's runs of these calls give what the document gives
  accepted-from : (vc : Val) → Started vc → AcceptedFrom vc
  accepted-from vc started = (
    started,
    ∥∥₁_map (all-reached program has always-ends vc started) (λ x. (x.0, x.1, x.2, subst (GiveAll x.1) accepted-by-the-document (on-machine vc x.0 accepted_calls started x.1).exactly)),
  )

pub accepted-in-any-program : AcceptedInAnyProgram
accepted-in-any-program program has =
    record {
      returned = ∥∥₁_map (new-run program has always-ends) (λ x. (x, accepted-from program has x.value (Started.returned x)));
      left = ∥∥₁_map (held-new-run program has always-ends) (λ m. (zero_of ClockLaws.mir, m.0, m.1, accepted-from program has (clock_at m.1.left m.0 0) (Started.left zeroed zeros-are-zeroed m.1)));
      zeros = accepted-from program has (clock_at zero_memory 0 0) Started.zeros;
    }

-- and some program has the clock's code
pub accepted-by-the-machine : AcceptedByTheMachine
accepted-by-the-machine = accepted-in-any-program clock_program has-the-clock
