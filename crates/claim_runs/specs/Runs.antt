-- A list of runs of the clock's routines on the machine, and what they give, in the document's words. No contract is named here: only the
-- routines, as they are built, the machine's runs, values and memories, and the document.
-- Assumes nothing.
use Rattle.std.specs.Prelude.{ℕ, List, [], ◌∷◌, ◌≡◌, ℤ, length}
use mir.Val.{Val}
use Rattle.std.specs.Borrow.{Share, u8, u32, i32, i64, usize}
use denote.Laws.{Is}
use Rattle.station.specs.declared.records.Record.{Record}
use Rattle.station.specs.declared.records.Rows.{Rows}
use Rattle.station.specs.declared.strides.Strides.{Strides}
use Rattle.station.specs.Station.{station_lent}
use Rattle.station.specs.Records.{records_of}
use Rattle.station.specs.contracts.records.Record as RecordType
use Rattle.station.specs.contracts.records.Rows as RowsType
use Rattle.station.specs.contracts.strides.Strides as StridesType
use Rattle.calls.specs.declared.annual.Sheet.{Sheet}
use Rattle.calls.specs.contracts.annual.Sheet as SheetType
use Rattle.clock.specs.declared.Clock.{Clock}
use Rattle.clock.specs.contracts.Clock as ClockType
use Rattle.clock.proofs.new.Symbol as new_code
use Rattle.clock.proofs.load_cards.Symbol as load_code
use Rattle.clock.proofs.set_station.Symbol as station_code
use Rattle.clock.proofs.place_station.Symbol as placing_code
use Rattle.clock.proofs.set_date.Symbol as date_code
use Rattle.clock.proofs.height.Symbol as height_code
use Rattle.clock.proofs.height_lent.Symbol as lent_height_code
use Rattle.clock.proofs.series.Symbol as series_code
use Rattle.clock.proofs.turns.Symbol as turns_code
use Rattle.clock.proofs.year.Symbol as year_code
use Rattle.clock.proofs.bookings.Symbol as booking_code
use Rattle.clock.proofs.bookings_lent.Symbol as lent_booking_code
use Rattle.clock.proofs.hourly.Symbol as hourly_code
use Rattle.clock.proofs.names.Symbol as names_code
use Rattle.cuvalimodo_c.proofs.cuvalimodo_new.Symbol as held_new_code
use Rattle.cuvalimodo_c.proofs.cuvalimodo_load_cards.Symbol as held_load_code
use Rattle.cuvalimodo_c.proofs.cuvalimodo_set_station.Symbol as held_station_code
use Rattle.cuvalimodo_c.proofs.cuvalimodo_set_date.Symbol as held_date_code
use Rattle.cuvalimodo_c.proofs.cuvalimodo_height.Symbol as held_height_code
use Rattle.cuvalimodo_c.proofs.cuvalimodo_series.Symbol as held_series_code
use Rattle.cuvalimodo_c.proofs.cuvalimodo_turns.Symbol as held_turns_code
use Rattle.cuvalimodo_c.proofs.cuvalimodo_year.Symbol as held_year_code
use Rattle.cuvalimodo_c.proofs.cuvalimodo_bookings.Symbol as held_booking_code
use Rattle.cuvalimodo_c.proofs.cuvalimodo_hourly.Symbol as held_hourly_code
use Rattle.cuvalimodo_c.proofs.cuvalimodo_names.Symbol as held_names_code
use Rattle.claim.specs.Document.{Request, Cards, Station, Date, Height, Series, Turns, Year, Bookings, Hourly, Names, Gave, told, predicted, wrote, found, filled, carded, named}
use Rattle.claim_runs.specs.Handed.{Function, function, value, reads, writes, sees, changes, Ran, Leaves}
use Rattle.claim_runs.specs.Values.{answer_in, height_in, turns_in, cards_in, table_names_in, bytes_at, minutes_at, heights_at, answer_part, clock_in, verdict_in, reading_in, turnings_in, held_cards_in, clock_at, zero_memory}

-- "The first gets a clock with no table, station or month": a clock's value that a run of `new` returned, from any memory; that a run of the
-- other `new`, which is lent a clock, whichever it is, left in its place; or that is loaded from memory of nothing but zeros
pub data Started : Val → Type 2 where
  returned : (x : Ran (function new_code.name new_code.code) [] []) → Started x.value
  left : {vc : Val} {b o : ℕ} (c : Clock) → Is ClockType.the_row c (vc ∷ []) → (x : Ran (function held_new_code.name held_new_code.code) [] (changes ClockType.the_row vc b o ∷ [])) → Started (clock_at x.left b o)
  zeros : Started (clock_at zero_memory 0 0)

-- One call, run: the machine's value of the clock that it gets, the call with all that is lent to it, and the machine's value of the clock
-- that it leaves.
pub data Run : Val → Request → Val → Type 2 where
  loads : {vc : Val} {file : List ℕ} {q : Share} {b o : ℕ}
      → (x : Ran (function load_code.name load_code.code) (vc ∷ []) (reads u8 q file b o ∷ []))
      → Run vc (Cards file) (clock_in x.value)
  stations : {vc : Val} {latitude : ℤ} {strides : Strides} {vl vt : Val} {records : List Record} {q : Share} {b o : ℕ}
      → (x : Ran (function station_code.name station_code.code) (vc ∷ []) (value i32 latitude vl ∷ value StridesType.the_row strides vt ∷ reads RecordType.the_row q records b o ∷ []))
      → Run vc (Station (station_lent latitude strides records)) (clock_in x.value)
  placed : {vc : Val} {latitude : ℤ} {strides : Strides} {n : ℕ} {rows : Rows} {vl vt vn vr : Val}
      → (x : Ran (function placing_code.name placing_code.code) (vc ∷ []) (value i32 latitude vl ∷ value StridesType.the_row strides vt ∷ value usize n vn ∷ value RowsType.the_row rows vr ∷ []))
      → Run vc (Station (station_lent latitude strides (records_of rows n))) (clock_in x.value)
  dates : {vc : Val} {year month : ℕ} {vy vm : Val}
      → (x : Ran (function date_code.name date_code.code) (vc ∷ []) (value u32 year vy ∷ value u32 month vm ∷ []))
      → Run vc (Date year month) (clock_in x.value)
  heights : {vc : Val} {minute : ℕ} {vm : Val}
      → Ran (function height_code.name height_code.code) (vc ∷ []) (value u32 minute vm ∷ [])
      → Run vc (Height minute) vc
  serieses : {vc : Val} {start step : ℕ} {vs vt : Val} {hs : List ℤ} {b o : ℕ}
      → Ran (function series_code.name series_code.code) (vc ∷ []) (value u32 start vs ∷ value u32 step vt ∷ writes i64 hs b o ∷ [])
      → Run vc (Series start step hs) vc
  searches : {vc : Val} {first last : ℕ} {vf vl : Val} {ms : List ℕ} {b o : ℕ} {hs : List ℤ} {b₁ o₁ : ℕ}
      → Ran (function turns_code.name turns_code.code) (vc ∷ []) (value u32 first vf ∷ value u32 last vl ∷ writes u32 ms b o ∷ writes i64 hs b₁ o₁ ∷ [])
      → Run vc (Turns first last ms hs) vc
  years : {vc : Val} {sheet : Sheet} {vs : Val} {ss : List ℤ} {b o : ℕ} {ms : List ℕ} {b₁ o₁ : ℕ} {hs : List ℤ} {b₂ o₂ : ℕ}
      → Ran (function year_code.name year_code.code) (vc ∷ []) (value SheetType.the_row sheet vs ∷ writes i64 ss b o ∷ writes u32 ms b₁ o₁ ∷ writes i64 hs b₂ o₂ ∷ [])
      → Run vc (Year sheet ss ms hs) vc
  bookings : {vc : Val} {minutes : List ℕ} {q : Share} {b o : ℕ} {hs : List ℤ} {b₁ o₁ : ℕ}
      → Ran (function booking_code.name booking_code.code) (vc ∷ []) (reads u32 q minutes b o ∷ writes i64 hs b₁ o₁ ∷ [])
      → Run vc (Bookings minutes hs) vc
  hourlies : {vc : Val} {number : ℕ} {vn : Val} {cards : List ℕ} {b o : ℕ}
      → Ran (function hourly_code.name hourly_code.code) (vc ∷ []) (value u32 number vn ∷ writes u8 cards b o ∷ [])
      → Run vc (Hourly number cards) vc
  hands : {vc : Val} → Ran (function names_code.name names_code.code) (vc ∷ []) [] → Run vc Names vc
  -- the clock lies in memory and is lent: what lies there at the end is the clock that the call leaves
  held_loads : {vc : Val} {b o : ℕ} {file : List ℕ} {q : Share} {b₁ o₁ : ℕ}
      → (x : Ran (function held_load_code.name held_load_code.code) [] (changes ClockType.the_row vc b o ∷ reads u8 q file b₁ o₁ ∷ []))
      → Run vc (Cards file) (clock_at x.left b o)
  held_stations : {vc : Val} {b o : ℕ} {latitude : ℤ} {strides : Strides} {vl vt : Val} {records : List Record} {q : Share} {b₁ o₁ : ℕ}
      → (x : Ran (function held_station_code.name held_station_code.code) [] (changes ClockType.the_row vc b o ∷ value i32 latitude vl ∷ value StridesType.the_row strides vt ∷ reads RecordType.the_row q records b₁ o₁ ∷ []))
      → Run vc (Station (station_lent latitude strides records)) (clock_at x.left b o)
  held_dates : {vc : Val} {b o : ℕ} {year month : ℕ} {vy vm : Val}
      → (x : Ran (function held_date_code.name held_date_code.code) [] (changes ClockType.the_row vc b o ∷ value u32 year vy ∷ value u32 month vm ∷ []))
      → Run vc (Date year month) (clock_at x.left b o)
  lent_heights : {vc : Val} {s : Share} {b o : ℕ} {minute : ℕ} {vm : Val}
      → Ran (function lent_height_code.name lent_height_code.code) [] (sees ClockType.the_row s vc b o ∷ value u32 minute vm ∷ [])
      → Run vc (Height minute) vc
  held_heights : {vc : Val} {s : Share} {b o : ℕ} {minute : ℕ} {vm : Val}
      → Ran (function held_height_code.name held_height_code.code) [] (sees ClockType.the_row s vc b o ∷ value u32 minute vm ∷ [])
      → Run vc (Height minute) vc
  held_serieses : {vc : Val} {s : Share} {b o : ℕ} {start step : ℕ} {vs vt : Val} {hs : List ℤ} {b₁ o₁ : ℕ}
      → Ran (function held_series_code.name held_series_code.code) [] (sees ClockType.the_row s vc b o ∷ value u32 start vs ∷ value u32 step vt ∷ writes i64 hs b₁ o₁ ∷ [])
      → Run vc (Series start step hs) vc
  held_searches : {vc : Val} {s : Share} {b o : ℕ} {first last : ℕ} {vf vl : Val} {ms : List ℕ} {b₁ o₁ : ℕ} {hs : List ℤ} {b₂ o₂ : ℕ}
      → Ran (function held_turns_code.name held_turns_code.code) [] (sees ClockType.the_row s vc b o ∷ value u32 first vf ∷ value u32 last vl ∷ writes u32 ms b₁ o₁ ∷ writes i64 hs b₂ o₂ ∷ [])
      → Run vc (Turns first last ms hs) vc
  held_years : {vc : Val} {s : Share} {b o : ℕ} {sheet : Sheet} {vy vs vt vf vl : Val} {ss : List ℤ} {b₁ o₁ : ℕ} {ms : List ℕ} {b₂ o₂ : ℕ} {hs : List ℤ} {b₃ o₃ : ℕ}
      → Ran (function held_year_code.name held_year_code.code) [] (sees ClockType.the_row s vc b o ∷ value u32 sheet.year vy ∷ value u32 sheet.start vs ∷ value u32 sheet.step vt ∷ value u32 sheet.first vf ∷ value u32 sheet.last vl ∷ writes i64 ss b₁ o₁ ∷ writes u32 ms b₂ o₂ ∷ writes i64 hs b₃ o₃ ∷ [])
      → Run vc (Year sheet ss ms hs) vc
  lent_bookings : {vc : Val} {s : Share} {b o : ℕ} {minutes : List ℕ} {q : Share} {b₁ o₁ : ℕ} {hs : List ℤ} {b₂ o₂ : ℕ}
      → Ran (function lent_booking_code.name lent_booking_code.code) [] (sees ClockType.the_row s vc b o ∷ reads u32 q minutes b₁ o₁ ∷ writes i64 hs b₂ o₂ ∷ [])
      → Run vc (Bookings minutes hs) vc
  held_bookings : {vc : Val} {s : Share} {b o : ℕ} {minutes : List ℕ} {q : Share} {b₁ o₁ : ℕ} {hs : List ℤ} {b₂ o₂ : ℕ}
      → Ran (function held_booking_code.name held_booking_code.code) [] (sees ClockType.the_row s vc b o ∷ reads u32 q minutes b₁ o₁ ∷ writes i64 hs b₂ o₂ ∷ [])
      → Run vc (Bookings minutes hs) vc
  held_hourlies : {vc : Val} {s : Share} {b o : ℕ} {number : ℕ} {vn : Val} {cards : List ℕ} {b₁ o₁ : ℕ}
      → Ran (function held_hourly_code.name held_hourly_code.code) [] (sees ClockType.the_row s vc b o ∷ value u32 number vn ∷ writes u8 cards b₁ o₁ ∷ [])
      → Run vc (Hourly number cards) vc
  held_hands : {vc : Val} {s : Share} {b o : ℕ} → Ran (function held_names_code.name held_names_code.code) [] (sees ClockType.the_row s vc b o ∷ []) → Run vc Names vc

-- What a run gave is g: g is read off the value that it returned and, where it wrote to a buffer, off the memory at its end; and the buffers
-- lie there with what is read, and the clock, where it was lent, with what it leaves.
unfoldable pub Gives : {vc vc' : Val} {q : Request} → Run vc q vc' → Gave → Type 1
Gives (loads x) g = Leaves x tt × (g ≡ told (answer_in (answer_part x.value)))
Gives (stations x) g = Leaves x tt × (g ≡ told (answer_in (answer_part x.value)))
Gives (placed x) g = Leaves x tt × (g ≡ told (answer_in (answer_part x.value)))
Gives (dates x) g = Leaves x tt × (g ≡ told (answer_in (answer_part x.value)))
Gives (heights x) g = Leaves x tt × (g ≡ predicted (height_in x.value))
Gives (serieses {hs = hs} {b = b} {o = o} x) g =
    let hs' : List ℤ = heights_at x.left b o (length hs) in
    Leaves x (hs', tt) × (g ≡ wrote (record { returned = answer_in x.value; heights = hs' }))
Gives (searches {ms = ms} {b = b} {o = o} {hs = hs} {b₁ = b₁} {o₁ = o₁} x) g =
    let ms' : List ℕ = minutes_at x.left b o (length ms) in
    let hs' : List ℤ = heights_at x.left b₁ o₁ (length hs) in
    Leaves x (ms', (hs', tt)) × (g ≡ found (record { returned = turns_in x.value; minutes = ms'; heights = hs' }))
Gives (years {ss = ss} {b = b} {o = o} {ms = ms} {b₁ = b₁} {o₁ = o₁} {hs = hs} {b₂ = b₂} {o₂ = o₂} x) g =
    let ss' : List ℤ = heights_at x.left b o (length ss) in
    let ms' : List ℕ = minutes_at x.left b₁ o₁ (length ms) in
    let hs' : List ℤ = heights_at x.left b₂ o₂ (length hs) in
    Leaves x (ss', (ms', (hs', tt))) × (g ≡ filled (record { returned = turns_in x.value; series = ss'; minutes = ms'; heights = hs' }))
Gives (bookings {hs = hs} {b₁ = b₁} {o₁ = o₁} x) g =
    let hs' : List ℤ = heights_at x.left b₁ o₁ (length hs) in
    Leaves x (hs', tt) × (g ≡ wrote (record { returned = answer_in x.value; heights = hs' }))
Gives (hourlies {cards = cards} {b = b} {o = o} x) g =
    let cards' : List ℕ = bytes_at x.left b o (length cards) in
    Leaves x (cards', tt) × (g ≡ carded (record { returned = cards_in x.value; buffer = cards' }))
Gives (hands x) g = Leaves x tt × (g ≡ named (table_names_in x.value))
Gives (held_loads {b = b} {o = o} x) g = Leaves x (clock_at x.left b o, tt) × (g ≡ told (verdict_in x.value))
Gives (held_stations {b = b} {o = o} x) g = Leaves x (clock_at x.left b o, tt) × (g ≡ told (verdict_in x.value))
Gives (held_dates {b = b} {o = o} x) g = Leaves x (clock_at x.left b o, tt) × (g ≡ told (verdict_in x.value))
Gives (lent_heights x) g = Leaves x tt × (g ≡ predicted (height_in x.value))
Gives (held_heights x) g = Leaves x tt × (g ≡ predicted (reading_in x.value))
Gives (held_serieses {hs = hs} {b₁ = b₁} {o₁ = o₁} x) g =
    let hs' : List ℤ = heights_at x.left b₁ o₁ (length hs) in
    Leaves x (hs', tt) × (g ≡ wrote (record { returned = verdict_in x.value; heights = hs' }))
Gives (held_searches {ms = ms} {b₁ = b₁} {o₁ = o₁} {hs = hs} {b₂ = b₂} {o₂ = o₂} x) g =
    let ms' : List ℕ = minutes_at x.left b₁ o₁ (length ms) in
    let hs' : List ℤ = heights_at x.left b₂ o₂ (length hs) in
    Leaves x (ms', (hs', tt)) × (g ≡ found (record { returned = turnings_in x.value; minutes = ms'; heights = hs' }))
Gives (held_years {ss = ss} {b₁ = b₁} {o₁ = o₁} {ms = ms} {b₂ = b₂} {o₂ = o₂} {hs = hs} {b₃ = b₃} {o₃ = o₃} x) g =
    let ss' : List ℤ = heights_at x.left b₁ o₁ (length ss) in
    let ms' : List ℕ = minutes_at x.left b₂ o₂ (length ms) in
    let hs' : List ℤ = heights_at x.left b₃ o₃ (length hs) in
    Leaves x (ss', (ms', (hs', tt))) × (g ≡ filled (record { returned = turnings_in x.value; series = ss'; minutes = ms'; heights = hs' }))
Gives (lent_bookings {hs = hs} {b₂ = b₂} {o₂ = o₂} x) g =
    let hs' : List ℤ = heights_at x.left b₂ o₂ (length hs) in
    Leaves x (hs', tt) × (g ≡ wrote (record { returned = answer_in x.value; heights = hs' }))
Gives (held_bookings {hs = hs} {b₂ = b₂} {o₂ = o₂} x) g =
    let hs' : List ℤ = heights_at x.left b₂ o₂ (length hs) in
    Leaves x (hs', tt) × (g ≡ wrote (record { returned = verdict_in x.value; heights = hs' }))
Gives (held_hourlies {cards = cards} {b₁ = b₁} {o₁ = o₁} x) g =
    let cards' : List ℕ = bytes_at x.left b₁ o₁ (length cards) in
    Leaves x (cards', tt) × (g ≡ carded (record { returned = held_cards_in x.value; buffer = cards' }))
Gives (held_hands x) g = Leaves x tt × (g ≡ named (table_names_in x.value))

-- the function that was run
abbrev pub routine_of : {vc vc' : Val} {q : Request} → Run vc q vc' → Function
routine_of (loads x) = (function load_code.name load_code.code)
routine_of (stations x) = (function station_code.name station_code.code)
routine_of (placed x) = (function placing_code.name placing_code.code)
routine_of (dates x) = (function date_code.name date_code.code)
routine_of (heights x) = (function height_code.name height_code.code)
routine_of (serieses x) = (function series_code.name series_code.code)
routine_of (searches x) = (function turns_code.name turns_code.code)
routine_of (years x) = (function year_code.name year_code.code)
routine_of (bookings x) = (function booking_code.name booking_code.code)
routine_of (hourlies x) = (function hourly_code.name hourly_code.code)
routine_of (hands x) = (function names_code.name names_code.code)
routine_of (held_loads x) = (function held_load_code.name held_load_code.code)
routine_of (held_stations x) = (function held_station_code.name held_station_code.code)
routine_of (held_dates x) = (function held_date_code.name held_date_code.code)
routine_of (lent_heights x) = (function lent_height_code.name lent_height_code.code)
routine_of (held_heights x) = (function held_height_code.name held_height_code.code)
routine_of (held_serieses x) = (function held_series_code.name held_series_code.code)
routine_of (held_searches x) = (function held_turns_code.name held_turns_code.code)
routine_of (held_years x) = (function held_year_code.name held_year_code.code)
routine_of (lent_bookings x) = (function lent_booking_code.name lent_booking_code.code)
routine_of (held_bookings x) = (function held_booking_code.name held_booking_code.code)
routine_of (held_hourlies x) = (function held_hourly_code.name held_hourly_code.code)
routine_of (held_hands x) = (function held_names_code.name held_names_code.code)

-- "Each later one gets the clock as the one before it returned or left it." What is done to the memory between two calls is the caller's.
pub data Runs : Val → List Request → Val → Type 2 where
  done : {vc : Val} → Runs vc [] vc
  ◌then◌ : {vc vc' vc'' : Val} {q : Request} {qs : List Request} → Run vc q vc' → Runs vc' qs vc'' → Runs vc (q ∷ qs) vc''

infixr 5 ◌then◌
-- what each run of a list gave, the first one first
unfoldable pub GiveAll : {vc vc' : Val} {qs : List Request} → Runs vc qs vc' → List Gave → Type 1
GiveAll done [] = Unit {1}
GiveAll done (g ∷ gs) = ⊥ × Unit {1}
GiveAll (◌then◌ x xs) [] = ⊥ × Unit {1}
GiveAll (◌then◌ x xs) (g ∷ gs) = Gives x g × GiveAll xs gs

-- the functions, the first one first
abbrev pub routines_of : {vc vc' : Val} {qs : List Request} → Runs vc qs vc' → List Function
routines_of done = []
routines_of (◌then◌ x xs) = routine_of x ∷ routines_of xs
