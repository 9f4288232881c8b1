-- THE CLAIM, OF THE MACHINE, as it is proved (proofs/OnMachine.antt): of any list of runs of the clock's routines. It names no contract.
-- Assumes nothing.
use Rattle.std.specs.Prelude.{ℕ, List, [], ◌∷◌, ◌++◌, ℤ}
use base.Fraction.{full_share}
use mir.Val.{Val}
use Rattle.std.specs.Borrow.{Share, u8, u32, i32, i64, usize}
use prog.Memory.{Memory}
use prog.Routine.{Env, ends}
use prog.Wired.{Wired}
use denote.Laws.{Is}
use Rattle.station.specs.declared.records.Record.{Record}
use Rattle.station.specs.declared.records.Rows.{Rows}
use Rattle.station.specs.declared.strides.Strides.{Strides}
use Rattle.station.specs.contracts.records.Record as RecordType
use Rattle.station.specs.contracts.records.Rows as RowsType
use Rattle.station.specs.contracts.strides.Strides as StridesType
use Rattle.calls.specs.declared.annual.Sheet.{Sheet}
use Rattle.calls.specs.contracts.annual.Sheet as SheetType
use Rattle.clock.specs.declared.Clock.{Clock}
use Rattle.clock.specs.contracts.Clock as ClockType
use Rattle.clock.proofs.new.Symbol as new_code
use Rattle.clock.proofs.load_cards.Symbol as load_code
use Rattle.clock.proofs.set_station.Symbol as station_code
use Rattle.clock.proofs.place_station.Symbol as placing_code
use Rattle.clock.proofs.set_date.Symbol as date_code
use Rattle.clock.proofs.height.Symbol as height_code
use Rattle.clock.proofs.height_lent.Symbol as lent_height_code
use Rattle.clock.proofs.series.Symbol as series_code
use Rattle.clock.proofs.turns.Symbol as turns_code
use Rattle.clock.proofs.year.Symbol as year_code
use Rattle.clock.proofs.bookings.Symbol as booking_code
use Rattle.clock.proofs.bookings_lent.Symbol as lent_booking_code
use Rattle.clock.proofs.hourly.Symbol as hourly_code
use Rattle.clock.proofs.names.Symbol as names_code
use Rattle.cuvalimodo_c.proofs.cuvalimodo_new.Symbol as held_new_code
use Rattle.cuvalimodo_c.proofs.cuvalimodo_load_cards.Symbol as held_load_code
use Rattle.cuvalimodo_c.proofs.cuvalimodo_set_station.Symbol as held_station_code
use Rattle.cuvalimodo_c.proofs.cuvalimodo_set_date.Symbol as held_date_code
use Rattle.cuvalimodo_c.proofs.cuvalimodo_height.Symbol as held_height_code
use Rattle.cuvalimodo_c.proofs.cuvalimodo_series.Symbol as held_series_code
use Rattle.cuvalimodo_c.proofs.cuvalimodo_turns.Symbol as held_turns_code
use Rattle.cuvalimodo_c.proofs.cuvalimodo_year.Symbol as held_year_code
use Rattle.cuvalimodo_c.proofs.cuvalimodo_bookings.Symbol as held_booking_code
use Rattle.cuvalimodo_c.proofs.cuvalimodo_hourly.Symbol as held_hourly_code
use Rattle.cuvalimodo_c.proofs.cuvalimodo_names.Symbol as held_names_code
use Rattle.claim.specs.Document.{Request, nothing, gives_all, EachNear}
use Rattle.claim_runs.specs.Handed.{Function, function, Assertion, ◌∗◌, ⟦◌⟧₀, ◌⊨◌, Handed, value, reads, writes, sees, changes, passed, Fit, At, lie}
use Rattle.claim_runs.specs.Runs.{Started, Runs, GiveAll}

-- `exactly`: all that the runs return and write is what the document gives for the list of calls.
-- `near`: each height among it is within the allowed distance of the exact sum at its own minute.
pub record OnMachine {vc vc' : Val} (qs : List Request) (xs : Runs vc qs vc') : Type 1 where
  pub exactly : GiveAll xs (gives_all nothing qs)
  pub near : EachNear nothing qs (gives_all nothing qs)

-- Take the value of a clock with no table, station or month, and any list of runs, each of a routine of the clock on the value of the clock that
-- the one before returned or left.
abbrev pub OfAnyRuns : Type 2
OfAnyRuns = (vc vc' : Val) (qs : List Request) → Started vc → (xs : Runs vc qs vc') → OnMachine qs xs

-- ---- demand 1, "every call ends": so what is said of runs is said of something, whichever call comes next

-- the function f, called with the values `front` and with what is handed over, returns, in every program that has its code and from every
-- memory in which the buffers and structs lie
abbrev pub Returns : Function → List Val → List Handed → Type 2
Returns f front handed =
    (γ : Env) → Wired γ f.code → Fit handed → (σ : Memory) (F : Assertion) → σ ⊨ ⟦ lie handed ⟧₀ ∗ F
    → ∥ ((v : Val) × (σ' : Memory) × ends (γ f.name) (front ++ passed handed) σ v σ') ∥₁

-- each routine does, on the clock's value vc; and that value can be laid into memory, beside all else that is there, to be lent
pub record EveryCallEnds (vc : Val) : Type 2 where
  pub loads : (file : List ℕ) (q : Share) (b o : ℕ) → Returns (function load_code.name load_code.code) (vc ∷ []) (reads u8 q file b o ∷ [])
  pub stations : (latitude : ℤ) (strides : Strides) (vl vt : Val) (records : List Record) (q : Share) (b o : ℕ) → Returns (function station_code.name station_code.code) (vc ∷ []) (value i32 latitude vl ∷ value StridesType.the_row strides vt ∷ reads RecordType.the_row q records b o ∷ [])
  pub placed : (latitude : ℤ) (strides : Strides) (n : ℕ) (rows : Rows) (vl vt vn vr : Val) → Returns (function placing_code.name placing_code.code) (vc ∷ []) (value i32 latitude vl ∷ value StridesType.the_row strides vt ∷ value usize n vn ∷ value RowsType.the_row rows vr ∷ [])
  pub dates : (year month : ℕ) (vy vm : Val) → Returns (function date_code.name date_code.code) (vc ∷ []) (value u32 year vy ∷ value u32 month vm ∷ [])
  pub heights : (minute : ℕ) (vm : Val) → Returns (function height_code.name height_code.code) (vc ∷ []) (value u32 minute vm ∷ [])
  pub serieses : (start step : ℕ) (vs vt : Val) (hs : List ℤ) (b o : ℕ) → Returns (function series_code.name series_code.code) (vc ∷ []) (value u32 start vs ∷ value u32 step vt ∷ writes i64 hs b o ∷ [])
  pub searches : (first last : ℕ) (vf vl : Val) (ms : List ℕ) (b o : ℕ) (hs : List ℤ) (b₁ o₁ : ℕ)
      → Returns (function turns_code.name turns_code.code) (vc ∷ []) (value u32 first vf ∷ value u32 last vl ∷ writes u32 ms b o ∷ writes i64 hs b₁ o₁ ∷ [])
  pub years : (sheet : Sheet) (vs : Val) (ss : List ℤ) (b o : ℕ) (ms : List ℕ) (b₁ o₁ : ℕ) (hs : List ℤ) (b₂ o₂ : ℕ)
      → Returns (function year_code.name year_code.code) (vc ∷ []) (value SheetType.the_row sheet vs ∷ writes i64 ss b o ∷ writes u32 ms b₁ o₁ ∷ writes i64 hs b₂ o₂ ∷ [])
  pub bookings : (minutes : List ℕ) (q : Share) (b o : ℕ) (hs : List ℤ) (b₁ o₁ : ℕ) → Returns (function booking_code.name booking_code.code) (vc ∷ []) (reads u32 q minutes b o ∷ writes i64 hs b₁ o₁ ∷ [])
  pub hourlies : (number : ℕ) (vn : Val) (cards : List ℕ) (b o : ℕ) → Returns (function hourly_code.name hourly_code.code) (vc ∷ []) (value u32 number vn ∷ writes u8 cards b o ∷ [])
  pub hands : Returns (function names_code.name names_code.code) (vc ∷ []) []
  pub laid : (σ : Memory) (F : Assertion) → σ ⊨ F → ∥ ((b : ℕ) × (σ' : Memory) × (σ' ⊨ ⟦ At ClockType.the_row full_share vc b 0 ⟧₀ ∗ F)) ∥₁
  pub held_loads : (b o : ℕ) (file : List ℕ) (q : Share) (b₁ o₁ : ℕ) → Returns (function held_load_code.name held_load_code.code) [] (changes ClockType.the_row vc b o ∷ reads u8 q file b₁ o₁ ∷ [])
  pub held_stations : (b o : ℕ) (latitude : ℤ) (strides : Strides) (vl vt : Val) (records : List Record) (q : Share) (b₁ o₁ : ℕ)
      → Returns (function held_station_code.name held_station_code.code) [] (changes ClockType.the_row vc b o ∷ value i32 latitude vl ∷ value StridesType.the_row strides vt ∷ reads RecordType.the_row q records b₁ o₁ ∷ [])
  pub held_dates : (b o year month : ℕ) (vy vm : Val) → Returns (function held_date_code.name held_date_code.code) [] (changes ClockType.the_row vc b o ∷ value u32 year vy ∷ value u32 month vm ∷ [])
  pub lent_heights : (s : Share) (b o minute : ℕ) (vm : Val) → Returns (function lent_height_code.name lent_height_code.code) [] (sees ClockType.the_row s vc b o ∷ value u32 minute vm ∷ [])
  pub held_heights : (s : Share) (b o minute : ℕ) (vm : Val) → Returns (function held_height_code.name held_height_code.code) [] (sees ClockType.the_row s vc b o ∷ value u32 minute vm ∷ [])
  pub held_serieses : (s : Share) (b o start step : ℕ) (vs vt : Val) (hs : List ℤ) (b₁ o₁ : ℕ)
      → Returns (function held_series_code.name held_series_code.code) [] (sees ClockType.the_row s vc b o ∷ value u32 start vs ∷ value u32 step vt ∷ writes i64 hs b₁ o₁ ∷ [])
  pub held_searches : (s : Share) (b o first last : ℕ) (vf vl : Val) (ms : List ℕ) (b₁ o₁ : ℕ) (hs : List ℤ) (b₂ o₂ : ℕ)
      → Returns (function held_turns_code.name held_turns_code.code) [] (sees ClockType.the_row s vc b o ∷ value u32 first vf ∷ value u32 last vl ∷ writes u32 ms b₁ o₁ ∷ writes i64 hs b₂ o₂ ∷ [])
  pub held_years : (s : Share) (b o : ℕ) (sheet : Sheet) (vy vs vt vf vl : Val) (ss : List ℤ) (b₁ o₁ : ℕ) (ms : List ℕ) (b₂ o₂ : ℕ) (hs : List ℤ) (b₃ o₃ : ℕ)
      → Returns (function held_year_code.name held_year_code.code) [] (sees ClockType.the_row s vc b o ∷ value u32 sheet.year vy ∷ value u32 sheet.start vs ∷ value u32 sheet.step vt ∷ value u32 sheet.first vf ∷ value u32 sheet.last vl ∷ writes i64 ss b₁ o₁ ∷ writes u32 ms b₂ o₂ ∷ writes i64 hs b₃ o₃ ∷ [])
  pub lent_bookings : (s : Share) (b o : ℕ) (minutes : List ℕ) (q : Share) (b₁ o₁ : ℕ) (hs : List ℤ) (b₂ o₂ : ℕ)
      → Returns (function lent_booking_code.name lent_booking_code.code) [] (sees ClockType.the_row s vc b o ∷ reads u32 q minutes b₁ o₁ ∷ writes i64 hs b₂ o₂ ∷ [])
  pub held_bookings : (s : Share) (b o : ℕ) (minutes : List ℕ) (q : Share) (b₁ o₁ : ℕ) (hs : List ℤ) (b₂ o₂ : ℕ)
      → Returns (function held_booking_code.name held_booking_code.code) [] (sees ClockType.the_row s vc b o ∷ reads u32 q minutes b₁ o₁ ∷ writes i64 hs b₂ o₂ ∷ [])
  pub held_hourlies : (s : Share) (b o number : ℕ) (vn : Val) (cards : List ℕ) (b₁ o₁ : ℕ)
      → Returns (function held_hourly_code.name held_hourly_code.code) [] (sees ClockType.the_row s vc b o ∷ value u32 number vn ∷ writes u8 cards b₁ o₁ ∷ [])
  pub held_hands : (s : Share) (b o : ℕ) → Returns (function held_names_code.name held_names_code.code) [] (sees ClockType.the_row s vc b o ∷ [])

-- `new` returns, and the other `new` on whichever clock it is lent; and after any list of runs each routine returns, on the value of the clock
-- that the last one returned or left
pub record AlwaysEnds : Type 2 where
  pub new : Returns (function new_code.name new_code.code) [] []
  pub held_new : (c : Clock) (vc : Val) → Is ClockType.the_row c (vc ∷ []) → (b o : ℕ) → Returns (function held_new_code.name held_new_code.code) [] (changes ClockType.the_row vc b o ∷ [])
  pub then : (vc vc' : Val) (qs : List Request) → Started vc → Runs vc qs vc' → ∥ EveryCallEnds vc' ∥₁
