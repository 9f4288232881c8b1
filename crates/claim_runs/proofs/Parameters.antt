-- The parameters of the clock's functions are what is handed over to their routines, clock first, by value or lent: each by computing.
-- Assumes nothing.
use Prim.Native.Nat.{ℕ}
use mathlib.Core.List.{List, [], ◌∷◌}
use mathlib.Core.Path.{refl}
use lib.IntN.{ℤ}
use mir.Syntax.{w8, w32, w64}
use mir.Val.{Val}
use base.Fml.{Share}
use contract.Monad.{fact}
use denote.Builtin.{u8, u32, i32, i64, usize}
use denote.Copied.{Copied, uint_Copied}
use denote.Laws.{Is, Makes, Lawful}
use denote.Plain.{uint_Makes}
use denote.Signed.{sint_Makes}
use denote.Struct.Laws as LL
use denote.Triple.Clauses.{Ended}
use borrow.Fn.World.{w₀}
use Rattle.station.specs.declared.records.Record.{Record}
use Rattle.station.specs.declared.records.Rows.{Rows}
use Rattle.station.specs.declared.strides.Strides.{Strides}
use Rattle.station.specs.contracts.records.Record as RecordType
use Rattle.station.proofs.records.Record.TheLaws as RecordLaws
use Rattle.station.specs.contracts.records.Rows as RowsType
use Rattle.station.proofs.records.Rows.TheLaws as RowsLaws
use Rattle.station.specs.contracts.strides.Strides as StridesType
use Rattle.station.proofs.strides.Strides.TheLaws as StridesLaws
use Rattle.calls.specs.declared.annual.Sheet.{Sheet}
use Rattle.calls.specs.contracts.annual.Sheet as SheetType
use Rattle.calls.proofs.annual.Sheet.TheLaws as SheetLaws
use Rattle.clock.specs.declared.Clock.{Clock}
use Rattle.clock.specs.View.{Made}
use Rattle.clock.specs.contracts.Clock as ClockType
use Rattle.clock.proofs.Clock.TheLaws as ClockLaws
use Rattle.clock.specs.contracts.new as new
use Rattle.clock.specs.contracts.load_cards as load
use Rattle.clock.proofs.load_cards.Symbol as load_code
use Rattle.clock.proofs.load_cards.Met as load_met
use Rattle.clock.specs.contracts.set_station as station
use Rattle.clock.proofs.set_station.Symbol as station_code
use Rattle.clock.proofs.set_station.Met as station_met
use Rattle.clock.specs.contracts.place_station as placing
use Rattle.clock.proofs.place_station.Symbol as placing_code
use Rattle.clock.proofs.place_station.Met as placing_met
use Rattle.clock.specs.contracts.set_date as date
use Rattle.clock.proofs.set_date.Symbol as date_code
use Rattle.clock.proofs.set_date.Met as date_met
use Rattle.clock.specs.contracts.height as height
use Rattle.clock.proofs.height.Symbol as height_code
use Rattle.clock.proofs.height.Met as height_met
use Rattle.clock.specs.contracts.height_lent as lent_height
use Rattle.clock.proofs.height_lent.Symbol as lent_height_code
use Rattle.clock.proofs.height_lent.Met as lent_height_met
use Rattle.clock.specs.contracts.series as series
use Rattle.clock.proofs.series.Symbol as series_code
use Rattle.clock.proofs.series.Met as series_met
use Rattle.clock.specs.contracts.turns as turns
use Rattle.clock.proofs.turns.Symbol as turns_code
use Rattle.clock.proofs.turns.Met as turns_met
use Rattle.clock.specs.contracts.year as year
use Rattle.clock.proofs.year.Symbol as year_code
use Rattle.clock.proofs.year.Met as year_met
use Rattle.clock.specs.contracts.bookings as booking
use Rattle.clock.proofs.bookings.Symbol as booking_code
use Rattle.clock.proofs.bookings.Met as booking_met
use Rattle.clock.specs.contracts.bookings_lent as lent_booking
use Rattle.clock.proofs.bookings_lent.Symbol as lent_booking_code
use Rattle.clock.proofs.bookings_lent.Met as lent_booking_met
use Rattle.clock.specs.contracts.hourly as hourly
use Rattle.clock.proofs.hourly.Symbol as hourly_code
use Rattle.clock.proofs.hourly.Met as hourly_met
use Rattle.clock.specs.contracts.names as names
use Rattle.clock.proofs.names.Symbol as names_code
use Rattle.clock.proofs.names.Met as names_met
use Rattle.cuvalimodo_c.specs.contracts.cuvalimodo_new as held_new
use Rattle.cuvalimodo_c.specs.contracts.cuvalimodo_load_cards as held_load
use Rattle.cuvalimodo_c.proofs.cuvalimodo_load_cards.Symbol as held_load_code
use Rattle.cuvalimodo_c.proofs.cuvalimodo_load_cards.Met as held_load_met
use Rattle.cuvalimodo_c.specs.contracts.cuvalimodo_set_station as held_station
use Rattle.cuvalimodo_c.proofs.cuvalimodo_set_station.Symbol as held_station_code
use Rattle.cuvalimodo_c.proofs.cuvalimodo_set_station.Met as held_station_met
use Rattle.cuvalimodo_c.specs.contracts.cuvalimodo_set_date as held_date
use Rattle.cuvalimodo_c.proofs.cuvalimodo_set_date.Symbol as held_date_code
use Rattle.cuvalimodo_c.proofs.cuvalimodo_set_date.Met as held_date_met
use Rattle.cuvalimodo_c.specs.contracts.cuvalimodo_height as held_height
use Rattle.cuvalimodo_c.proofs.cuvalimodo_height.Symbol as held_height_code
use Rattle.cuvalimodo_c.proofs.cuvalimodo_height.Met as held_height_met
use Rattle.cuvalimodo_c.specs.contracts.cuvalimodo_series as held_series
use Rattle.cuvalimodo_c.proofs.cuvalimodo_series.Symbol as held_series_code
use Rattle.cuvalimodo_c.proofs.cuvalimodo_series.Met as held_series_met
use Rattle.cuvalimodo_c.specs.contracts.cuvalimodo_turns as held_turns
use Rattle.cuvalimodo_c.proofs.cuvalimodo_turns.Symbol as held_turns_code
use Rattle.cuvalimodo_c.proofs.cuvalimodo_turns.Met as held_turns_met
use Rattle.cuvalimodo_c.specs.contracts.cuvalimodo_year as held_year
use Rattle.cuvalimodo_c.proofs.cuvalimodo_year.Symbol as held_year_code
use Rattle.cuvalimodo_c.proofs.cuvalimodo_year.Met as held_year_met
use Rattle.cuvalimodo_c.specs.contracts.cuvalimodo_bookings as held_booking
use Rattle.cuvalimodo_c.proofs.cuvalimodo_bookings.Symbol as held_booking_code
use Rattle.cuvalimodo_c.proofs.cuvalimodo_bookings.Met as held_booking_met
use Rattle.cuvalimodo_c.specs.contracts.cuvalimodo_hourly as held_hourly
use Rattle.cuvalimodo_c.proofs.cuvalimodo_hourly.Symbol as held_hourly_code
use Rattle.cuvalimodo_c.proofs.cuvalimodo_hourly.Met as held_hourly_met
use Rattle.cuvalimodo_c.specs.contracts.cuvalimodo_names as held_names
use Rattle.cuvalimodo_c.proofs.cuvalimodo_names.Symbol as held_names_code
use Rattle.cuvalimodo_c.proofs.cuvalimodo_names.Met as held_names_met
use Rattle.claim.specs.Calls.{ClausesOf, clauses_at}
use Rattle.claim_runs.specs.Handed.{Function, function, Assertion, Handed, value, reads, writes, sees, changes}
use Rattle.claim_runs.proofs.Lending as had
use Rattle.claim_runs.proofs.Lending.{lent, Means, Meant, lifetimes, wholes, denotes, values_of}
use Rattle.claim_runs.proofs.Ran.{Theorem}
use Rattle.claim_runs.proofs.Handing.{W₀, Takes}

-- ---- values are had for nothing

pub clock-makes : Makes w₀.𝓛 ClockType.the_row (Is ClockType.the_row)
clock-makes = LL.makes ClockType.the_type ClockLaws.the_plain w₀.𝓛

pub clock-lawful : Lawful w₀.𝓛 ClockType.the_row
clock-lawful = LL.lawful ClockType.the_type ClockLaws.the_laws w₀.𝓛

pub rows-make : Makes w₀.𝓛 RowsType.the_row (Is RowsType.the_row)
rows-make = LL.makes RowsType.the_type RowsLaws.the_plain w₀.𝓛

pub strides-make : Makes w₀.𝓛 StridesType.the_row (Is StridesType.the_row)
strides-make = LL.makes StridesType.the_type StridesLaws.the_plain w₀.𝓛

pub sheet-makes : Makes w₀.𝓛 SheetType.the_row (Is SheetType.the_row)
sheet-makes = LL.makes SheetType.the_type SheetLaws.the_plain w₀.𝓛

pub u32-makes : Makes w₀.𝓛 u32 (Is u32)
u32-makes = uint_Makes w₀.𝓛 w32

pub usize-makes : Makes w₀.𝓛 usize (Is usize)
usize-makes = uint_Makes w₀.𝓛 w64

pub i32-makes : Makes w₀.𝓛 i32 (Is i32)
i32-makes = sint_Makes w₀.𝓛 w32

-- ---- values that are copied are lent to be read

pub u8-copied : Copied w₀.𝓛 u8
u8-copied = uint_Copied w₀.𝓛 w8

pub u32-copied : Copied w₀.𝓛 u32
u32-copied = uint_Copied w₀.𝓛 w32

pub record-copied : Copied w₀.𝓛 RecordType.the_row
record-copied = LL.copied RecordType.the_type RecordLaws.the_copy w₀.𝓛

pub clock-copied : Copied w₀.𝓛 ClockType.the_row
clock-copied = LL.copied ClockType.the_type ClockLaws.the_copy w₀.𝓛

-- A function of the clock, f, which is handed the clock c, in one way or another, and what else there is: it meets its contract,
-- and asks for a clock that a call made.
pub record Callable (c : Clock) (f : Function) (hs : List Handed) : Type 2 where
  pub ended : Ended
  pub clauses : ClausesOf ended
  pub met : Theorem ended clauses f
  pub meant : Meant hs
  pub makes : had.Made w₀.𝓛 hs
  pub takes : Takes ended clauses hs meant (fact w₀.𝓤 (Made c))

-- ---- each function

-- what `new` asks: nothing, and so the one that is lent a clock
abbrev pub new-asks : Assertion
new-asks = (clauses_at new.ended (λ M 𝓤. new.clauses) tt tt w₀).requires tt

abbrev pub held-new-asks : Clock → ℕ → ℕ → Assertion
held-new-asks c b o = (clauses_at held_new.ended (λ M 𝓤. held_new.clauses) (0 ∷ [], tt) (lent b o 0 c, tt) w₀).requires tt

unfoldable pub new-takes : Takes new.ended (λ M 𝓤. new.clauses) [] tt new-asks
new-takes = record { enters = λ ns. ((tt, tt, tt, tt, tt), (λ w. tt), refl, refl, refl); writes = λ ns ws. (tt, refl) }

module _ (c : Clock) (vc : Val) where
  abbrev clock : Handed
  clock = value ClockType.the_row c vc

  unfoldable pub load-call : (file : List ℕ) (q : Share) (b o : ℕ) → Callable c (function load_code.name load_code.code) (clock ∷ reads u8 q file b o ∷ [])
  load-call file q b o =
      let all : List Handed = clock ∷ reads u8 q file b o ∷ [] in
      record {
        ended = load.ended;
        clauses = λ M 𝓤. load.clauses;
        met = λ M. load_met.met;
        meant = tt;
        makes = (clock-makes, (u8-copied, tt));
        takes = record { enters = λ ns. ((lifetimes all ns, wholes all, tt, denotes 0 all tt ns, values_of 0 all ns), (λ w. tt), refl, refl, refl); writes = λ ns ws. (tt, refl) };
      }

  unfoldable pub station-call : (latitude : ℤ) (strides : Strides) (vl vt : Val) (records : List Record) (q : Share) (b o : ℕ) → Callable c (function station_code.name station_code.code) (clock ∷ value i32 latitude vl ∷ value StridesType.the_row strides vt ∷ reads RecordType.the_row q records b o ∷ [])
  station-call latitude strides vl vt records q b o =
      let all : List Handed = clock ∷ value i32 latitude vl ∷ value StridesType.the_row strides vt ∷ reads RecordType.the_row q records b o ∷ [] in
      record {
        ended = station.ended;
        clauses = λ M 𝓤. station.clauses;
        met = λ M. station_met.met;
        meant = tt;
        makes = (clock-makes, (i32-makes, (strides-make, (record-copied, tt))));
        takes = record { enters = λ ns. ((lifetimes all ns, wholes all, tt, denotes 0 all tt ns, values_of 0 all ns), (λ w. tt), refl, refl, refl); writes = λ ns ws. (tt, refl) };
      }

  unfoldable pub placing-call : (latitude : ℤ) (strides : Strides) (n : ℕ) (rows : Rows) (vl vt vn vr : Val) → Callable c (function placing_code.name placing_code.code) (clock ∷ value i32 latitude vl ∷ value StridesType.the_row strides vt ∷ value usize n vn ∷ value RowsType.the_row rows vr ∷ [])
  placing-call latitude strides n rows vl vt vn vr =
      let all : List Handed = clock ∷ value i32 latitude vl ∷ value StridesType.the_row strides vt ∷ value usize n vn ∷ value RowsType.the_row rows vr ∷ [] in
      record {
        ended = placing.ended;
        clauses = λ M 𝓤. placing.clauses;
        met = λ M. placing_met.met;
        meant = tt;
        makes = (clock-makes, (i32-makes, (strides-make, (usize-makes, (rows-make, tt)))));
        takes = record { enters = λ ns. ((lifetimes all ns, wholes all, tt, denotes 0 all tt ns, values_of 0 all ns), (λ w. tt), refl, refl, refl); writes = λ ns ws. (tt, refl) };
      }

  unfoldable pub date-call : (year month : ℕ) (vy vm : Val) → Callable c (function date_code.name date_code.code) (clock ∷ value u32 year vy ∷ value u32 month vm ∷ [])
  date-call year month vy vm =
      let all : List Handed = clock ∷ value u32 year vy ∷ value u32 month vm ∷ [] in
      record {
        ended = date.ended;
        clauses = λ M 𝓤. date.clauses;
        met = λ M. date_met.met;
        meant = tt;
        makes = (clock-makes, (u32-makes, (u32-makes, tt)));
        takes = record { enters = λ ns. ((lifetimes all ns, wholes all, tt, denotes 0 all tt ns, values_of 0 all ns), (λ w. tt), refl, refl, refl); writes = λ ns ws. (tt, refl) };
      }

  unfoldable pub height-call : (minute : ℕ) (vm : Val) → Callable c (function height_code.name height_code.code) (clock ∷ value u32 minute vm ∷ [])
  height-call minute vm =
      let all : List Handed = clock ∷ value u32 minute vm ∷ [] in
      record {
        ended = height.ended;
        clauses = λ M 𝓤. height.clauses;
        met = λ M. height_met.met;
        meant = tt;
        makes = (clock-makes, (u32-makes, tt));
        takes = record { enters = λ ns. ((lifetimes all ns, wholes all, tt, denotes 0 all tt ns, values_of 0 all ns), (λ w. tt), refl, refl, refl); writes = λ ns ws. (tt, refl) };
      }

  unfoldable pub series-call : (start step : ℕ) (vs vt : Val) (hs : List ℤ) (b o : ℕ) → Callable c (function series_code.name series_code.code) (clock ∷ value u32 start vs ∷ value u32 step vt ∷ writes i64 hs b o ∷ [])
  series-call start step vs vt hs b o =
      let all : List Handed = clock ∷ value u32 start vs ∷ value u32 step vt ∷ writes i64 hs b o ∷ [] in
      record {
        ended = series.ended;
        clauses = λ M 𝓤. series.clauses;
        met = λ M. series_met.met;
        meant = tt;
        makes = (clock-makes, (u32-makes, (u32-makes, tt)));
        takes = record { enters = λ ns. ((lifetimes all ns, wholes all, tt, denotes 0 all tt ns, values_of 0 all ns), (λ w. tt), refl, refl, refl); writes = λ ns ws. ((ws.1.1.1.0, tt), refl) };
      }

  unfoldable pub turns-call : (first last : ℕ) (vf vl : Val) (ms : List ℕ) (b o : ℕ) (hs : List ℤ) (b₁ o₁ : ℕ) → Callable c (function turns_code.name turns_code.code) (clock ∷ value u32 first vf ∷ value u32 last vl ∷ writes u32 ms b o ∷ writes i64 hs b₁ o₁ ∷ [])
  turns-call first last vf vl ms b o hs b₁ o₁ =
      let all : List Handed = clock ∷ value u32 first vf ∷ value u32 last vl ∷ writes u32 ms b o ∷ writes i64 hs b₁ o₁ ∷ [] in
      record {
        ended = turns.ended;
        clauses = λ M 𝓤. turns.clauses;
        met = λ M. turns_met.met;
        meant = tt;
        makes = (clock-makes, (u32-makes, (u32-makes, tt)));
        takes = record { enters = λ ns. ((lifetimes all ns, wholes all, tt, denotes 0 all tt ns, values_of 0 all ns), (λ w. tt), refl, refl, refl); writes = λ ns ws. ((ws.1.1.1.0, (ws.1.1.1.1.0, tt)), refl) };
      }

  unfoldable pub year-call : (sheet : Sheet) (vs : Val) (ss : List ℤ) (b o : ℕ) (ms : List ℕ) (b₁ o₁ : ℕ) (hs : List ℤ) (b₂ o₂ : ℕ) → Callable c (function year_code.name year_code.code) (clock ∷ value SheetType.the_row sheet vs ∷ writes i64 ss b o ∷ writes u32 ms b₁ o₁ ∷ writes i64 hs b₂ o₂ ∷ [])
  year-call sheet vs ss b o ms b₁ o₁ hs b₂ o₂ =
      let all : List Handed = clock ∷ value SheetType.the_row sheet vs ∷ writes i64 ss b o ∷ writes u32 ms b₁ o₁ ∷ writes i64 hs b₂ o₂ ∷ [] in
      record {
        ended = year.ended;
        clauses = λ M 𝓤. year.clauses;
        met = λ M. year_met.met;
        meant = tt;
        makes = (clock-makes, (sheet-makes, tt));
        takes = record { enters = λ ns. ((lifetimes all ns, wholes all, tt, denotes 0 all tt ns, values_of 0 all ns), (λ w. tt), refl, refl, refl); writes = λ ns ws. ((ws.1.1.0, (ws.1.1.1.0, (ws.1.1.1.1.0, tt))), refl) };
      }

  unfoldable pub bookings-call : (minutes : List ℕ) (q : Share) (b o : ℕ) (hs : List ℤ) (b₁ o₁ : ℕ) → Callable c (function booking_code.name booking_code.code) (clock ∷ reads u32 q minutes b o ∷ writes i64 hs b₁ o₁ ∷ [])
  bookings-call minutes q b o hs b₁ o₁ =
      let all : List Handed = clock ∷ reads u32 q minutes b o ∷ writes i64 hs b₁ o₁ ∷ [] in
      record {
        ended = booking.ended;
        clauses = λ M 𝓤. booking.clauses;
        met = λ M. booking_met.met;
        meant = tt;
        makes = (clock-makes, (u32-copied, tt));
        takes = record { enters = λ ns. ((lifetimes all ns, wholes all, tt, denotes 0 all tt ns, values_of 0 all ns), (λ w. tt), refl, refl, refl); writes = λ ns ws. ((ws.1.1.0, tt), refl) };
      }

  unfoldable pub hourly-call : (number : ℕ) (vn : Val) (cards : List ℕ) (b o : ℕ) → Callable c (function hourly_code.name hourly_code.code) (clock ∷ value u32 number vn ∷ writes u8 cards b o ∷ [])
  hourly-call number vn cards b o =
      let all : List Handed = clock ∷ value u32 number vn ∷ writes u8 cards b o ∷ [] in
      record {
        ended = hourly.ended;
        clauses = λ M 𝓤. hourly.clauses;
        met = λ M. hourly_met.met;
        meant = tt;
        makes = (clock-makes, (u32-makes, tt));
        takes = record { enters = λ ns. ((lifetimes all ns, wholes all, tt, denotes 0 all tt ns, values_of 0 all ns), (λ w. tt), refl, refl, refl); writes = λ ns ws. ((ws.1.1.0, tt), refl) };
      }

  unfoldable pub names-call : Callable c (function names_code.name names_code.code) (clock ∷ [])
  names-call =
      let all : List Handed = clock ∷ [] in
      record {
        ended = names.ended;
        clauses = λ M 𝓤. names.clauses;
        met = λ M. names_met.met;
        meant = tt;
        makes = (clock-makes, tt);
        takes = record { enters = λ ns. ((lifetimes all ns, wholes all, tt, denotes 0 all tt ns, values_of 0 all ns), (λ w. tt), refl, refl, refl); writes = λ ns ws. (tt, refl) };
      }

-- ---- each function that is lent the clock

module _ (c : Clock) (vc : Val) (is : Is ClockType.the_row c (vc ∷ [])) where
  abbrev pub clock-means : Means ClockType.the_row vc
  clock-means = record { it = c; is = is; lowers = ClockLaws.lowers }

  unfoldable pub held-new-takes : (b o : ℕ) → Takes held_new.ended (λ M 𝓤. held_new.clauses) (changes ClockType.the_row vc b o ∷ []) (clock-means, tt) (held-new-asks c b o)
  held-new-takes b o =
      let all : List Handed = changes ClockType.the_row vc b o ∷ [] in
      record { enters = λ ns. ((lifetimes all ns, wholes all, tt, denotes 0 all (clock-means, tt) ns, values_of 0 all ns), (λ w. tt), refl, refl, refl); writes = λ ns ws. ((ws.0, tt), refl) }

  unfoldable pub held-load-call : (b o : ℕ) (file : List ℕ) (q : Share) (b₁ o₁ : ℕ) → Callable c (function held_load_code.name held_load_code.code) (changes ClockType.the_row vc b o ∷ reads u8 q file b₁ o₁ ∷ [])
  held-load-call b o file q b₁ o₁ =
      let all : List Handed = changes ClockType.the_row vc b o ∷ reads u8 q file b₁ o₁ ∷ [] in
      record {
        ended = held_load.ended;
        clauses = λ M 𝓤. held_load.clauses;
        met = λ M. held_load_met.met;
        meant = (clock-means, tt);
        makes = (clock-makes, (u8-copied, tt));
        takes = record { enters = λ ns. ((lifetimes all ns, wholes all, tt, denotes 0 all (clock-means, tt) ns, values_of 0 all ns), (λ w. tt), refl, refl, refl); writes = λ ns ws. ((ws.0, tt), refl) };
      }

  unfoldable pub held-station-call : (b o : ℕ) (latitude : ℤ) (strides : Strides) (vl vt : Val) (records : List Record) (q : Share) (b₁ o₁ : ℕ) → Callable c (function held_station_code.name held_station_code.code) (changes ClockType.the_row vc b o ∷ value i32 latitude vl ∷ value StridesType.the_row strides vt ∷ reads RecordType.the_row q records b₁ o₁ ∷ [])
  held-station-call b o latitude strides vl vt records q b₁ o₁ =
      let all : List Handed = changes ClockType.the_row vc b o ∷ value i32 latitude vl ∷ value StridesType.the_row strides vt ∷ reads RecordType.the_row q records b₁ o₁ ∷ [] in
      record {
        ended = held_station.ended;
        clauses = λ M 𝓤. held_station.clauses;
        met = λ M. held_station_met.met;
        meant = (clock-means, tt);
        makes = (clock-makes, (i32-makes, (strides-make, (record-copied, tt))));
        takes = record { enters = λ ns. ((lifetimes all ns, wholes all, tt, denotes 0 all (clock-means, tt) ns, values_of 0 all ns), (λ w. tt), refl, refl, refl); writes = λ ns ws. ((ws.0, tt), refl) };
      }

  unfoldable pub held-date-call : (b o year month : ℕ) (vy vm : Val) → Callable c (function held_date_code.name held_date_code.code) (changes ClockType.the_row vc b o ∷ value u32 year vy ∷ value u32 month vm ∷ [])
  held-date-call b o year month vy vm =
      let all : List Handed = changes ClockType.the_row vc b o ∷ value u32 year vy ∷ value u32 month vm ∷ [] in
      record {
        ended = held_date.ended;
        clauses = λ M 𝓤. held_date.clauses;
        met = λ M. held_date_met.met;
        meant = (clock-means, tt);
        makes = (clock-makes, (u32-makes, (u32-makes, tt)));
        takes = record { enters = λ ns. ((lifetimes all ns, wholes all, tt, denotes 0 all (clock-means, tt) ns, values_of 0 all ns), (λ w. tt), refl, refl, refl); writes = λ ns ws. ((ws.0, tt), refl) };
      }

  unfoldable pub lent-height-call : (s : Share) (b o minute : ℕ) (vm : Val) → Callable c (function lent_height_code.name lent_height_code.code) (sees ClockType.the_row s vc b o ∷ value u32 minute vm ∷ [])
  lent-height-call s b o minute vm =
      let all : List Handed = sees ClockType.the_row s vc b o ∷ value u32 minute vm ∷ [] in
      record {
        ended = lent_height.ended;
        clauses = λ M 𝓤. lent_height.clauses;
        met = λ M. lent_height_met.met;
        meant = (clock-means, tt);
        makes = (clock-makes, clock-copied, (u32-makes, tt));
        takes = record { enters = λ ns. ((lifetimes all ns, wholes all, tt, denotes 0 all (clock-means, tt) ns, values_of 0 all ns), (λ w. tt), refl, refl, refl); writes = λ ns ws. (tt, refl) };
      }

  unfoldable pub held-height-call : (s : Share) (b o minute : ℕ) (vm : Val) → Callable c (function held_height_code.name held_height_code.code) (sees ClockType.the_row s vc b o ∷ value u32 minute vm ∷ [])
  held-height-call s b o minute vm =
      let all : List Handed = sees ClockType.the_row s vc b o ∷ value u32 minute vm ∷ [] in
      record {
        ended = held_height.ended;
        clauses = λ M 𝓤. held_height.clauses;
        met = λ M. held_height_met.met;
        meant = (clock-means, tt);
        makes = (clock-makes, clock-copied, (u32-makes, tt));
        takes = record { enters = λ ns. ((lifetimes all ns, wholes all, tt, denotes 0 all (clock-means, tt) ns, values_of 0 all ns), (λ w. tt), refl, refl, refl); writes = λ ns ws. (tt, refl) };
      }

  unfoldable pub held-series-call : (s : Share) (b o start step : ℕ) (vs vt : Val) (hs : List ℤ) (b₁ o₁ : ℕ) → Callable c (function held_series_code.name held_series_code.code) (sees ClockType.the_row s vc b o ∷ value u32 start vs ∷ value u32 step vt ∷ writes i64 hs b₁ o₁ ∷ [])
  held-series-call s b o start step vs vt hs b₁ o₁ =
      let all : List Handed = sees ClockType.the_row s vc b o ∷ value u32 start vs ∷ value u32 step vt ∷ writes i64 hs b₁ o₁ ∷ [] in
      record {
        ended = held_series.ended;
        clauses = λ M 𝓤. held_series.clauses;
        met = λ M. held_series_met.met;
        meant = (clock-means, tt);
        makes = (clock-makes, clock-copied, (u32-makes, (u32-makes, tt)));
        takes = record { enters = λ ns. ((lifetimes all ns, wholes all, tt, denotes 0 all (clock-means, tt) ns, values_of 0 all ns), (λ w. tt), refl, refl, refl); writes = λ ns ws. ((ws.1.1.1.0, tt), refl) };
      }

  unfoldable pub held-turns-call : (s : Share) (b o first last : ℕ) (vf vl : Val) (ms : List ℕ) (b₁ o₁ : ℕ) (hs : List ℤ) (b₂ o₂ : ℕ) → Callable c (function held_turns_code.name held_turns_code.code) (sees ClockType.the_row s vc b o ∷ value u32 first vf ∷ value u32 last vl ∷ writes u32 ms b₁ o₁ ∷ writes i64 hs b₂ o₂ ∷ [])
  held-turns-call s b o first last vf vl ms b₁ o₁ hs b₂ o₂ =
      let all : List Handed = sees ClockType.the_row s vc b o ∷ value u32 first vf ∷ value u32 last vl ∷ writes u32 ms b₁ o₁ ∷ writes i64 hs b₂ o₂ ∷ [] in
      record {
        ended = held_turns.ended;
        clauses = λ M 𝓤. held_turns.clauses;
        met = λ M. held_turns_met.met;
        meant = (clock-means, tt);
        makes = (clock-makes, clock-copied, (u32-makes, (u32-makes, tt)));
        takes = record { enters = λ ns. ((lifetimes all ns, wholes all, tt, denotes 0 all (clock-means, tt) ns, values_of 0 all ns), (λ w. tt), refl, refl, refl); writes = λ ns ws. ((ws.1.1.1.0, (ws.1.1.1.1.0, tt)), refl) };
      }

  unfoldable pub held-year-call : (s : Share) (b o : ℕ) (sheet : Sheet) (vy vs vt vf vl : Val) (ss : List ℤ) (b₁ o₁ : ℕ) (ms : List ℕ) (b₂ o₂ : ℕ) (hs : List ℤ) (b₃ o₃ : ℕ) → Callable c (function held_year_code.name held_year_code.code) (sees ClockType.the_row s vc b o ∷ value u32 sheet.year vy ∷ value u32 sheet.start vs ∷ value u32 sheet.step vt ∷ value u32 sheet.first vf ∷ value u32 sheet.last vl ∷ writes i64 ss b₁ o₁ ∷ writes u32 ms b₂ o₂ ∷ writes i64 hs b₃ o₃ ∷ [])
  held-year-call s b o sheet vy vs vt vf vl ss b₁ o₁ ms b₂ o₂ hs b₃ o₃ =
      let all : List Handed = sees ClockType.the_row s vc b o ∷ value u32 sheet.year vy ∷ value u32 sheet.start vs ∷ value u32 sheet.step vt ∷ value u32 sheet.first vf ∷ value u32 sheet.last vl ∷ writes i64 ss b₁ o₁ ∷ writes u32 ms b₂ o₂ ∷ writes i64 hs b₃ o₃ ∷ [] in
      record {
        ended = held_year.ended;
        clauses = λ M 𝓤. held_year.clauses;
        met = λ M. held_year_met.met;
        meant = (clock-means, tt);
        makes = (clock-makes, clock-copied, (u32-makes, (u32-makes, (u32-makes, (u32-makes, (u32-makes, tt))))));
        takes = record { enters = λ ns. ((lifetimes all ns, wholes all, tt, denotes 0 all (clock-means, tt) ns, values_of 0 all ns), (λ w. tt), refl, refl, refl); writes = λ ns ws. ((ws.1.1.1.1.1.1.0, (ws.1.1.1.1.1.1.1.0, (ws.1.1.1.1.1.1.1.1.0, tt))), refl) };
      }

  unfoldable pub lent-bookings-call : (s : Share) (b o : ℕ) (minutes : List ℕ) (q : Share) (b₁ o₁ : ℕ) (hs : List ℤ) (b₂ o₂ : ℕ) → Callable c (function lent_booking_code.name lent_booking_code.code) (sees ClockType.the_row s vc b o ∷ reads u32 q minutes b₁ o₁ ∷ writes i64 hs b₂ o₂ ∷ [])
  lent-bookings-call s b o minutes q b₁ o₁ hs b₂ o₂ =
      let all : List Handed = sees ClockType.the_row s vc b o ∷ reads u32 q minutes b₁ o₁ ∷ writes i64 hs b₂ o₂ ∷ [] in
      record {
        ended = lent_booking.ended;
        clauses = λ M 𝓤. lent_booking.clauses;
        met = λ M. lent_booking_met.met;
        meant = (clock-means, tt);
        makes = (clock-makes, clock-copied, (u32-copied, tt));
        takes = record { enters = λ ns. ((lifetimes all ns, wholes all, tt, denotes 0 all (clock-means, tt) ns, values_of 0 all ns), (λ w. tt), refl, refl, refl); writes = λ ns ws. ((ws.1.1.0, tt), refl) };
      }

  unfoldable pub held-bookings-call : (s : Share) (b o : ℕ) (minutes : List ℕ) (q : Share) (b₁ o₁ : ℕ) (hs : List ℤ) (b₂ o₂ : ℕ) → Callable c (function held_booking_code.name held_booking_code.code) (sees ClockType.the_row s vc b o ∷ reads u32 q minutes b₁ o₁ ∷ writes i64 hs b₂ o₂ ∷ [])
  held-bookings-call s b o minutes q b₁ o₁ hs b₂ o₂ =
      let all : List Handed = sees ClockType.the_row s vc b o ∷ reads u32 q minutes b₁ o₁ ∷ writes i64 hs b₂ o₂ ∷ [] in
      record {
        ended = held_booking.ended;
        clauses = λ M 𝓤. held_booking.clauses;
        met = λ M. held_booking_met.met;
        meant = (clock-means, tt);
        makes = (clock-makes, clock-copied, (u32-copied, tt));
        takes = record { enters = λ ns. ((lifetimes all ns, wholes all, tt, denotes 0 all (clock-means, tt) ns, values_of 0 all ns), (λ w. tt), refl, refl, refl); writes = λ ns ws. ((ws.1.1.0, tt), refl) };
      }

  unfoldable pub held-hourly-call : (s : Share) (b o number : ℕ) (vn : Val) (cards : List ℕ) (b₁ o₁ : ℕ) → Callable c (function held_hourly_code.name held_hourly_code.code) (sees ClockType.the_row s vc b o ∷ value u32 number vn ∷ writes u8 cards b₁ o₁ ∷ [])
  held-hourly-call s b o number vn cards b₁ o₁ =
      let all : List Handed = sees ClockType.the_row s vc b o ∷ value u32 number vn ∷ writes u8 cards b₁ o₁ ∷ [] in
      record {
        ended = held_hourly.ended;
        clauses = λ M 𝓤. held_hourly.clauses;
        met = λ M. held_hourly_met.met;
        meant = (clock-means, tt);
        makes = (clock-makes, clock-copied, (u32-makes, tt));
        takes = record { enters = λ ns. ((lifetimes all ns, wholes all, tt, denotes 0 all (clock-means, tt) ns, values_of 0 all ns), (λ w. tt), refl, refl, refl); writes = λ ns ws. ((ws.1.1.0, tt), refl) };
      }

  unfoldable pub held-names-call : (s : Share) (b o : ℕ) → Callable c (function held_names_code.name held_names_code.code) (sees ClockType.the_row s vc b o ∷ [])
  held-names-call s b o =
      let all : List Handed = sees ClockType.the_row s vc b o ∷ [] in
      record {
        ended = held_names.ended;
        clauses = λ M 𝓤. held_names.clauses;
        met = λ M. held_names_met.met;
        meant = (clock-means, tt);
        makes = (clock-makes, clock-copied, tt);
        takes = record { enters = λ ns. ((lifetimes all ns, wholes all, tt, denotes 0 all (clock-means, tt) ns, values_of 0 all ns), (λ w. tt), refl, refl, refl); writes = λ ns ws. (tt, refl) };
      }
