-- Each kind of call is run (specs/Accepted.antt): from the memory with which a program begins, in which the card file lies, one routine after
-- another returns, on the clock's value that the one before returned or left, or where that value was laid into the memory and is lent. Rests on
-- `AlwaysEnds`, and on `Laid` for what is lent. Assumes nothing.
use Prim.Native.Nat.{ℕ, zero, suc, ◌+◌, ◌<◌, ◌^◌}
use mathlib.Core.Bool.{Bool, true, false, ◌&&◌}
use mathlib.Core.List.{List, [], ◌∷◌, ◌++◌, map}
use mathlib.Core.Logic.{∥∥₁_map, ∥∥₁_elim, ∥∥₁_prop}
use mathlib.Core.Path.{◌≡◌, refl, sym, ap, ap₂, subst, ◌∙◌}
use lib.Dec.{T, ltb, ltb→lt, lit<}
use lib.IntN.{pos}
use lib.ListN.{length, length-map, replicate, length-replicate}
use seplogic.Ra.Ura.{Ura}
use base.Fraction.{full_share}
use mir.Syntax.{w8, w32, w64, ty_int}
use mir.Val.{Val, vint, of_z}
use base.Logic.{SProp, ent, sep, emp, id⊢, via, mono_l, assoc', emp∗}
use base.Fml.{Fml, Share, ftrue, fsep, fat}
use prog.AdequacyRun.{start_mem}
use prog.Memory.{Memory}
use prog.Model.{AllFit}
use prog.Routine.{Env, ends}
use prog.Wired.{Wired}
use prog.Wp.{run}
use types.Logic.{Logic, sem}
use contract.Adequate.{sat_weaken, start_Satisfies}
use types.Kit.{‵, raw, ◌$◌, ◌∵◌, !, qed, move, use1, fjoin, fpack, feq_i, done}
use types.Share.{parts}
use denote.Array.{each, array_val}
use denote.Builtin.{u8, u32, i32, i64, usize}
use denote.Laws.{Is}
use denote.Struct.Laws as LL
use denote.Memory.{mem, shares, cell_raw, part_of}
use denote.Plain.{uint_Tells, uint_Makes, uint_Lawful}
use denote.Signed.{sint_Tells, sint_Makes, sint_Lawful}
use denote.Slice.{Room}
use denote.Shadow.{shadow, Pure, makes_shadow}
use denote.Steps.{owned, nothing}
use borrow.Fn.World.{w₀}
use Rattle.limits.specs.Limits.{most_records}
use Rattle.station.specs.declared.records.Rows.{Rows}
use Rattle.station.specs.contracts.records.Record as RecordType
use Rattle.station.proofs.records.Record.TheLaws as RecordLaws
use Rattle.station.specs.contracts.records.Rows as RowsType
use Rattle.station.proofs.records.Rows.TheLaws as RowsLaws
use Rattle.station.specs.contracts.strides.Strides as StridesType
use Rattle.station.proofs.strides.Strides.TheLaws as StridesLaws
use Rattle.station.specs.Records.{records_from}
use Rattle.calls.specs.contracts.annual.Sheet as SheetType
use Rattle.calls.proofs.annual.Sheet.TheLaws as SheetLaws
use Rattle.clock.specs.contracts.Clock as ClockType
use Rattle.clock.proofs.Clock.TheLaws as ClockLaws
use Rattle.clock.proofs.new.Symbol as new_code
use Rattle.clock.proofs.load_cards.Symbol as load_code
use Rattle.clock.proofs.set_station.Symbol as station_code
use Rattle.clock.proofs.place_station.Symbol as placing_code
use Rattle.clock.proofs.set_date.Symbol as date_code
use Rattle.clock.proofs.height.Symbol as height_code
use Rattle.clock.proofs.height_lent.Symbol as lent_height_code
use Rattle.clock.proofs.series.Symbol as series_code
use Rattle.clock.proofs.turns.Symbol as turns_code
use Rattle.clock.proofs.year.Symbol as year_code
use Rattle.clock.proofs.bookings.Symbol as booking_code
use Rattle.clock.proofs.bookings_lent.Symbol as lent_booking_code
use Rattle.clock.proofs.hourly.Symbol as hourly_code
use Rattle.clock.proofs.names.Symbol as names_code
use Rattle.cuvalimodo_c.proofs.cuvalimodo_new.Symbol as held_new_code
use Rattle.cuvalimodo_c.proofs.cuvalimodo_load_cards.Symbol as held_load_code
use Rattle.cuvalimodo_c.proofs.cuvalimodo_set_station.Symbol as held_station_code
use Rattle.cuvalimodo_c.proofs.cuvalimodo_set_date.Symbol as held_date_code
use Rattle.cuvalimodo_c.proofs.cuvalimodo_height.Symbol as held_height_code
use Rattle.cuvalimodo_c.proofs.cuvalimodo_series.Symbol as held_series_code
use Rattle.cuvalimodo_c.proofs.cuvalimodo_turns.Symbol as held_turns_code
use Rattle.cuvalimodo_c.proofs.cuvalimodo_year.Symbol as held_year_code
use Rattle.cuvalimodo_c.proofs.cuvalimodo_bookings.Symbol as held_booking_code
use Rattle.cuvalimodo_c.proofs.cuvalimodo_hourly.Symbol as held_hourly_code
use Rattle.cuvalimodo_c.proofs.cuvalimodo_names.Symbol as held_names_code
use Rattle.claim.specs.Zeroed.{zeroed, zero_of}
use Rattle.claim.proofs.Zeros.{zeros-are-zeroed}
use Rattle.claim.specs.Document.{Request, Cards, Station, Date, Height, Series, Turns, Year, Bookings, Names}
use Rattle.claim_runs.specs.Handed.{Function, function, Assertion, ◌∗◌, ⟦◌⟧₀, ◌⊨◌, Handed, value, reads, writes, sees, changes, passed, Fit, At, lie, Ran}
use Rattle.claim_runs.specs.Values.{clock_in, clock_at}
use Rattle.claim_runs.specs.Runs.{Run, Started, routine_of, Runs, ◌then◌, routines_of}
use Rattle.claim_runs.specs.OnMachine.{EveryCallEnds, AlwaysEnds}
use Rattle.claim_runs.specs.Accepted.{HasTheClock, z0-record, z0-records, z0-strides, z0-station, none-station, year-sheet, three_minutes, three_places, station_number, stars, cards_asked, accepted_calls, accepted_routines, frequency_line, five_line, main_line, ended, small_file}
use Rattle.claim_runs.proofs.Handing.{W₀}
use Rattle.claim_runs.proofs.Parameters.{clock-lawful, clock-means, u32-makes}
use Rattle.claim_runs.proofs.Laid.{laid, Lays, laid-to-write, laid-to-read}

-- ---- numbers that fit

abbrev Below : ℕ → List ℕ → Type 0
Below n [] = Unit {0}
Below n (x ∷ xs) = (x < n) × Below n xs

abbrev are_below : ℕ → List ℕ → Bool
are_below n [] = true
are_below n (x ∷ xs) = ltb x n && are_below n xs

both_hold : (a b : Bool) → T (a && b) → T a × T b
both_hold true b t = (tt, t)
both_hold false b t = absurd t

pub below : (n : ℕ) (xs : List ℕ) → T (are_below n xs) → Below n xs
below n [] t = tt
below n (x ∷ xs) t = let h : T (ltb x n) × T (are_below n xs) = both_hold (ltb x n) (are_below n xs) t in (ltb→lt x n h.0, below n xs h.1)

all_fit : (xs : List ℕ) → Below (2 ^ 8) xs → AllFit w8 xs
all_fit [] h = tt
all_fit (x ∷ xs) h = (record { fits = h.0 }, all_fit xs h.1)

-- ---- the machine's value for rows of records

bytes-are : (xs : List ℕ) → Below (2 ^ 8) xs → shadow (each ℕ u8.own_val xs (map (λ (x : ℕ). vint w8 x) xs))
bytes-are [] h = tt
bytes-are (x ∷ xs) h = ((refl, h.0), bytes-are xs h.1)

words_are : (xs : List ℕ) → Below (2 ^ 32) xs → shadow (each ℕ u32.own_val xs (map (λ (x : ℕ). vint w32 x) xs))
words_are [] h = tt
words_are (x ∷ xs) h = ((refl, h.0), words_are xs h.1)

rows_are : (rows : Rows) → length rows.places ≡ most_records → Below (2 ^ 8) rows.places → length rows.amplitudes ≡ most_records → Below (2 ^ 32) rows.amplitudes
    → length rows.phases ≡ most_records → Below (2 ^ 32) rows.phases → Is RowsType.the_row rows (RowsLaws.lowered rows ∷ [])
rows_are rows l a m b n c =
    let ps : List Val = map (λ (x : ℕ). vint w8 x) rows.places in
    let ms : List Val = map (λ (x : ℕ). vint w32 x) rows.amplitudes in
    let qs : List Val = map (λ (x : ℕ). vint w32 x) rows.phases in (
      (array_val ps ∷ [], (array_val ms ∷ [], (array_val qs ∷ [], tt))),
      (refl, ((ps, ((refl, l), bytes-are rows.places a)), ((ms, ((refl, m), words_are rows.amplitudes b)), ((qs, ((refl, n), words_are rows.phases c)), tt)))),
    )

-- Z0's record, the first of 146
abbrev z0-rows : Rows
z0-rows = record { places = replicate most_records 0; amplitudes = 100 ∷ replicate 145 0; phases = replicate most_records 0 }

z0-rows-are : Is RowsType.the_row z0-rows (RowsLaws.lowered z0-rows ∷ [])
z0-rows-are = rows_are z0-rows refl (below (2 ^ 8) z0-rows.places tt) refl (below (2 ^ 32) z0-rows.amplitudes tt) refl (below (2 ^ 32) z0-rows.phases tt)

-- ---- Z0's record, places for heights and minutes, to be lent

record-lays : Lays RecordType.the_row
record-lays =
    record {
      lowers = RecordLaws.lowers;
      makes = LL.makes RecordType.the_type RecordLaws.the_plain w₀.𝓛;
      lawful = LL.lawful RecordType.the_type RecordLaws.the_laws w₀.𝓛;
    }

z0-strides-are : Is StridesType.the_row z0-strides (StridesLaws.lowered z0-strides ∷ [])
z0-strides-are = LL.owes StridesType.the_type StridesLaws.the_laws z0-strides ((refl, lit< tt), ((refl, lit< tt), ((refl, lit< tt), tt)))

z0-is : Is RecordType.the_row z0-record (RecordLaws.lowered z0-record ∷ [])
z0-is = LL.owes RecordType.the_type RecordLaws.the_laws z0-record ((refl, lit< tt), ((refl, lit< tt), ((refl, lit< tt), tt)))

i64-lays : Lays i64
i64-lays =
    record {
      lowers = record { mir = ty_int w64; lowered = λ z. vint w64 (of_z w64 z); layout_is = refl; val_is = sint_Tells w64 };
      makes = sint_Makes w₀.𝓛 w64;
      lawful = sint_Lawful w₀.𝓛 w64;
    }

u32-lays : Lays u32
u32-lays =
    record {
      lowers = record { mir = ty_int w32; lowered = λ n. vint w32 n; layout_is = refl; val_is = uint_Tells w32 };
      makes = u32-makes;
      lawful = uint_Lawful w₀.𝓛 w32;
    }

u8-lays : Lays u8
u8-lays =
    record {
      lowers = record { mir = ty_int w8; lowered = λ n. vint w8 n; layout_is = refl; val_is = uint_Tells w8 };
      makes = uint_Makes w₀.𝓛 w8;
      lawful = uint_Lawful w₀.𝓛 w8;
    }

stars_are : (n : ℕ) → shadow (each ℕ u8.own_val (stars n) (replicate n (vint w8 42)))
unfolding stars
stars_are zero = tt
stars_are (suc n) = ((refl, lit< tt), stars_are n)

stars-have-room : (n : ℕ) → Room u8 n → Room u8 (length (stars n))
unfolding stars
stars-have-room n r = subst (Room u8) (sym (length-replicate n 42)) r

-- ---- the year's sheet, by value

year-sheet-is : Is SheetType.the_row year-sheet (SheetLaws.lowered year-sheet ∷ [])
year-sheet-is = LL.owes SheetType.the_type SheetLaws.the_laws year-sheet ((refl, lit< tt), ((refl, lit< tt), ((refl, lit< tt), ((refl, lit< tt), ((refl, lit< tt), tt)))))

-- ---- the card file lies in the memory with which a program begins

module _ {M : Type 1} {𝓤 : Ura M} (𝓛 : Logic 𝓤) where
  open 𝓛 use {H}

  bytes-lie : (q : Share) (xs : List ℕ) (b o : ℕ) → Below (2 ^ 8) xs → ent 𝓤 (run 𝓤 H q w8 b o xs) (sem 𝓛 (parts (mem u8) (shares u8) q xs b o))
  unfolding part_of
  bytes-lie q [] b o h = id⊢ 𝓤 (emp 𝓤)
  bytes-lie q (x ∷ xs) b o h =
      qed 𝓛 (‵ (fat q (ty_int w8) b o (vint w8 x)) ∷ raw (run 𝓤 H q w8 b (o + 1) xs) ∷ []) ∵ owned ! u8 (Is u8) (uint_Makes 𝓛 w8) x (vint w8 x ∷ []) (refl, h.0) $ move ! (1 ∷ 0 ∷ []) $ fjoin ! $
      fpack ! (List Val) (λ vs. fsep (cell_raw q (ty_int w8 ∷ []) vs b o) (u8.own_val x vs)) (vint w8 x ∷ []) $ move ! (1 ∷ []) $
      use1 𝓛 (‵ (parts (mem u8) (shares u8) q xs b (o + 1))) (bytes-lie q xs b (o + 1) h.1) $ move ! (1 ∷ 0 ∷ []) $ fjoin ! $ done !

  file-lies : (file : List ℕ) (F : SProp 𝓤) → Below (2 ^ 8) file → ent 𝓤 (sep 𝓤 (run 𝓤 H full_share w8 0 0 file) F) (sep 𝓤 (sem 𝓛 (lie (reads u8 full_share file 0 0 ∷ []))) F)
  file-lies file F h =
      qed 𝓛 (raw (run 𝓤 H full_share w8 0 0 file) ∷ raw F ∷ []) ∵ use1 𝓛 (‵ (parts (mem u8) (shares u8) full_share file 0 0)) (bytes-lie full_share file 0 0 h) $
      feq_i ! ℕ (length file) (length file) refl $ fjoin ! $ nothing ! $ move ! (1 ∷ 0 ∷ []) $ fjoin ! $ done !

-- ---- one run after another

abbrev start : Memory
start = start_mem small_file []

-- all that is owned there: the card file, and beside it no bytes
abbrev Rest : Assertion
Rest = run w₀.𝓤 w₀.𝓛.H full_share w8 1 0 []

abbrev All : Assertion
All = ⟦ lie (reads u8 full_share small_file 0 0 ∷ []) ⟧₀ ∗ Rest

file-fits : Below (2 ^ 8) small_file
unfolding ended frequency_line five_line main_line
file-fits = below (2 ^ 8) small_file tt

file-has-room : Room u8 (length small_file)
unfolding ended frequency_line five_line main_line
file-has-room = (lit< tt, lit< tt)

start-lies : start ⊨ All
start-lies =
    sat_weaken w₀.𝓤 w₀.𝓛.H w₀.𝓜 start (file-lies W₀ small_file Rest file-fits)
    (start_Satisfies w₀.𝓤 w₀.𝓛.H w₀.𝓜 small_file [] (all_fit small_file file-fits) tt)

-- what says nothing of the memory holds there too
lies-too : (P : Fml) → Pure P → shadow P → start ⊨ ⟦ P ⟧₀ ∗ All
lies-too P pure holds =
    sat_weaken w₀.𝓤 w₀.𝓛.H w₀.𝓜 start (via w₀.𝓤 (emp w₀.𝓤 ∗ All) (emp∗ w₀.𝓤 All) (mono_l w₀.𝓤 All (makes_shadow w₀.𝓛 P pure holds))) start-lies

-- a run from a memory, and from there
abbrev ran-from : {f : Function} {front : List Val} {hs : List Handed} (γ : Env) → Wired γ f.code → (σ : Memory) (F : Assertion) → Fit hs → σ ⊨ ⟦ lie hs ⟧₀ ∗ F
    → ((v : Val) × (σ' : Memory) × ends (γ f.name) (front ++ passed hs) σ v σ') → Ran f front hs
ran-from {f} γ has σ F fit lies k =
    record { program = γ; has = has; fit = fit; before = σ; rest = F; lent = lies; value = k.0; left = k.1; run = k.2 }

abbrev ran-of : {f : Function} {front : List Val} {hs : List Handed} (γ : Env) → Wired γ f.code → (F : Assertion) → Fit hs → start ⊨ ⟦ lie hs ⟧₀ ∗ F
    → ((v : Val) × (σ' : Memory) × ends (γ f.name) (front ++ passed hs) start v σ') → Ran f front hs
ran-of γ has = ran-from γ has start

-- ---- a place for one height, and minutes to be booked with their places, beside all else

nought-lies : (hs : List Handed) → start ⊨ ⟦ lie hs ⟧₀ ∗ All → ∥ ((b : ℕ) × (σ : Memory) × (σ ⊨ ⟦ lie (writes i64 (pos 0 ∷ []) b 0 ∷ hs) ⟧₀ ∗ All)) ∥₁
nought-lies hs lies = laid-to-write i64 i64-lays (pos 0 ∷ []) (vint w64 0 ∷ []) ((refl, lit< tt), tt) hs start All lies

abbrev booked : ℕ → ℕ → List Handed
booked b b₁ = reads u32 full_share three_minutes b 0 ∷ writes i64 three_places b₁ 0 ∷ []

booked-fit : (b b₁ : ℕ) → Fit (booked b b₁)
booked-fit b b₁ = ((lit< tt, lit< tt), ((lit< tt, lit< tt), tt))

booked-lie : ∥ ((b : ℕ) × (b₁ : ℕ) × (σ : Memory) × (σ ⊨ ⟦ lie (booked b b₁) ⟧₀ ∗ All)) ∥₁
booked-lie =
    ∥∥₁_elim (laid-to-write i64 i64-lays three_places (vint w64 0 ∷ vint w64 0 ∷ vint w64 0 ∷ []) ((refl, lit< tt), ((refl, lit< tt), ((refl, lit< tt), tt))) [] start All (lies-too ftrue tt tt)) ∥∥₁_prop (λ p.
    ∥∥₁_map (laid-to-read u32 u32-lays three_minutes (vint w32 720 ∷ vint w32 0 ∷ vint w32 720 ∷ []) ((refl, lit< tt), ((refl, lit< tt), ((refl, lit< tt), tt))) (writes i64 three_places p.0 0 ∷ []) p.1 All p.2) (λ r.
    (r.0, p.0, r.1, r.2)))

-- bytes for hourly cards
abbrev carding : ℕ → List Handed
carding b = value u32 station_number (vint w32 station_number) ∷ writes u8 (stars 4_300) b 0 ∷ []

carding-fit : (b : ℕ) → Fit (carding b)
carding-fit b = ((refl, lit< tt), (stars-have-room 4_300 (lit< tt, lit< tt), tt))

carding-lie : ∥ ((b : ℕ) × (σ : Memory) × (σ ⊨ ⟦ lie (carding b) ⟧₀ ∗ All)) ∥₁
carding-lie = laid-to-write u8 u8-lays (stars 4_300) (replicate 4_300 (vint w8 42)) (stars_are 4_300) [] start All (lies-too ftrue tt tt)

-- ---- each kind of call, where every call ends

-- a run of a call on the clock's value v
abbrev Next : Val → Request → Function → Type 2
Next v q f = ∥ ((v' : Val) × (y : Run v q v') × (routine_of y ≡ f)) ∥₁

-- the machine's number
abbrev u : ℕ → Val
u n = vint w32 n

module _ (program : Env) (has : HasTheClock program) (v : Val) (e : EveryCallEnds v) where
  cards-run : Next v (Cards small_file) (function load_code.name load_code.code)
  cards-run =
      ∥∥₁_map (e.loads small_file full_share 0 0 program has.load (file-has-room, tt) start Rest start-lies) (λ k. (clock_in k.0, Run.loads (ran-of program has.load Rest (file-has-room, tt) start-lies k), refl))

  station-run : Next v (Station none-station) (function station_code.name station_code.code)
  station-run =
      let hs : List Handed = value i32 (pos 0) (u 0) ∷ value StridesType.the_row z0-strides (StridesLaws.lowered z0-strides) ∷ reads RecordType.the_row full_share [] 0 0 ∷ [] in
      let fit : Fit hs = ((refl, lit< tt), (z0-strides-are, ((lit< tt, lit< tt), tt))) in
      let lies : start ⊨ ⟦ lie hs ⟧₀ ∗ All = lies-too (lie hs) ((tt, tt), tt) ((refl, tt), tt) in
      ∥∥₁_map (e.stations (pos 0) z0-strides (u 0) (StridesLaws.lowered z0-strides) [] full_share 0 0 program has.station fit start All lies) (λ k. (clock_in k.0, Run.stations {strides = z0-strides} {q = full_share} (ran-of program has.station All fit lies k), refl))

  placing-run : Next v (Station z0-station) (function placing_code.name placing_code.code)
  unfolding records_from
  placing-run =
      let hs : List Handed = value i32 (pos 0) (u 0) ∷ value StridesType.the_row z0-strides (StridesLaws.lowered z0-strides) ∷ value usize 1 (vint w64 1) ∷ value RowsType.the_row z0-rows (RowsLaws.lowered z0-rows) ∷ [] in
      let fit : Fit hs = ((refl, lit< tt), (z0-strides-are, ((refl, lit< tt), (z0-rows-are, tt)))) in
      ∥∥₁_map (e.placed (pos 0) z0-strides 1 z0-rows (u 0) (StridesLaws.lowered z0-strides) (vint w64 1) (RowsLaws.lowered z0-rows) program has.placing fit start All (lies-too ftrue tt tt)) (λ k. (clock_in k.0, Run.placed {strides = z0-strides} {n = 1} {rows = z0-rows} (ran-of program has.placing All fit (lies-too ftrue tt tt) k), refl))

  date-run : Next v (Date 1976 7) (function date_code.name date_code.code)
  date-run =
      let fit : Fit (value u32 1976 (u 1976) ∷ value u32 7 (u 7) ∷ []) = ((refl, lit< tt), ((refl, lit< tt), tt)) in
      ∥∥₁_map (e.dates 1976 7 (u 1976) (u 7) program has.date fit start All (lies-too ftrue tt tt)) (λ k. (clock_in k.0, Run.dates (ran-of program has.date All fit (lies-too ftrue tt tt) k), refl))

  height-run : Next v (Height 0) (function height_code.name height_code.code)
  height-run =
      let fit : Fit (value u32 0 (u 0) ∷ []) = ((refl, lit< tt), tt) in
      ∥∥₁_map (e.heights 0 (u 0) program has.height fit start All (lies-too ftrue tt tt)) (λ k. (v, Run.heights (ran-of program has.height All fit (lies-too ftrue tt tt) k), refl))

  series-run : Next v (Series 0 1 []) (function series_code.name series_code.code)
  series-run =
      let hs : List Handed = value u32 0 (u 0) ∷ value u32 1 (u 1) ∷ writes i64 [] 0 0 ∷ [] in
      let fit : Fit hs = ((refl, lit< tt), ((refl, lit< tt), ((lit< tt, lit< tt), tt))) in
      let lies : start ⊨ ⟦ lie hs ⟧₀ ∗ All = lies-too (lie hs) (tt, tt) (tt, tt) in
      ∥∥₁_map (e.serieses 0 1 (u 0) (u 1) [] 0 0 program has.series fit start All lies) (λ k. (v, Run.serieses (ran-of program has.series All fit lies k), refl))

  turns-run : Next v (Turns 0 360 [] []) (function turns_code.name turns_code.code)
  turns-run =
      let hs : List Handed = value u32 0 (u 0) ∷ value u32 360 (u 360) ∷ writes u32 [] 0 0 ∷ writes i64 [] 0 0 ∷ [] in
      let fit : Fit hs = ((refl, lit< tt), ((refl, lit< tt), ((lit< tt, lit< tt), ((lit< tt, lit< tt), tt)))) in
      let lies : start ⊨ ⟦ lie hs ⟧₀ ∗ All = lies-too (lie hs) (tt, (tt, tt)) (tt, (tt, tt)) in
      ∥∥₁_map (e.searches 0 360 (u 0) (u 360) [] 0 0 [] 0 0 program has.turns fit start All lies) (λ k. (v, Run.searches (ran-of program has.turns All fit lies k), refl))

  year-run : Next v (Year year-sheet [] [] []) (function year_code.name year_code.code)
  year-run =
      let hs : List Handed = value SheetType.the_row year-sheet (SheetLaws.lowered year-sheet) ∷ writes i64 [] 0 0 ∷ writes u32 [] 0 0 ∷ writes i64 [] 0 0 ∷ [] in
      let fit : Fit hs = (year-sheet-is, ((lit< tt, lit< tt), ((lit< tt, lit< tt), ((lit< tt, lit< tt), tt)))) in
      let lies : start ⊨ ⟦ lie hs ⟧₀ ∗ All = lies-too (lie hs) (tt, (tt, (tt, tt))) (tt, (tt, (tt, tt))) in
      ∥∥₁_map (e.years year-sheet (SheetLaws.lowered year-sheet) [] 0 0 [] 0 0 [] 0 0 program has.year fit start All lies) (λ k. (v, Run.years {sheet = year-sheet} (ran-of program has.year All fit lies k), refl))

  bookings-run : Next v (Bookings three_minutes three_places) (function booking_code.name booking_code.code)
  bookings-run =
      ∥∥₁_elim booked-lie ∥∥₁_prop (λ r.
      let fit : Fit (booked r.0 r.1) = booked-fit r.0 r.1 in
      ∥∥₁_map (e.bookings three_minutes full_share r.0 0 three_places r.1 0 program has.booking fit r.2 All r.3) (λ k. (v, Run.bookings {q = full_share} (ran-from program has.booking r.2 All fit r.3 k), refl)))

  hourly-run : Next v cards_asked (function hourly_code.name hourly_code.code)
  hourly-run =
      ∥∥₁_elim carding-lie ∥∥₁_prop (λ r.
      ∥∥₁_map (e.hourlies station_number (u station_number) (stars 4_300) r.0 0 program has.hourly (carding-fit r.0) r.1 All r.2) (λ k. (v, Run.hourlies (ran-from program has.hourly r.1 All (carding-fit r.0) r.2 k), refl)))

  names-run : Next v Names (function names_code.name names_code.code)
  names-run = ∥∥₁_map (e.hands program has.names tt start All (lies-too ftrue tt tt)) (λ k. (v, Run.hands (ran-of program has.names All tt (lies-too ftrue tt tt) k), refl))

  -- ---- the clock's value laid into memory, beside what is handed over, and lent

  with-clock : (σ : Memory) (P F : Assertion) → σ ⊨ P ∗ F → ∥ ((b : ℕ) × (σ' : Memory) × (σ' ⊨ (⟦ At ClockType.the_row full_share v b 0 ⟧₀ ∗ P) ∗ F)) ∥₁
  with-clock σ P F s =
      ∥∥₁_map (e.laid σ (P ∗ F) s) (λ m. (m.0, m.1, sat_weaken w₀.𝓤 w₀.𝓛.H w₀.𝓜 m.1 (assoc' w₀.𝓤 ⟦ At ClockType.the_row full_share v m.0 0 ⟧₀ P F) m.2))

  held-cards-run : Next v (Cards small_file) (function held_load_code.name held_load_code.code)
  held-cards-run =
      ∥∥₁_elim (with-clock start ⟦ lie (reads u8 full_share small_file 0 0 ∷ []) ⟧₀ Rest start-lies) ∥∥₁_prop (λ m.
      let fit : Fit (changes ClockType.the_row v m.0 0 ∷ reads u8 full_share small_file 0 0 ∷ []) = (file-has-room, tt) in
      ∥∥₁_map (e.held_loads m.0 0 small_file full_share 0 0 program has.held_load fit m.1 Rest m.2) (λ k. (clock_at k.1 m.0 0, Run.held_loads {q = full_share} (ran-from program has.held_load m.1 Rest fit m.2 k), refl)))

  held-station-run : Next v (Station z0-station) (function held_station_code.name held_station_code.code)
  held-station-run =
      ∥∥₁_elim (laid-to-read RecordType.the_row record-lays z0-records (RecordLaws.lowered z0-record ∷ []) (z0-is, tt) [] start All (lies-too ftrue tt tt)) ∥∥₁_prop (λ r.
      ∥∥₁_elim (with-clock r.1 ⟦ lie (reads RecordType.the_row full_share z0-records r.0 0 ∷ []) ⟧₀ All r.2) ∥∥₁_prop (λ m.
      let fit : Fit (changes ClockType.the_row v m.0 0 ∷ value i32 (pos 0) (u 0) ∷ value StridesType.the_row z0-strides (StridesLaws.lowered z0-strides) ∷ reads RecordType.the_row full_share z0-records r.0 0 ∷ []) = ((refl, lit< tt), (z0-strides-are, ((lit< tt, lit< tt), tt))) in
      ∥∥₁_map (e.held_stations m.0 0 (pos 0) z0-strides (u 0) (StridesLaws.lowered z0-strides) z0-records full_share r.0 0 program has.held_station fit m.1 All m.2) (λ k.
      (clock_at k.1 m.0 0, Run.held_stations {strides = z0-strides} {q = full_share} (ran-from program has.held_station m.1 All fit m.2 k), refl))))

  held-date-run : Next v (Date 1976 7) (function held_date_code.name held_date_code.code)
  held-date-run =
      ∥∥₁_elim (with-clock start ⟦ ftrue ⟧₀ All (lies-too ftrue tt tt)) ∥∥₁_prop (λ m.
      let fit : Fit (changes ClockType.the_row v m.0 0 ∷ value u32 1976 (u 1976) ∷ value u32 7 (u 7) ∷ []) = ((refl, lit< tt), ((refl, lit< tt), tt)) in
      ∥∥₁_map (e.held_dates m.0 0 1976 7 (u 1976) (u 7) program has.held_date fit m.1 All m.2) (λ k. (clock_at k.1 m.0 0, Run.held_dates (ran-from program has.held_date m.1 All fit m.2 k), refl)))

  lent-height-run : Next v (Height 0) (function lent_height_code.name lent_height_code.code)
  lent-height-run =
      ∥∥₁_elim (with-clock start ⟦ ftrue ⟧₀ All (lies-too ftrue tt tt)) ∥∥₁_prop (λ m.
      let fit : Fit (sees ClockType.the_row full_share v m.0 0 ∷ value u32 0 (u 0) ∷ []) = ((refl, lit< tt), tt) in
      ∥∥₁_map (e.lent_heights full_share m.0 0 0 (u 0) program has.lent_height fit m.1 All m.2) (λ k. (v, Run.lent_heights (ran-from program has.lent_height m.1 All fit m.2 k), refl)))

  held-height-run : Next v (Height 0) (function held_height_code.name held_height_code.code)
  held-height-run =
      ∥∥₁_elim (with-clock start ⟦ ftrue ⟧₀ All (lies-too ftrue tt tt)) ∥∥₁_prop (λ m.
      let fit : Fit (sees ClockType.the_row full_share v m.0 0 ∷ value u32 0 (u 0) ∷ []) = ((refl, lit< tt), tt) in
      ∥∥₁_map (e.held_heights full_share m.0 0 0 (u 0) program has.held_height fit m.1 All m.2) (λ k. (v, Run.held_heights (ran-from program has.held_height m.1 All fit m.2 k), refl)))

  held-series-run : Next v (Series 0 1 (pos 0 ∷ [])) (function held_series_code.name held_series_code.code)
  held-series-run =
      ∥∥₁_elim (nought-lies [] (lies-too ftrue tt tt)) ∥∥₁_prop (λ r.
      let place : List Handed = writes i64 (pos 0 ∷ []) r.0 0 ∷ [] in
      ∥∥₁_elim (with-clock r.1 ⟦ lie place ⟧₀ All r.2) ∥∥₁_prop (λ m.
      let fit : Fit (sees ClockType.the_row full_share v m.0 0 ∷ value u32 0 (u 0) ∷ value u32 1 (u 1) ∷ place) = ((refl, lit< tt), ((refl, lit< tt), ((lit< tt, lit< tt), tt))) in
      ∥∥₁_map (e.held_serieses full_share m.0 0 0 1 (u 0) (u 1) (pos 0 ∷ []) r.0 0 program has.held_series fit m.1 All m.2) (λ k. (v, Run.held_serieses (ran-from program has.held_series m.1 All fit m.2 k), refl))))

  held-turns-run : Next v (Turns 0 360 [] []) (function held_turns_code.name held_turns_code.code)
  held-turns-run =
      let none : List Handed = writes u32 [] 0 0 ∷ writes i64 [] 0 0 ∷ [] in
      ∥∥₁_elim (with-clock start ⟦ lie none ⟧₀ All (lies-too (lie none) (tt, (tt, tt)) (tt, (tt, tt)))) ∥∥₁_prop (λ m.
      let fit : Fit (sees ClockType.the_row full_share v m.0 0 ∷ value u32 0 (u 0) ∷ value u32 360 (u 360) ∷ none) = ((refl, lit< tt), ((refl, lit< tt), ((lit< tt, lit< tt), ((lit< tt, lit< tt), tt)))) in
      ∥∥₁_map (e.held_searches full_share m.0 0 0 360 (u 0) (u 360) [] 0 0 [] 0 0 program has.held_turns fit m.1 All m.2) (λ k. (v, Run.held_searches (ran-from program has.held_turns m.1 All fit m.2 k), refl)))

  held-year-run : Next v (Year year-sheet (pos 0 ∷ []) [] []) (function held_year_code.name held_year_code.code)
  held-year-run =
      let none : List Handed = writes u32 [] 0 0 ∷ writes i64 [] 0 0 ∷ [] in
      ∥∥₁_elim (nought-lies none (lies-too (lie none) (tt, (tt, tt)) (tt, (tt, tt)))) ∥∥₁_prop (λ r.
      let lent : List Handed = writes i64 (pos 0 ∷ []) r.0 0 ∷ none in
      ∥∥₁_elim (with-clock r.1 ⟦ lie lent ⟧₀ All r.2) ∥∥₁_prop (λ m.
      let numbers : List Handed = value u32 1976 (u 1976) ∷ value u32 0 (u 0) ∷ value u32 1 (u 1) ∷ value u32 0 (u 0) ∷ value u32 360 (u 360) ∷ lent in
      let fit : Fit (sees ClockType.the_row full_share v m.0 0 ∷ numbers) = ((refl, lit< tt), ((refl, lit< tt), ((refl, lit< tt), ((refl, lit< tt), ((refl, lit< tt), ((lit< tt, lit< tt), ((lit< tt, lit< tt), ((lit< tt, lit< tt), tt)))))))) in
      ∥∥₁_map (e.held_years full_share m.0 0 year-sheet (u 1976) (u 0) (u 1) (u 0) (u 360) (pos 0 ∷ []) r.0 0 [] 0 0 [] 0 0 program has.held_year fit m.1 All m.2) (λ k.
      (v, Run.held_years {sheet = year-sheet} (ran-from program has.held_year m.1 All fit m.2 k), refl))))

  lent-bookings-run : Next v (Bookings three_minutes three_places) (function lent_booking_code.name lent_booking_code.code)
  lent-bookings-run =
      ∥∥₁_elim booked-lie ∥∥₁_prop (λ r.
      ∥∥₁_elim (with-clock r.2 ⟦ lie (booked r.0 r.1) ⟧₀ All r.3) ∥∥₁_prop (λ m.
      let fit : Fit (sees ClockType.the_row full_share v m.0 0 ∷ booked r.0 r.1) = booked-fit r.0 r.1 in
      ∥∥₁_map (e.lent_bookings full_share m.0 0 three_minutes full_share r.0 0 three_places r.1 0 program has.lent_booking fit m.1 All m.2) (λ k. (v, Run.lent_bookings {q = full_share} (ran-from program has.lent_booking m.1 All fit m.2 k), refl))))

  held-bookings-run : Next v (Bookings three_minutes three_places) (function held_booking_code.name held_booking_code.code)
  held-bookings-run =
      ∥∥₁_elim booked-lie ∥∥₁_prop (λ r.
      ∥∥₁_elim (with-clock r.2 ⟦ lie (booked r.0 r.1) ⟧₀ All r.3) ∥∥₁_prop (λ m.
      let fit : Fit (sees ClockType.the_row full_share v m.0 0 ∷ booked r.0 r.1) = booked-fit r.0 r.1 in
      ∥∥₁_map (e.held_bookings full_share m.0 0 three_minutes full_share r.0 0 three_places r.1 0 program has.held_booking fit m.1 All m.2) (λ k. (v, Run.held_bookings {q = full_share} (ran-from program has.held_booking m.1 All fit m.2 k), refl))))

  held-hourly-run : Next v cards_asked (function held_hourly_code.name held_hourly_code.code)
  held-hourly-run =
      ∥∥₁_elim carding-lie ∥∥₁_prop (λ r.
      ∥∥₁_elim (with-clock r.1 ⟦ lie (carding r.0) ⟧₀ All r.2) ∥∥₁_prop (λ m.
      let fit : Fit (sees ClockType.the_row full_share v m.0 0 ∷ carding r.0) = carding-fit r.0 in
      ∥∥₁_map (e.held_hourlies full_share m.0 0 station_number (u station_number) (stars 4_300) r.0 0 program has.held_hourly fit m.1 All m.2) (λ k. (v, Run.held_hourlies (ran-from program has.held_hourly m.1 All fit m.2 k), refl))))

  held-names-run : Next v Names (function held_names_code.name held_names_code.code)
  held-names-run =
      ∥∥₁_elim (with-clock start ⟦ ftrue ⟧₀ All (lies-too ftrue tt tt)) ∥∥₁_prop (λ m.
      ∥∥₁_map (e.held_hands full_share m.0 0 program has.held_names tt m.1 All m.2) (λ k. (v, Run.held_hands (ran-from program has.held_names m.1 All tt m.2 k), refl)))

-- ---- one after another

-- a list of runs, and one more
one_more : {vc vc' vc'' : Val} {qs : List Request} {q : Request} → Runs vc qs vc' → Run vc' q vc'' → Runs vc (qs ++ q ∷ []) vc''
one_more Runs.done x = x then Runs.done
one_more (y then ys) x = y then one_more ys x

one-more-routine : {vc vc' vc'' : Val} {qs : List Request} {q : Request} (xs : Runs vc qs vc') (x : Run vc' q vc'') → routines_of (one_more xs x) ≡ routines_of xs ++ routine_of x ∷ []
unfolding one_more
one-more-routine Runs.done x = refl
one-more-routine (y then ys) x = ap (◌∷◌ (routine_of y)) (one-more-routine ys x)

abbrev Reached : Val → List Request → List Function → Type 2
Reached vc qs fs = ∥ ((vc' : Val) × (xs : Runs vc qs vc') × (routines_of xs ≡ fs)) ∥₁

module _ (program : Env) (has : HasTheClock program) (always : AlwaysEnds) where
  next : {vc : Val} {q : Request} {f : Function} (qs : List Request) {fs : List Function} → Started vc → ((v : Val) → EveryCallEnds v → Next v q f) → Reached vc qs fs → Reached vc (qs ++ q ∷ []) (fs ++ f ∷ [])
  next {vc} qs started one xs =
      ∥∥₁_elim xs ∥∥₁_prop (λ x. ∥∥₁_elim (always.then vc x.0 qs started x.1) ∥∥₁_prop (λ ends. ∥∥₁_map (one x.0 ends) (λ y.
      (y.0, one_more x.1 y.1, one-more-routine x.1 y.1 ∙ ap₂ (λ (gs : List Function) (g : Function). gs ++ g ∷ []) x.2 y.2))))

  -- the calls of the list, the last one first
  pub all-reached : (vc : Val) → Started vc → Reached vc accepted_calls accepted_routines
  all-reached vc s =
      next _ s (held-names-run program has) (next _ s (held-hourly-run program has) (next _ s (held-bookings-run program has) (next _ s (lent-bookings-run program has) (next _ s (held-year-run program has) (next _ s (held-turns-run program has) (next _ s (held-series-run program has) (next _ s (held-height-run program has) (next _ s (lent-height-run program has) (next _ s (held-date-run program has) (next _ s (held-station-run program has) (next _ s (held-cards-run program has) (next _ s (names-run program has) (next _ s (hourly-run program has) (
      next _ s (bookings-run program has) (next _ s (year-run program has) (next _ s (turns-run program has) (next _ s (series-run program has) (next _ s (height-run program has) (next _ s (date-run program has) (next _ s (placing-run program has) (next _ s (station-run program has) (next [] s (cards-run program has) ∣ (vc, Runs.done, refl) ∣₁))))))))))))))))))))))

  -- each `new` is run
  pub new-run : ∥ Ran (function new_code.name new_code.code) [] [] ∥₁
  new-run = ∥∥₁_map (always.new program has.new tt start All (lies-too ftrue tt tt)) (ran-of program has.new All tt (lies-too ftrue tt tt))

  pub held-new-run : ∥ ((b : ℕ) × Ran (function held_new_code.name held_new_code.code) [] (changes ClockType.the_row (zero_of ClockLaws.mir) b 0 ∷ [])) ∥₁
  held-new-run =
      ∥∥₁_elim (laid ClockType.the_row (clock-means zeroed (zero_of ClockLaws.mir) zeros-are-zeroed) clock-lawful start (⟦ ftrue ⟧₀ ∗ All) (lies-too ftrue tt tt)) ∥∥₁_prop (λ m.
      let clock : Assertion = ⟦ At ClockType.the_row full_share (zero_of ClockLaws.mir) m.0 0 ⟧₀ in
      let lies : m.1 ⊨ (clock ∗ ⟦ ftrue ⟧₀) ∗ All = sat_weaken w₀.𝓤 w₀.𝓛.H w₀.𝓜 m.1 (assoc' w₀.𝓤 clock ⟦ ftrue ⟧₀ All) m.2 in
      ∥∥₁_map (always.held_new zeroed (zero_of ClockLaws.mir) zeros-are-zeroed m.0 0 program has.held_new tt m.1 All lies) (λ k. (m.0, ran-from program has.held_new m.1 All tt lies k)))
