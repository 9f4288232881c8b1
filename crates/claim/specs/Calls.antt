-- A list of calls of the clock. "The claim knows what a call gives and leaves only from that call's contract": from the clauses of the
-- function's own module, as the built crates have them: clock, whose calls take a clock by value, and cuvalimodo_c, whose calls are lent one.
-- Assumes nothing.
use Prim.{Unit}
use Rattle.std.specs.Prelude.{ℕ, List, [], ◌∷◌, ℤ, Result}
use seplogic.Ra.Ura.{Ura}
use base.Logic.{SProp, ent}
use prog.Memory.{Memory}
use prog.Routine.{Routine}
use types.Logic.{Logic}
use contract.Monad.{Fun, fact}
use contract.Lifetimes.{Lfts}
use Rattle.std.specs.Borrow.{Bor, MutBor}
use denote.Triple.Clauses.{Ended, Clauses, ClausesAt, Lasts, at_exit}
use borrow.Fn.World.{World, ArgsD, ResD}
use Rattle.refusals.specs.Outcome.{outcome_of}
use Rattle.refusals.specs.declared.Refused.{Refused}
use Rattle.columns.specs.Names.{names_from}
use Rattle.station.specs.declared.records.Record.{Record}
use Rattle.station.specs.declared.strides.Strides.{Strides}
use Rattle.station.specs.Station.{station_lent}
use Rattle.station.specs.declared.records.Rows.{Rows}
use Rattle.station.specs.Records.{records_of}
use Rattle.hourly.specs.Answers.{cards_returned}
use Rattle.calls.specs.declared.annual.Sheet.{Sheet}
use Rattle.clock.specs.declared.Clock.{Clock}
use Rattle.clock.specs.declared.After.{After}
use Rattle.turns.specs.declared.search.Summary.{Summary}
use Rattle.clock.specs.declared.TableNames.{TableNames}
use Rattle.clock.specs.Returned.{height_returned, turns_returned}
use Rattle.cuvalimodo_c.specs.declared.answers.Verdict.{Verdict}
use Rattle.cuvalimodo_c.specs.declared.answers.Reading.{Reading}
use Rattle.cuvalimodo_c.specs.declared.answers.Turnings.{Turnings}
use Rattle.cuvalimodo_c.specs.declared.answers.Cards.{Cards as HeldCards}
use Rattle.cuvalimodo_c.specs.Answers.{verdict_returned, reading_returned, turnings_returned, cards_told}
use Rattle.claim.specs.Document.{Request, Cards, Station, Date, Height, Series, Turns, Year, Bookings, Hourly, Names, Gave, told, predicted, wrote, found, filled, carded, named}
use Rattle.claim.specs.Zeroed.{zeroed}
use Rattle.clock.specs.contracts.new as new
use Rattle.clock.specs.contracts.load_cards as load
use Rattle.clock.specs.contracts.set_station as station
use Rattle.clock.specs.contracts.place_station as placing
use Rattle.clock.specs.contracts.set_date as date
use Rattle.clock.specs.contracts.height as height
use Rattle.clock.specs.contracts.height_lent as height_lent
use Rattle.clock.specs.contracts.series as series
use Rattle.clock.specs.contracts.turns as turns
use Rattle.clock.specs.contracts.year as year
use Rattle.clock.specs.contracts.bookings as booking
use Rattle.clock.specs.contracts.bookings_lent as booking_lent
use Rattle.clock.specs.contracts.hourly as hourly
use Rattle.clock.specs.contracts.names as names
use Rattle.cuvalimodo_c.specs.contracts.cuvalimodo_new as held_new
use Rattle.cuvalimodo_c.specs.contracts.cuvalimodo_load_cards as held_load
use Rattle.cuvalimodo_c.specs.contracts.cuvalimodo_set_station as held_station
use Rattle.cuvalimodo_c.specs.contracts.cuvalimodo_set_date as held_date
use Rattle.cuvalimodo_c.specs.contracts.cuvalimodo_height as held_height
use Rattle.cuvalimodo_c.specs.contracts.cuvalimodo_series as held_series
use Rattle.cuvalimodo_c.specs.contracts.cuvalimodo_turns as held_turns
use Rattle.cuvalimodo_c.specs.contracts.cuvalimodo_year as held_year
use Rattle.cuvalimodo_c.specs.contracts.cuvalimodo_bookings as held_booking
use Rattle.cuvalimodo_c.specs.contracts.cuvalimodo_hourly as held_hourly
use Rattle.cuvalimodo_c.specs.contracts.cuvalimodo_names as held_names

-- What is known of a call whose `requires` is P and whose `ensures` is Q, at every model of the logic: where a plain fact φ gives P, and Q
-- gives a plain fact ψ, φ gives that ψ holds. (`∥ ψ ∥₁`: a fact of the logic is truncated, and to hand over an element of every ψ would be
-- to choose one of every type, which no call does.)
pub record Keeps (P Q : (w : World) → SProp w.𝓤) : Type 2 where
  pub keeps : (φ ψ : Type 0) → ((w : World) → ent w.𝓤 (fact w.𝓤 φ) (P w)) → ((w : World) → ent w.𝓤 (Q w) (fact w.𝓤 ψ)) → φ → ∥ ψ ∥₁

-- the clauses of a function with the signature T, as its module has them
abbrev pub ClausesOf : Ended → Type 2
ClausesOf T = (M : Type 1) (𝓤 : Ura M) (𝓛 : Logic 𝓤) → (Memory → SProp 𝓤) → (Routine → Fun 𝓤) → Clauses 𝓤 T

-- .. at the lifetimes of what is lent, at the arguments, and at a model of the logic
abbrev pub clauses_at : (T : Ended) → ClausesOf T → (κs : Lfts T.signature.lifetimes) → ArgsD T.signature κs → (w : World) → ClausesAt w.𝓤 T κs
clauses_at T C κs given w = C w.M w.𝓤 w.𝓛 w.𝓜.mem w.𝓡.returns κs given

-- The function with the signature T and the clauses C, called once: it was given these arguments, returned this result, and left these last
-- elements in what was lent to be written to (`tt` stands for what is not). All that is known of it is that it keeps its contract. (`bound`
-- is what a contract may bind beside; none of the clock's binds anything.)
pub record Once (T : Ended) (C : ClausesOf T) (κs : Lfts T.signature.lifetimes) (given : ArgsD T.signature κs) (result : ResD T.signature κs) (last : Lasts T κs given) : Type 2 where
  pub bound : (w : World) → (clauses_at T C κs given w).ghost
  pub contract : Keeps (λ w. (clauses_at T C κs given w).requires (bound w)) (λ w. (clauses_at T C κs given w).ensures (bound w) result (at_exit T κs given last))

-- "a clock with no table, station or month": as `new` returns it, as it is left behind a reference, or as memory that is all zeros holds it
pub data New : Clock → Type 2 where
  news : {r : Clock} → Once new.ended (λ M 𝓤. new.clauses) tt tt r tt → New r
  held_news : {κs : Lfts 1} {clock : MutBor Clock} {left : Clock} → Once held_new.ended (λ M 𝓤. held_new.clauses) κs (clock, tt) tt (left, tt) → New left
  zeros : New zeroed

-- One call: the clock that it gets, the call with all that is lent to it, what it gives, and the clock that it leaves. (Heights, series,
-- turns, years, bookings, hourly cards and names take the clock by value, or are lent it to be read, and give none back: what they leave is what
-- they got.)
pub data Call : Clock → Request → Gave → Clock → Type 2 where
  loads : {κs : Lfts 1} {c : Clock} {file : Bor (List ℕ)} {r : After}
      → Once load.ended (λ M 𝓤. load.clauses) κs (c, (file, tt)) r (tt, (tt, tt))
      → Call c (Cards file.now) (told (outcome_of r.answer)) r.clock
  -- a station's records are lent as a row of records, `stations`, or taken apart into plain arrays, `placed`
  stations : {κs : Lfts 1} {c : Clock} {latitude : ℤ} {strides : Strides} {records : Bor (List Record)} {r : After}
      → Once station.ended (λ M 𝓤. station.clauses) κs (c, (latitude, (strides, (records, tt)))) r (tt, (tt, (tt, (tt, tt))))
      → Call c (Station (station_lent latitude strides records.now)) (told (outcome_of r.answer)) r.clock
  placed : {c : Clock} {latitude : ℤ} {strides : Strides} {n : ℕ} {rows : Rows} {r : After}
      → Once placing.ended (λ M 𝓤. placing.clauses) tt (c, (latitude, (strides, (n, (rows, tt))))) r (tt, (tt, (tt, (tt, (tt, tt)))))
      → Call c (Station (station_lent latitude strides (records_of rows n))) (told (outcome_of r.answer)) r.clock
  dates : {c : Clock} {year month : ℕ} {r : After}
      → Once date.ended (λ M 𝓤. date.clauses) tt (c, (year, (month, tt))) r (tt, (tt, (tt, tt)))
      → Call c (Date year month) (told (outcome_of r.answer)) r.clock
  heights : {c : Clock} {minute : ℕ} {r : Result ℤ Refused}
      → Once height.ended (λ M 𝓤. height.clauses) tt (c, (minute, tt)) r (tt, (tt, tt))
      → Call c (Height minute) (predicted (height_returned r)) c
  serieses : {κs : Lfts 1} {c : Clock} {start step : ℕ} {before : MutBor (List ℤ)} {after : List ℤ} {r : Result Unit Refused}
      → Once series.ended (λ M 𝓤. series.clauses) κs (c, (start, (step, (before, tt)))) r (tt, (tt, (tt, (after, tt))))
      → Call c (Series start step before.now) (wrote (record { returned = outcome_of r; heights = after })) c
  searches : {κs : Lfts 2} {c : Clock} {first last : ℕ} {ms : MutBor (List ℕ)} {hs : MutBor (List ℤ)} {ms' : List ℕ} {hs' : List ℤ} {r : Result Summary Refused}
      → Once turns.ended (λ M 𝓤. turns.clauses) κs (c, (first, (last, (ms, (hs, tt))))) r (tt, (tt, (tt, (ms', (hs', tt)))))
      → Call c (Turns first last ms.now hs.now) (found (record { returned = turns_returned r; minutes = ms'; heights = hs' })) c
  years : {κs : Lfts 3} {c : Clock} {sheet : Sheet} {ss : MutBor (List ℤ)} {ms : MutBor (List ℕ)} {hs : MutBor (List ℤ)} {ss' : List ℤ} {ms' : List ℕ} {hs' : List ℤ} {r : Result Summary Refused}
      → Once year.ended (λ M 𝓤. year.clauses) κs (c, (sheet, (ss, (ms, (hs, tt))))) r (tt, (tt, (ss', (ms', (hs', tt)))))
      → Call c (Year sheet ss.now ms.now hs.now) (filled (record { returned = turns_returned r; series = ss'; minutes = ms'; heights = hs' })) c
  bookings : {κs : Lfts 2} {c : Clock} {minutes : Bor (List ℕ)} {before : MutBor (List ℤ)} {after : List ℤ} {r : Result Unit Refused}
      → Once booking.ended (λ M 𝓤. booking.clauses) κs (c, (minutes, (before, tt))) r (tt, (tt, (after, tt)))
      → Call c (Bookings minutes.now before.now) (wrote (record { returned = outcome_of r; heights = after })) c
  hourlies : {κs : Lfts 1} {c : Clock} {number : ℕ} {before : MutBor (List ℕ)} {after : List ℕ} {r : Result ℕ Refused}
      → Once hourly.ended (λ M 𝓤. hourly.clauses) κs (c, (number, (before, tt))) r (tt, (tt, (after, tt)))
      → Call c (Hourly number before.now) (carded (record { returned = cards_returned r; buffer = after })) c
  hands : {c : Clock} {r : TableNames}
      → Once names.ended (λ M 𝓤. names.clauses) tt (c, tt) r (tt, tt)
      → Call c Names (named (names_from r.bytes 0 r.count)) c
  -- the clock is lent: the call gets what is behind the reference, and leaves what is behind it at the end
  held_loads : {κs : Lfts 2} {clock : MutBor Clock} {file : Bor (List ℕ)} {r : Verdict} {left : Clock}
      → Once held_load.ended (λ M 𝓤. held_load.clauses) κs (clock, (file, tt)) r (left, (tt, tt))
      → Call clock.now (Cards file.now) (told (verdict_returned r)) left
  held_stations : {κs : Lfts 2} {clock : MutBor Clock} {latitude : ℤ} {strides : Strides} {records : Bor (List Record)} {r : Verdict} {left : Clock}
      → Once held_station.ended (λ M 𝓤. held_station.clauses) κs (clock, (latitude, (strides, (records, tt)))) r (left, (tt, (tt, (tt, tt))))
      → Call clock.now (Station (station_lent latitude strides records.now)) (told (verdict_returned r)) left
  held_dates : {κs : Lfts 1} {clock : MutBor Clock} {year month : ℕ} {r : Verdict} {left : Clock}
      → Once held_date.ended (λ M 𝓤. held_date.clauses) κs (clock, (year, (month, tt))) r (left, (tt, (tt, tt)))
      → Call clock.now (Date year month) (told (verdict_returned r)) left
  lent_heights : {κs : Lfts 1} {clock : Bor Clock} {minute : ℕ} {r : Result ℤ Refused}
      → Once height_lent.ended (λ M 𝓤. height_lent.clauses) κs (clock, (minute, tt)) r (tt, (tt, tt))
      → Call clock.now (Height minute) (predicted (height_returned r)) clock.now
  held_heights : {κs : Lfts 1} {clock : Bor Clock} {minute : ℕ} {r : Reading}
      → Once held_height.ended (λ M 𝓤. held_height.clauses) κs (clock, (minute, tt)) r (tt, (tt, tt))
      → Call clock.now (Height minute) (predicted (reading_returned r)) clock.now
  held_serieses : {κs : Lfts 2} {clock : Bor Clock} {start step : ℕ} {before : MutBor (List ℤ)} {after : List ℤ} {r : Verdict}
      → Once held_series.ended (λ M 𝓤. held_series.clauses) κs (clock, (start, (step, (before, tt)))) r (tt, (tt, (tt, (after, tt))))
      → Call clock.now (Series start step before.now) (wrote (record { returned = verdict_returned r; heights = after })) clock.now
  held_searches : {κs : Lfts 3} {clock : Bor Clock} {first last : ℕ} {ms : MutBor (List ℕ)} {hs : MutBor (List ℤ)} {ms' : List ℕ} {hs' : List ℤ} {r : Turnings}
      → Once held_turns.ended (λ M 𝓤. held_turns.clauses) κs (clock, (first, (last, (ms, (hs, tt))))) r (tt, (tt, (tt, (ms', (hs', tt)))))
      → Call clock.now (Turns first last ms.now hs.now) (found (record { returned = turnings_returned r; minutes = ms'; heights = hs' })) clock.now
  held_years : {κs : Lfts 4} {clock : Bor Clock} {sheet : Sheet} {ss : MutBor (List ℤ)} {ms : MutBor (List ℕ)} {hs : MutBor (List ℤ)} {ss' : List ℤ} {ms' : List ℕ} {hs' : List ℤ} {r : Turnings}
      → Once held_year.ended (λ M 𝓤. held_year.clauses) κs (clock, (sheet.year, (sheet.start, (sheet.step, (sheet.first, (sheet.last, (ss, (ms, (hs, tt))))))))) r (tt, (tt, (tt, (tt, (tt, (tt, (ss', (ms', (hs', tt)))))))))
      → Call clock.now (Year sheet ss.now ms.now hs.now) (filled (record { returned = turnings_returned r; series = ss'; minutes = ms'; heights = hs' })) clock.now
  lent_bookings : {κs : Lfts 3} {clock : Bor Clock} {minutes : Bor (List ℕ)} {before : MutBor (List ℤ)} {after : List ℤ} {r : Result Unit Refused}
      → Once booking_lent.ended (λ M 𝓤. booking_lent.clauses) κs (clock, (minutes, (before, tt))) r (tt, (tt, (after, tt)))
      → Call clock.now (Bookings minutes.now before.now) (wrote (record { returned = outcome_of r; heights = after })) clock.now
  held_bookings : {κs : Lfts 3} {clock : Bor Clock} {minutes : Bor (List ℕ)} {before : MutBor (List ℤ)} {after : List ℤ} {r : Verdict}
      → Once held_booking.ended (λ M 𝓤. held_booking.clauses) κs (clock, (minutes, (before, tt))) r (tt, (tt, (after, tt)))
      → Call clock.now (Bookings minutes.now before.now) (wrote (record { returned = verdict_returned r; heights = after })) clock.now
  held_hourlies : {κs : Lfts 2} {clock : Bor Clock} {number : ℕ} {before : MutBor (List ℕ)} {after : List ℕ} {r : HeldCards}
      → Once held_hourly.ended (λ M 𝓤. held_hourly.clauses) κs (clock, (number, (before, tt))) r (tt, (tt, (after, tt)))
      → Call clock.now (Hourly number before.now) (carded (record { returned = cards_told r; buffer = after })) clock.now
  held_hands : {κs : Lfts 1} {clock : Bor Clock} {r : TableNames}
      → Once held_names.ended (λ M 𝓤. held_names.clauses) κs (clock, tt) r (tt, tt)
      → Call clock.now Names (named (names_from r.bytes 0 r.count)) clock.now

-- "in any number and order, refused ones included"; "Each later one gets the clock as the one before it returned or left it"
pub data Calls : Clock → List Request → List Gave → Clock → Type 2 where
  done : {c : Clock} → Calls c [] [] c
  ◌then◌ : {c c' c'' : Clock} {q : Request} {qs : List Request} {g : Gave} {gs : List Gave}
      → Call c q g c' → Calls c' qs gs c'' → Calls c (q ∷ qs) (g ∷ gs) c''

infixr 5 ◌then◌
