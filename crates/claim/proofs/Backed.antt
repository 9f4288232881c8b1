-- The claim's premises can be met (specs/Controls.antt): a call whose contract is a fact that holds keeps it, and a clock with no table
-- refuses each kind of call. Rests on what an empty card file comes to, by computing. Assumes nothing.
use Prim.{Unit}
use Prim.Native.Nat.{ℕ}
use mathlib.Core.List.{List, [], ◌∷◌}
use mathlib.Core.Logic.{∥∥₁_map}
use mathlib.Core.Path.{◌≡◌, refl, sym, ap, ◌∙◌}
use lib.IntN.{ℤ, pos}
use base.Logic.{SProp, sep, via, snd∗, fst∗}
use prog.Memory.{Memory}
use contract.Monad.{fact}
use contract.Adequate.{Satisfies, sat_fact}
use denote.Ref.{Bor}
use denote.MutBor.{MutBor}
use borrow.Fn.World.{World, w₀}
use Rattle.std.specs.Prelude.{Result, Ok, Err}
use Rattle.refusals.specs.Outcome.{refused, outcome_of}
use Rattle.refusals.specs.declared.Refused.{Refused}
use Rattle.refusals.specs.declared.Refusal.{Refusal}
use Rattle.refusals.specs.declared.Refusal.TheVariants.{NoTable, Ended}
use Rattle.columns.specs.Lines.{lines_of}
use Rattle.columns.specs.Names.{names_from}
use Rattle.card_frequencies.specs.Frequencies.{frequencies_from}
use Rattle.card_file.specs.Cards.{read_cards, cards_outcome}
use Rattle.station.specs.declared.strides.Strides.{Strides}
use Rattle.station.specs.Station as station
use Rattle.station.specs.Station.{station_lent}
use Rattle.station.specs.declared.records.Rows.{Rows}
use Rattle.station.specs.Records.{records_from, records_of}
use Rattle.station.specs.inner.Rows.{no_rows}
use Rattle.hourly.specs.Answers.{cards_returned}
use Rattle.clock.specs.declared.Clock.{Clock}
use Rattle.turns.specs.declared.search.Summary.{Summary}
use Rattle.clock.specs.declared.TableNames.{TableNames}
use Rattle.clock.specs.View.{view}
use Rattle.calls.specs.State.{State}
use Rattle.calls.specs.Names.{names_in}
use Rattle.clock.specs.Returned.{height_returned, turns_returned}
use Rattle.calls.specs.Calls.{cards_returns, cards_leaves, station_returns, station_leaves, date_gives, date_returns, date_leaves, height_returns, series_heights, series_gives, turns_gives}
use Rattle.calls.specs.declared.annual.Sheet.{Sheet}
use Rattle.calls.specs.Year.{sheet_asked, year_gives}
use Rattle.calls.specs.Bookings.{bookings_heights, bookings_gives}
use Rattle.calls.specs.Hourly.{hourly_bytes, hourly_gives}
use Rattle.clock.specs.Posts.{NewPost, CardsPost, StationPost, DatePost, HeightPost, SeriesPost, TurnsPost, YearPost, BookingsPost, HourlyPost}
use Rattle.cuvalimodo_c.specs.declared.answers.Verdict.{Verdict}
use Rattle.cuvalimodo_c.specs.declared.answers.Reading.{Reading}
use Rattle.cuvalimodo_c.specs.declared.answers.Turnings.{Turnings}
use Rattle.cuvalimodo_c.specs.declared.answers.Cards.{Cards as HeldCards}
use Rattle.cuvalimodo_c.specs.Answers.{verdict_returned, reading_returned, turnings_returned, cards_told, verdict_of, reading_of, turnings_of, cards_told_of, Plain, PlainReading, PlainTurnings, PlainCards}
use Rattle.claim.specs.Document.{Cards, Station, Date, Height, Series, Turns, Year, Bookings, Hourly, Names, told, predicted, wrote, found, filled, carded, named}
use Rattle.claim.specs.Calls.{Keeps, New, Call, Calls, done, ◌then◌}
use Rattle.claim.specs.Controls.{a_station, Controls, a_sheet, each_kind, each_refused}

-- Wherever some memory satisfies what a call's `ensures` says, in the closed model, the call keeps its contract in the sense of `Calls`.
pub backed : (P Q : (w : World) → SProp w.𝓤) (σ : Memory) (F : SProp w₀.𝓤) → Satisfies w₀.𝓤 w₀.𝓛.H w₀.𝓜 σ (sep w₀.𝓤 (Q w₀) F) → Keeps P Q
backed P Q σ F s =
    record {
      keeps = λ φ ψ p q x.
          sat_fact w₀.𝓤 w₀.𝓛.H w₀.𝓜 σ (sep w₀.𝓤 (Q w₀) F) ψ
          (via w₀.𝓤 (sep w₀.𝓤 (Q w₀) F) (snd∗ w₀.𝓤 (w₀.𝓜.mem σ) (sep w₀.𝓤 (Q w₀) F)) (via w₀.𝓤 (Q w₀) (fst∗ w₀.𝓤 (Q w₀) F) (q w₀))) s;
    }

-- A call whose `ensures` is a fact that holds keeps its contract.
kept : (P : (w : World) → SProp w.𝓤) (χ : Type 0) → χ → Keeps P (λ w. fact w.𝓤 χ)
kept P χ y = record { keeps = λ φ ψ p q x. ∥∥₁_map ((q w₀).apply w₀.𝓤.one ∣ (y, tt) ∣₁) (λ t. t.0) }

-- a reference to what is lent, by what it holds
abbrev lent : {X : Type 0} → X → Bor X
lent x = record { ref_ptr = (0, 0); now = x }

-- .. and to what is lent to be written to
abbrev written : {X : Type 0} → X → MutBor X
written x = record { ref_ptr = (0, 0); ghost_name = 0; now = x }

-- ---- what a clock with no table says

no-file : cards_returns [] ≡ refused 7 1
unfolding cards_returns cards_outcome read_cards lines_of frequencies_from
no-file = refl

no-file-leaves : (k : State) → cards_leaves k [] ≡ k
unfolding cards_leaves cards_outcome read_cards lines_of frequencies_from
no-file-leaves k = refl

module _ (c : Clock) (p : NewPost c) where
  no-cards : CardsPost c [] (refused 7 1) c
  no-cards = record { made = p.made; returns = sym no-file; leaves = sym (no-file-leaves _) }

  no-station : (s : station.Station) → StationPost c s (refused 21 0) c
  unfolding station_returns station_leaves
  no-station s =
      record {
        made = p.made;
        returns = sym (ap (λ (k : State). station_returns k s) p.leaves);
        leaves = p.leaves ∙ sym (ap (λ (k : State). station_leaves k s) p.leaves);
      }

  no-month : (year month : ℕ) → DatePost c year month (refused 21 0) c
  unfolding date_gives date_returns date_leaves
  no-month year month =
      record {
        made = p.made;
        returns = sym (ap (λ (k : State). date_returns k year month) p.leaves);
        leaves = p.leaves ∙ sym (ap (λ (k : State). date_leaves k year month) p.leaves);
      }

  no-height : (minute : ℕ) → HeightPost c minute (refused 21 0)
  unfolding height_returns
  no-height minute = record { returns = sym (ap (λ (k : State). height_returns k minute) p.leaves) }

  no-series : (start step : ℕ) (hs : List ℤ) → SeriesPost c start step hs hs (refused 21 0)
  unfolding series_heights series_gives
  no-series start step hs = record { gives = sym (ap (λ (k : State). series_gives k start step hs) p.leaves) }

  no-turns : (first last : ℕ) (ms : List ℕ) (hs : List ℤ) → TurnsPost c first last ms ms hs hs (refused 21 0)
  unfolding turns_gives
  no-turns first last ms hs = record { gives = sym (ap (λ (k : State). turns_gives k first last ms hs) p.leaves) }

  no-year : (sheet : Sheet) (ss : List ℤ) (ms : List ℕ) (hs : List ℤ) → YearPost c sheet ss ss ms ms hs hs (refused 21 0)
  unfolding sheet_asked year_gives
  no-year sheet ss ms hs = record { gives = sym (ap (λ (k : State). year_gives k sheet ss ms hs) p.leaves) }

  no-bookings : (minutes : List ℕ) (hs : List ℤ) → BookingsPost c minutes hs hs (refused 21 0)
  unfolding bookings_heights bookings_gives
  no-bookings minutes hs = record { gives = sym (ap (λ (k : State). bookings_gives k minutes hs) p.leaves) }

  no-hourly : (number : ℕ) (buffer : List ℕ) → HourlyPost c number buffer buffer (refused 21 0)
  unfolding hourly_bytes hourly_gives
  no-hourly number buffer = record { gives = sym (ap (λ (k : State). hourly_gives k number buffer) p.leaves) }

-- ---- each kind of call is there

new-there : (c : Clock) → NewPost c → New c
new-there c p = New.news (record { bound = λ w. tt; contract = kept _ _ p })

cards-there : (c c' : Clock) (file : List ℕ) (answer : Result Unit Refused) → CardsPost c file (outcome_of answer) c' → Call c (Cards file) (told (outcome_of answer)) c'
cards-there c c' file answer p =
    Call.loads {κs = ([], tt)} {file = lent file} {r = record { answer = answer; clock = c' }} (record { bound = λ w. tt; contract = kept _ _ p })

station-there : (c c' : Clock) (s : station.Station) (answer : Result Unit Refused) → StationPost c s (outcome_of answer) c' → Call c (Station s) (told (outcome_of answer)) c'
station-there c c' s answer p =
    Call.stations {κs = ([], tt)} {records = lent s.records} {r = record { answer = answer; clock = c' }} (record { bound = λ w. tt; contract = kept _ _ p })

placing-there : (c c' : Clock) (latitude : ℤ) (strides : Strides) (n : ℕ) (rows : Rows) (answer : Result Unit Refused) → StationPost c (station_lent latitude strides (records_of rows n)) (outcome_of answer) c'
    → Call c (Station (station_lent latitude strides (records_of rows n))) (told (outcome_of answer)) c'
placing-there c c' latitude strides n rows answer p =
    Call.placed {n = n} {rows = rows} {r = record { answer = answer; clock = c' }} (record { bound = λ w. tt; contract = kept _ _ p })

date-there : (c c' : Clock) (year month : ℕ) (answer : Result Unit Refused) → DatePost c year month (outcome_of answer) c' → Call c (Date year month) (told (outcome_of answer)) c'
date-there c c' year month answer p =
    Call.dates {r = record { answer = answer; clock = c' }} (record { bound = λ w. tt; contract = kept _ _ p })

height-there : (c : Clock) (minute : ℕ) (answer : Result ℤ Refused) → HeightPost c minute (height_returned answer) → Call c (Height minute) (predicted (height_returned answer)) c
height-there c minute answer p = Call.heights {r = answer} (record { bound = λ w. tt; contract = kept _ _ p })

series-there : (c : Clock) (start step : ℕ) (hs hs' : List ℤ) (answer : Result Unit Refused) → SeriesPost c start step hs hs' (outcome_of answer)
    → Call c (Series start step hs) (wrote (record { returned = outcome_of answer; heights = hs' })) c
series-there c start step hs hs' answer p =
    Call.serieses {κs = ([], tt)} {before = written hs} {r = answer} (record { bound = λ w. tt; contract = kept _ _ p })

turns-there : (c : Clock) (first last : ℕ) (ms ms' : List ℕ) (hs hs' : List ℤ) (answer : Result Summary Refused) → TurnsPost c first last ms ms' hs hs' (turns_returned answer)
    → Call c (Turns first last ms hs) (found (record { returned = turns_returned answer; minutes = ms'; heights = hs' })) c
turns-there c first last ms ms' hs hs' answer p =
    Call.searches {κs = ([], ([], tt))} {ms = written ms} {hs = written hs} {r = answer} (record { bound = λ w. tt; contract = kept _ _ p })

year-there : (c : Clock) (sheet : Sheet) (ss ss' : List ℤ) (ms ms' : List ℕ) (hs hs' : List ℤ) (answer : Result Summary Refused) → YearPost c sheet ss ss' ms ms' hs hs' (turns_returned answer)
    → Call c (Year sheet ss ms hs) (filled (record { returned = turns_returned answer; series = ss'; minutes = ms'; heights = hs' })) c
year-there c sheet ss ss' ms ms' hs hs' answer p =
    Call.years {κs = ([], ([], ([], tt)))} {ss = written ss} {ms = written ms} {hs = written hs} {r = answer} (record { bound = λ w. tt; contract = kept _ _ p })

bookings-there : (c : Clock) (minutes : List ℕ) (hs hs' : List ℤ) (answer : Result Unit Refused) → BookingsPost c minutes hs hs' (outcome_of answer)
    → Call c (Bookings minutes hs) (wrote (record { returned = outcome_of answer; heights = hs' })) c
bookings-there c minutes hs hs' answer p =
    Call.bookings {κs = ([], ([], tt))} {minutes = lent minutes} {before = written hs} {r = answer} (record { bound = λ w. tt; contract = kept _ _ p })

hourly-there : (c : Clock) (number : ℕ) (buffer left : List ℕ) (answer : Result ℕ Refused) → HourlyPost c number buffer left (cards_returned answer)
    → Call c (Hourly number buffer) (carded (record { returned = cards_returned answer; buffer = left })) c
hourly-there c number buffer left answer p =
    Call.hourlies {κs = ([], tt)} {before = written buffer} {r = answer} (record { bound = λ w. tt; contract = kept _ _ p })

names-there : (c : Clock) (r : TableNames) → names_from r.bytes 0 r.count ≡ names_in (view c) → Call c Names (named (names_from r.bytes 0 r.count)) c
names-there c r p = Call.hands {r = r} (record { bound = λ w. tt; contract = kept _ _ p })

-- ---- .. with the clock lent

held-new-there : (c c' : Clock) → NewPost c' → New c'
held-new-there c c' p = New.held_news {κs = ([], tt)} {clock = written c} (record { bound = λ w. tt; contract = kept _ _ p })

held-cards-there : (c c' : Clock) (file : List ℕ) (r : Verdict) → CardsPost c file (verdict_returned r) c' → Plain r → Call c (Cards file) (told (verdict_returned r)) c'
held-cards-there c c' file r p plain =
    Call.held_loads {κs = ([], ([], tt))} {clock = written c} {file = lent file} {r = r} (record { bound = λ w. tt; contract = kept _ _ (p, plain) })

held-station-there : (c c' : Clock) (s : station.Station) (r : Verdict) → StationPost c s (verdict_returned r) c' → Plain r → Call c (Station s) (told (verdict_returned r)) c'
held-station-there c c' s r p plain =
    Call.held_stations {κs = ([], ([], tt))} {clock = written c} {records = lent s.records} {r = r} (record { bound = λ w. tt; contract = kept _ _ (p, plain) })

held-date-there : (c c' : Clock) (year month : ℕ) (r : Verdict) → DatePost c year month (verdict_returned r) c' → Plain r → Call c (Date year month) (told (verdict_returned r)) c'
held-date-there c c' year month r p plain =
    Call.held_dates {κs = ([], tt)} {clock = written c} {r = r} (record { bound = λ w. tt; contract = kept _ _ (p, plain) })

lent-height-there : (c : Clock) (minute : ℕ) (answer : Result ℤ Refused) → HeightPost c minute (height_returned answer) → Call c (Height minute) (predicted (height_returned answer)) c
lent-height-there c minute answer p = Call.lent_heights {κs = ([], tt)} {clock = lent c} {r = answer} (record { bound = λ w. tt; contract = kept _ _ p })

held-height-there : (c : Clock) (minute : ℕ) (r : Reading) → HeightPost c minute (reading_returned r) → PlainReading r → Call c (Height minute) (predicted (reading_returned r)) c
held-height-there c minute r p plain =
    Call.held_heights {κs = ([], tt)} {clock = lent c} {r = r} (record { bound = λ w. tt; contract = kept _ _ (p, plain) })

held-series-there : (c : Clock) (start step : ℕ) (hs hs' : List ℤ) (r : Verdict) → SeriesPost c start step hs hs' (verdict_returned r) → Plain r
    → Call c (Series start step hs) (wrote (record { returned = verdict_returned r; heights = hs' })) c
held-series-there c start step hs hs' r p plain =
    Call.held_serieses {κs = ([], ([], tt))} {clock = lent c} {before = written hs} {r = r} (record { bound = λ w. tt; contract = kept _ _ (p, plain) })

held-turns-there : (c : Clock) (first last : ℕ) (ms ms' : List ℕ) (hs hs' : List ℤ) (r : Turnings) → TurnsPost c first last ms ms' hs hs' (turnings_returned r) → PlainTurnings r
    → Call c (Turns first last ms hs) (found (record { returned = turnings_returned r; minutes = ms'; heights = hs' })) c
held-turns-there c first last ms ms' hs hs' r p plain =
    Call.held_searches {κs = ([], ([], ([], tt)))} {clock = lent c} {ms = written ms} {hs = written hs} {r = r} (record { bound = λ w. tt; contract = kept _ _ (p, plain) })

held-year-there : (c : Clock) (sheet : Sheet) (ss ss' : List ℤ) (ms ms' : List ℕ) (hs hs' : List ℤ) (r : Turnings) → YearPost c sheet ss ss' ms ms' hs hs' (turnings_returned r) → PlainTurnings r
    → Call c (Year sheet ss ms hs) (filled (record { returned = turnings_returned r; series = ss'; minutes = ms'; heights = hs' })) c
held-year-there c sheet ss ss' ms ms' hs hs' r p plain =
    Call.held_years {κs = ([], ([], ([], ([], tt))))} {clock = lent c} {sheet = sheet} {ss = written ss} {ms = written ms} {hs = written hs} {r = r} (record { bound = λ w. tt; contract = kept _ _ (p, plain) })

lent-bookings-there : (c : Clock) (minutes : List ℕ) (hs hs' : List ℤ) (answer : Result Unit Refused) → BookingsPost c minutes hs hs' (outcome_of answer)
    → Call c (Bookings minutes hs) (wrote (record { returned = outcome_of answer; heights = hs' })) c
lent-bookings-there c minutes hs hs' answer p =
    Call.lent_bookings {κs = ([], ([], ([], tt)))} {clock = lent c} {minutes = lent minutes} {before = written hs} {r = answer} (record { bound = λ w. tt; contract = kept _ _ p })

held-bookings-there : (c : Clock) (minutes : List ℕ) (hs hs' : List ℤ) (r : Verdict) → BookingsPost c minutes hs hs' (verdict_returned r) → Plain r
    → Call c (Bookings minutes hs) (wrote (record { returned = verdict_returned r; heights = hs' })) c
held-bookings-there c minutes hs hs' r p plain =
    Call.held_bookings {κs = ([], ([], ([], tt)))} {clock = lent c} {minutes = lent minutes} {before = written hs} {r = r} (record { bound = λ w. tt; contract = kept _ _ (p, plain) })

held-hourly-there : (c : Clock) (number : ℕ) (buffer left : List ℕ) (r : HeldCards) → HourlyPost c number buffer left (cards_told r) → PlainCards r
    → Call c (Hourly number buffer) (carded (record { returned = cards_told r; buffer = left })) c
held-hourly-there c number buffer left r p plain =
    Call.held_hourlies {κs = ([], ([], tt))} {clock = lent c} {before = written buffer} {r = r} (record { bound = λ w. tt; contract = kept _ _ (p, plain) })

held-names-there : (c : Clock) (r : TableNames) → names_from r.bytes 0 r.count ≡ names_in (view c) → Call c Names (named (names_from r.bytes 0 r.count)) c
held-names-there c r p = Call.held_hands {κs = ([], tt)} {clock = lent c} {r = r} (record { bound = λ w. tt; contract = kept _ _ p })

-- a refusal at a place
abbrev turned_down : {A : Type 0} → Refusal → ℕ → Result A Refused
turned_down r place = Err (record { refusal = r; place = place })

each-kind : (c : Clock) → NewPost c → Calls c each_kind each_refused c
unfolding records_from names_from
each-kind c p =
    cards-there c c [] (turned_down Ended 1) (no-cards c p)
    then station-there c c a_station (turned_down NoTable 0) (no-station c p a_station)
    then date-there c c 1976 7 (turned_down NoTable 0) (no-month c p 1976 7)
    then height-there c 0 (turned_down NoTable 0) (no-height c p 0)
    then series-there c 0 1 (pos 5 ∷ []) (pos 5 ∷ []) (turned_down NoTable 0) (no-series c p 0 1 (pos 5 ∷ []))
    then turns-there c 0 1 (9 ∷ []) (9 ∷ []) (pos 5 ∷ []) (pos 5 ∷ []) (turned_down NoTable 0) (no-turns c p 0 1 (9 ∷ []) (pos 5 ∷ []))
    then year-there c a_sheet (pos 3 ∷ []) (pos 3 ∷ []) (9 ∷ []) (9 ∷ []) (pos 5 ∷ []) (pos 5 ∷ []) (turned_down NoTable 0) (no-year c p a_sheet (pos 3 ∷ []) (9 ∷ []) (pos 5 ∷ []))
    then bookings-there c (9 ∷ 0 ∷ []) (pos 5 ∷ []) (pos 5 ∷ []) (turned_down NoTable 0) (no-bookings c p (9 ∷ 0 ∷ []) (pos 5 ∷ []))
    then hourly-there c 100_000 (7 ∷ []) (7 ∷ []) (turned_down NoTable 0) (no-hourly c p 100_000 (7 ∷ []))
    then held-cards-there c c [] (verdict_of (refused 7 1)) (no-cards c p) refl
    then held-station-there c c a_station (verdict_of (refused 21 0)) (no-station c p a_station) refl
    then held-date-there c c 1976 7 (verdict_of (refused 21 0)) (no-month c p 1976 7) refl
    then held-height-there c 0 (reading_of (refused 21 0)) (no-height c p 0) refl
    then held-series-there c 0 1 (pos 5 ∷ []) (pos 5 ∷ []) (verdict_of (refused 21 0)) (no-series c p 0 1 (pos 5 ∷ [])) refl
    then held-turns-there c 0 1 (9 ∷ []) (9 ∷ []) (pos 5 ∷ []) (pos 5 ∷ []) (turnings_of (refused 21 0)) (no-turns c p 0 1 (9 ∷ []) (pos 5 ∷ [])) refl
    then held-year-there c a_sheet (pos 3 ∷ []) (pos 3 ∷ []) (9 ∷ []) (9 ∷ []) (pos 5 ∷ []) (pos 5 ∷ []) (turnings_of (refused 21 0)) (no-year c p a_sheet (pos 3 ∷ []) (9 ∷ []) (pos 5 ∷ [])) refl
    then held-bookings-there c (9 ∷ 0 ∷ []) (pos 5 ∷ []) (pos 5 ∷ []) (verdict_of (refused 21 0)) (no-bookings c p (9 ∷ 0 ∷ []) (pos 5 ∷ [])) refl
    then held-hourly-there c 100_000 (7 ∷ []) (7 ∷ []) (cards_told_of (refused 21 0)) (no-hourly c p 100_000 (7 ∷ [])) refl
    then lent-height-there c 0 (turned_down NoTable 0) (no-height c p 0)
    then lent-bookings-there c (9 ∷ 0 ∷ []) (pos 5 ∷ []) (pos 5 ∷ []) (turned_down NoTable 0) (no-bookings c p (9 ∷ 0 ∷ []) (pos 5 ∷ []))
    then placing-there c c (pos 0) a_station.strides 0 no_rows (turned_down NoTable 0) (no-station c p a_station)
    then names-there c (record { count = 0; bytes = [] }) (sym (ap names_in p.leaves))
    then held-names-there c (record { count = 0; bytes = [] }) (sym (ap names_in p.leaves))
    then done

pub controls : Controls
controls =
    record {
      new = new-there;
      cards = cards-there;
      station = station-there;
      placing = placing-there;
      date = date-there;
      height = height-there;
      series = series-there;
      turns = turns-there;
      year = year-there;
      bookings = bookings-there;
      hourly = hourly-there;
      names = names-there;
      held_new = held-new-there;
      held-cards = held-cards-there;
      held-station = held-station-there;
      held-date = held-date-there;
      lent-height = lent-height-there;
      held-height = held-height-there;
      held-series = held-series-there;
      held-turns = held-turns-there;
      held-year = held-year-there;
      lent-bookings = lent-bookings-there;
      held-bookings = held-bookings-there;
      held-hourly = held-hourly-there;
      held-names = held-names-there;
      each-kind = each-kind;
    }
