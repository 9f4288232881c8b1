-- THE CLAIM: demand 3, for any list of calls. The clock's state agrees with what the document works out from the calls before, call by
-- call, each known by its contract alone; so all that the calls give is what the document gives. Rests on `Calls`' contracts, and on the
-- distance of each height (`Points`). Assumes nothing.
use Prim.{Unit}
use Prim.Native.Nat.{ℕ}
use mathlib.Core.Bool.{false≢true}
use mathlib.Core.List.{List, ◌∷◌}
use mathlib.Core.Path.{◌≡◌, refl, ap, ap₂, sym, subst, ◌∙◌}
use mathlib.Core.Logic.{∥∥₁_map, ∥∥₁_elim, ∥∥₁_prop}
use base.Logic.{emp, id⊢}
use contract.Monad.{top, fact}
use lib.IntN.{ℤ}
use Rattle.refusals.specs.Outcome.{Outcome, accepted, refused, on_accepted, answered}
use Rattle.table.specs.Table.{Table}
use Rattle.card_file.specs.Cards.{cards_outcome}
use Rattle.station.specs.Station as station
use Rattle.clock.specs.declared.Clock.{Clock}
use Rattle.calls.specs.State.{Dated, State, some, none}
use Rattle.calls.specs.Names.{names_in}
use Rattle.calls.specs.Calls.{cards_returns, cards_leaves, station_returns, station_leaves, date_gives, date_returns, date_leaves, height_returns, series_gives, turns_gives}
use Rattle.calls.specs.declared.annual.Sheet.{Sheet}
use Rattle.calls.specs.Year.{year_gives}
use Rattle.calls.specs.Bookings.{bookings_gives}
use Rattle.calls.specs.Hourly.{hourly_gives}
use Rattle.turns.specs.Written.{TurnsFound}
use Rattle.clock.specs.View.{view, Made}
use Rattle.clock.specs.Posts.{NewPost, CardsPost, StationPost, DatePost, HeightPost, SeriesPost, TurnsPost, YearPost, BookingsPost, HourlyPost}
use Rattle.claim.specs.Zeroed.{zeroed}
use Rattle.claim.specs.Calls.{Keeps, New, Call, Calls, done, ◌then◌}
use Rattle.claim.specs.Document.{Request, Cards, Station, Date, Height, Series, Turns, Year, Bookings, Hourly, Names, Gave, told, predicted, wrote, found, filled, carded, named, Last, nothing, table_of_cards, worked_out, after, gives, gives_all, last_after, EachNear}
use Rattle.claim.specs.Claim.{OfAnyCalls}
use Rattle.claim.proofs.Points.{near-calls}
use Rattle.claim.proofs.Decided.{same_once}

-- the clock's state is what is worked out from what was last accepted
pub record Agrees (c : Clock) (l : Last) : Type 0 where
  pub made : Made c
  pub keeps : view c ≡ worked_out l

-- ---- what a call leaves is what is worked out after it

works : (r : Outcome Unit) (x y : Last) → worked_out (on_accepted r (λ _. x) y) ≡ on_accepted r (λ _. worked_out x) (worked_out y)
unfolding worked_out
works (accepted u) x y = refl
works (refused number place) x y = refl

cards-works : (l : Last) (file : List ℕ) → cards_leaves (worked_out l) file ≡ worked_out (after l (Cards file))
unfolding cards_leaves cards_returns after worked_out
cards-works l file = by (cards_outcome file) refl
  where
    by : (o : Outcome Table) → cards_outcome file ≡ o
        → on_accepted o (λ table. record { table = some table; station = none; month = none }) (worked_out l)
        ≡ worked_out (on_accepted (answered o) (λ _. record { cards = some file; station = none; date = none }) l)
    by (accepted table) e = rw e
    by (refused number line) e = refl

station-works : (l : Last) (s : station.Station) → station_leaves (worked_out l) s ≡ worked_out (after l (Station s))
unfolding station_leaves after worked_out
station-works l s = sym (works (station_returns (worked_out l) s) (record { cards = l.cards; station = some s; date = none }) l)

date-works : (l : Last) (year month : ℕ) → date_leaves (worked_out l) year month ≡ worked_out (after l (Date year month))
unfolding date_leaves date_returns after worked_out
date-works l year month = by (date_gives (table_of_cards l.cards) l.station year month) refl
  where
    by : (o : Outcome Dated) → date_gives (table_of_cards l.cards) l.station year month ≡ o
        → on_accepted o (λ dated. record { table = table_of_cards l.cards; station = l.station; month = some dated }) (worked_out l)
        ≡ worked_out (on_accepted (answered o) (λ _. record { cards = l.cards; station = l.station; date = some (record { year = year; month = month }) }) l)
    by (accepted dated) e = rw e
    by (refused number place) e = refl

-- ---- call by call

-- the contract of a call whose `requires` is the fact φ and whose `ensures` is the fact ψ
holds : {φ ψ : Type 0} → Keeps (λ w. fact w.𝓤 φ) (λ w. fact w.𝓤 ψ) → φ → ∥ ψ ∥₁
holds {φ} {ψ} k = k.keeps φ ψ (λ w. id⊢ w.𝓤 (fact w.𝓤 φ)) (λ w. id⊢ w.𝓤 (fact w.𝓤 ψ))

-- the contract of a call that asks nothing
always : {ψ : Type 0} → Keeps (λ w. emp w.𝓤) (λ w. fact w.𝓤 ψ) → ∥ ψ ∥₁
always {ψ} k = k.keeps (Unit {0}) ψ (λ w. top w.𝓤 _) (λ w. id⊢ w.𝓤 _) tt

-- memory of nothing but zeros holds a clock with no table, station or month
zeroed-new : NewPost zeroed
unfolding view
zeroed-new = record { made = λ e. absurd (false≢true e); leaves = refl }

new-follows : {c : Clock} → NewPost c → Agrees c nothing
unfolding worked_out
new-follows p = record { made = p.made; keeps = p.leaves }

pub new-agrees : {c : Clock} → New c → ∥ Agrees c nothing ∥₁
new-agrees (New.news x) = ∥∥₁_map (always x.contract) new-follows
new-agrees (New.held_news x) = ∥∥₁_map (always x.contract) new-follows
new-agrees New.zeros = ∣ new-follows zeroed-new ∣₁

-- a call q gave g and left c', after l: it gave what the document gives, and c' agrees with what is then last accepted
abbrev pub Follows : Last → Request → Gave → Clock → Type 0
Follows l q g c' = (g ≡ gives l q) × Agrees c' (after l q)

cards-follow : {c c' : Clock} {file : List ℕ} {returned : Outcome Unit} (l : Last) → Agrees c l → CardsPost c file returned c' → Follows l (Cards file) (told returned) c'
unfolding gives
cards-follow {file = file} l h p = (
  ap told p.returns,
  record { made = p.made; keeps = p.leaves ∙ ap (λ (k : State). cards_leaves k file) h.keeps ∙ cards-works l file },
)

station-follows : {c c' : Clock} {s : station.Station} {returned : Outcome Unit} (l : Last) → Agrees c l → StationPost c s returned c' → Follows l (Station s) (told returned) c'
unfolding gives
station-follows {s = s} l h p = (
  ap told (p.returns ∙ ap (λ (k : State). station_returns k s) h.keeps),
  record { made = p.made; keeps = p.leaves ∙ ap (λ (k : State). station_leaves k s) h.keeps ∙ station-works l s },
)

date-follows : {c c' : Clock} {year month : ℕ} {returned : Outcome Unit} (l : Last) → Agrees c l → DatePost c year month returned c' → Follows l (Date year month) (told returned) c'
unfolding gives
date-follows {year = year} {month = month} l h p = (
  ap told (p.returns ∙ ap (λ (k : State). date_returns k year month) h.keeps),
  record { made = p.made; keeps = p.leaves ∙ ap (λ (k : State). date_leaves k year month) h.keeps ∙ date-works l year month },
)

height-follows : {c : Clock} {minute : ℕ} {returned : Outcome ℤ} (l : Last) → Agrees c l → HeightPost c minute returned → Follows l (Height minute) (predicted returned) c
unfolding gives after
height-follows {minute = minute} l h p = (ap predicted (p.returns ∙ ap (λ (k : State). height_returns k minute) h.keeps), h)

series-follows : {c : Clock} {start step : ℕ} {hs hs' : List ℤ} {returned : Outcome Unit} (l : Last) → Agrees c l → SeriesPost c start step hs hs' returned
    → Follows l (Series start step hs) (wrote (record { returned = returned; heights = hs' })) c
unfolding gives after
series-follows {start = start} {step = step} {hs = hs} l h p = (ap wrote (p.gives ∙ ap (λ (k : State). series_gives k start step hs) h.keeps), h)

turns-follow : {c : Clock} {first last : ℕ} {ms ms' : List ℕ} {hs hs' : List ℤ} {returned : Outcome TurnsFound} (l : Last) → Agrees c l → TurnsPost c first last ms ms' hs hs' returned
    → Follows l (Turns first last ms hs) (found (record { returned = returned; minutes = ms'; heights = hs' })) c
unfolding gives after
turns-follow {first = first} {last = last} {ms = ms} {hs = hs} l h p = (ap found (p.gives ∙ ap (λ (k : State). turns_gives k first last ms hs) h.keeps), h)

year-follows : {c : Clock} {sheet : Sheet} {ss ss' : List ℤ} {ms ms' : List ℕ} {hs hs' : List ℤ} {returned : Outcome TurnsFound} (l : Last) → Agrees c l → YearPost c sheet ss ss' ms ms' hs hs' returned
    → Follows l (Year sheet ss ms hs) (filled (record { returned = returned; series = ss'; minutes = ms'; heights = hs' })) c
unfolding gives after
year-follows {sheet = sheet} {ss = ss} {ms = ms} {hs = hs} l h p = (ap filled (p.gives ∙ ap (λ (k : State). year_gives k sheet ss ms hs) h.keeps), h)

bookings-follow : {c : Clock} {minutes : List ℕ} {hs hs' : List ℤ} {returned : Outcome Unit} (l : Last) → Agrees c l → BookingsPost c minutes hs hs' returned
    → Follows l (Bookings minutes hs) (wrote (record { returned = returned; heights = hs' })) c
unfolding gives after
bookings-follow {minutes = minutes} {hs = hs} l h p = (ap wrote (p.gives ∙ ap (λ (k : State). bookings_gives k minutes hs) h.keeps), h)

hourly-follows : {c : Clock} {number : ℕ} {buffer left : List ℕ} {returned : Outcome ℕ} (l : Last) → Agrees c l → HourlyPost c number buffer left returned
    → Follows l (Hourly number buffer) (carded (record { returned = returned; buffer = left })) c
unfolding gives after
hourly-follows {number = number} {buffer = buffer} l h p = (ap carded (p.gives ∙ ap (λ (k : State). hourly_gives k number buffer) h.keeps), h)

names-follow : {c : Clock} {names : List (List ℕ)} (l : Last) → Agrees c l → names ≡ names_in (view c) → Follows l Names (named names) c
unfolding gives after
names-follow l h p = (ap named (p ∙ ap names_in h.keeps), h)

-- by value and by reference alike: what a call promises of what it gives and leaves is one record, over whatever it promises beside
pub call-agrees : {c c' : Clock} {q : Request} {g : Gave} (l : Last) → Agrees c l → Call c q g c' → ∥ Follows l q g c' ∥₁
call-agrees l h (Call.loads x) = ∥∥₁_map (holds x.contract h.made) (cards-follow l h)
call-agrees l h (Call.stations x) = ∥∥₁_map (holds x.contract h.made) (station-follows l h)
call-agrees l h (Call.placed x) = ∥∥₁_map (holds x.contract h.made) (station-follows l h)
call-agrees l h (Call.dates x) = ∥∥₁_map (holds x.contract h.made) (date-follows l h)
call-agrees l h (Call.heights x) = ∥∥₁_map (holds x.contract h.made) (height-follows l h)
call-agrees l h (Call.serieses x) = ∥∥₁_map (holds x.contract h.made) (series-follows l h)
call-agrees l h (Call.searches x) = ∥∥₁_map (holds x.contract h.made) (turns-follow l h)
call-agrees l h (Call.years x) = ∥∥₁_map (holds x.contract h.made) (year-follows l h)
call-agrees l h (Call.bookings x) = ∥∥₁_map (holds x.contract h.made) (bookings-follow l h)
call-agrees l h (Call.hourlies x) = ∥∥₁_map (holds x.contract h.made) (hourly-follows l h)
call-agrees l h (Call.hands x) = ∥∥₁_map (holds x.contract h.made) (names-follow l h)
call-agrees l h (Call.held_loads x) = ∥∥₁_map (holds x.contract h.made) (λ p. cards-follow l h p.0)
call-agrees l h (Call.held_stations x) = ∥∥₁_map (holds x.contract h.made) (λ p. station-follows l h p.0)
call-agrees l h (Call.held_dates x) = ∥∥₁_map (holds x.contract h.made) (λ p. date-follows l h p.0)
call-agrees l h (Call.lent_heights x) = ∥∥₁_map (holds x.contract h.made) (height-follows l h)
call-agrees l h (Call.held_heights x) = ∥∥₁_map (holds x.contract h.made) (λ p. height-follows l h p.0)
call-agrees l h (Call.held_serieses x) = ∥∥₁_map (holds x.contract h.made) (λ p. series-follows l h p.0)
call-agrees l h (Call.held_searches x) = ∥∥₁_map (holds x.contract h.made) (λ p. turns-follow l h p.0)
call-agrees l h (Call.held_years x) = ∥∥₁_map (holds x.contract h.made) (λ p. year-follows l h p.0)
call-agrees l h (Call.lent_bookings x) = ∥∥₁_map (holds x.contract h.made) (bookings-follow l h)
call-agrees l h (Call.held_bookings x) = ∥∥₁_map (holds x.contract h.made) (λ p. bookings-follow l h p.0)
call-agrees l h (Call.held_hourlies x) = ∥∥₁_map (holds x.contract h.made) (λ p. hourly-follows l h p.0)
call-agrees l h (Call.held_hands x) = ∥∥₁_map (holds x.contract h.made) (names-follow l h)

calls-agree : {c c' : Clock} {qs : List Request} {gs : List Gave} (l : Last) → Agrees c l → Calls c qs gs c' → ∥ ((gs ≡ gives_all l qs) × Agrees c' (last_after l qs)) ∥₁
unfolding gives_all last_after
calls-agree l h done = ∣ (refl, h) ∣₁
calls-agree l h (◌then◌ {q = q} x xs) =
    ∥∥₁_elim (call-agrees l h x) ∥∥₁_prop (λ one. ∥∥₁_map (calls-agree (after l q) one.1 xs) (λ all. (ap₂ ◌∷◌ one.0 all.0, all.1)))

pub claim : OfAnyCalls
claim c c' qs gs new x =
    let all : ∥ (gs ≡ gives_all nothing qs) ∥₁ = ∥∥₁_elim (new-agrees new) ∥∥₁_prop (λ h. ∥∥₁_map (calls-agree nothing h x) (λ e. e.0)) in
    let same : gs ≡ gives_all nothing qs = ∥∥₁_elim all (same_once gs (gives_all nothing qs)) (λ e. e) in
    record { exactly = same; near = subst (λ (g : List Gave). EachNear nothing qs g) (sym same) (near-calls nothing qs) }
