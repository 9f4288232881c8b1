-- What the claim says of each height of the last call of a list, in 01's words (specs/Claim.antt): by going down the list, then to the n-th
-- of the points that the call gives. Assumes nothing.
use Prim.Native.Nat.{ℕ, zero, suc, ◌+◌, ◌*◌, ◌<◌, ◌≤◌}
use native.Mathlib.Omega.{arith}
use mathlib.Core.List.{List, [], ◌∷◌, ◌++◌, map, cons-ne-nil}
use mathlib.Core.Path.{◌≡◌, refl, sym, ap, subst, ◌∙◌}
use lib.IntN.{ℤ, pos}
use lib.ListN.{length, get_or, take, drop, length-map, length-append}
use Rattle.month_prepared.specs.Prepared.{Month}
use Rattle.month_prepared.specs.Months.{owner_of}
use Rattle.heights.specs.Exact.{Near, NearOver}
use Rattle.heights.specs.Height.{height_at, height_over}
use Rattle.turns.specs.Search.{Turn, minutes_of}
use Rattle.turns.specs.Written.{TurnsFound, from_front}
use Rattle.calls.specs.State as state
use Rattle.calls.specs.State.{Maybe, Dated, State}
use Rattle.calls.specs.Calls.{SeriesGiven, filled as fills, height_returns}
use Rattle.calls.specs.Bookings.{bookings_heights, bookings_gives}
use Rattle.calls.proofs.Singly.{as-single-requests}
use Rattle.refusals.specs.Outcome.{Outcome, accepted, refused}
use Rattle.refusals.proofs.Laws.{not-both}
use Rattle.claim.specs.Document.{Request, Cards, Station, Date, Height, Series, Turns, Year, Bookings, Hourly, Names, Gave, told, predicted, wrote, found, filled, carded, named, Last, nothing, worked_out, after, gives, gives_all, last_after, Point, points_from, points_of, points, constituents_there, prepared_month, months_for, AllNear, nil, cons, EachNear, end, next, last_constituents}
use Rattle.claim.proofs.Points.{near_call}
use Rattle.claim.proofs.Given.{all_found, turns-give, as_many, year-gives}
use Rattle.claim.specs.Claim.{OfAHeight, OfASeries, OfTurns, OfAYearsSeries, OfAYearsTurns, OfBookings}

-- ---- down the list

same_length : {l : Last} {qs : List Request} {gs : List Gave} → EachNear l qs gs → length qs ≡ length gs
same_length end = omega arith
same_length (next x xs) = let more = same_length xs in omega arith

not-empty : {A : Type 0} (xs : List A) (x : A) → 0 < length (xs ++ x ∷ [])
not-empty [] x = omega arith
not-empty (y ∷ xs) x = omega arith

last-near : (l : Last) (qs : List Request) (gs : List Gave) (q : Request) (g : Gave) → EachNear l (qs ++ q ∷ []) (gs ++ g ∷ [])
    → AllNear (months_for (last_after l qs) q) (points q g)
unfolding last_after
last-near l [] [] q g (next x xs) = x
last-near l [] (f ∷ gs) q g x = absurd (omega (arith, same_length x, not-empty gs g))
last-near l (p ∷ qs) [] q g x = absurd (omega (arith, same_length x, not-empty qs q))
last-near l (p ∷ qs) (f ∷ gs) q g (next x xs) = last-near (after l p) qs gs q g xs

-- ---- to the n-th point

module _ (months : List Month) where
  from-nth : (minute step : ℕ) (hs : List ℤ) (n : ℕ) → n < length hs → AllNear months (points_from minute step hs) → NearOver months (minute + n * step) (get_or hs n (pos 0))
  unfolding points_from
  from-nth minute step [] n h x = absurd (omega arith)
  from-nth minute step (k ∷ hs) zero h (cons x xs) = subst (λ (m : ℕ). NearOver months m k) (omega arith) x
  from-nth minute step (k ∷ hs) (suc n) h (cons x xs) = subst (λ (m : ℕ). NearOver months m (get_or hs n (pos 0))) (omega arith) (from-nth (minute + step) step hs n (omega arith) xs)

  of-nth : (ms : List ℕ) (hs : List ℤ) (count n : ℕ) → n < count → n < length ms → n < length hs → AllNear months (points_of (take count ms) (take count hs)) → NearOver months (get_or ms n 0) (get_or hs n (pos 0))
  unfolding points_of
  of-nth ms hs zero n c i j x = absurd (omega arith)
  of-nth [] hs (suc count) n c i j x = absurd (omega arith)
  of-nth (m ∷ ms) [] (suc count) n c i j x = absurd (omega arith)
  of-nth (m ∷ ms) (h ∷ hs) (suc count) zero c i j (cons x xs) = x
  of-nth (m ∷ ms) (h ∷ hs) (suc count) (suc n) c i j (cons x xs) = of-nth ms hs count n (omega arith) (omega arith) (omega arith) xs

  -- the series' points stand before the turns'
  near_before : (ps qs : List Point) → AllNear months (ps ++ qs) → AllNear months ps
  near_before [] qs x = nil
  near_before (p ∷ ps) qs (cons x xs) = cons x (near_before ps qs xs)

  near-behind : (ps qs : List Point) → AllNear months (ps ++ qs) → AllNear months qs
  near-behind [] qs x = x
  near-behind (p ∷ ps) qs (cons x xs) = near-behind ps qs xs

-- a prepared month alone owns each minute
alone : (m : Maybe Dated) (minute : ℕ) (h : ℤ) → NearOver (prepared_month m) minute h → Near (constituents_there m) minute h
unfolding owner_of
alone state.none minute h x = x
alone (state.some m) minute h x = x

-- ---- turns that are given stand in both buffers

-- as many as are said to be there
abbrev Stand : Outcome TurnsFound → List ℕ → List ℤ → Type 0
Stand (accepted f) ms hs = (f.count ≤ length ms) × (f.count ≤ length hs)
Stand (refused number place) ms hs = Unit {0}

front-holds : {A : Type 0} (new old : List A) (n : ℕ) → length new ≡ n → n ≤ length (from_front new old)
front-holds new old n e = omega (arith, e, length-append new (drop (length new) old))

found-stand : (height : ℕ → ℤ) (ts : List Turn) (ms : List ℕ) (hs : List ℤ) → (length ts ≤ length (all_found height ts ms hs).minutes) × (length ts ≤ length (all_found height ts ms hs).heights)
found-stand height ts ms hs = (
  front-holds (minutes_of ts) ms (length ts) (as_many ts),
  front-holds (map height (minutes_of ts)) hs (length ts) (length-map (minutes_of ts) height ∙ as_many ts),
)

abbrev AllStand : Gave → Type 0
AllStand (told r) = Unit {0}
AllStand (predicted r) = Unit {0}
AllStand (wrote s) = Unit {0}
AllStand (found t) = Stand t.returned t.minutes t.heights
AllStand (filled y) = Stand y.returned y.minutes y.heights
AllStand (carded c) = Unit {0}
AllStand (named names) = Unit {0}

all-stand : (l : Last) (q : Request) → AllStand (gives l q)
unfolding gives
all-stand l (Cards file) = tt
all-stand l (Station s) = tt
all-stand l (Date year month) = tt
all-stand l (Height minute) = tt
all-stand l (Series start step heights) = tt
all-stand l (Turns first last ms hs) =
    turns-give (λ m g. AllStand (found g)) first last ms hs (λ m number. tt) (λ m ts. found-stand (height_at m.prepared.constituents) ts ms hs) (worked_out l).table (worked_out l).station (worked_out l).month
all-stand l (Year sheet ss ms hs) =
    year-gives (λ months y. AllStand (filled y)) sheet ss ms hs (λ months number place. tt) (λ months ts. found-stand (height_over months) ts ms hs) (worked_out l).table (worked_out l).station (worked_out l).month
all-stand l (Bookings minutes heights) = tt
all-stand l (Hourly number buffer) = tt
all-stand l Names = tt

-- what the last call of a list gives is what the document gives for it
gives-last : (l : Last) (qs : List Request) (q : Request) → gives_all l (qs ++ q ∷ []) ≡ gives_all l qs ++ gives (last_after l qs) q ∷ []
unfolding gives_all last_after
gives-last l [] q = refl
gives-last l (p ∷ qs) q = ap (λ (gs : List Gave). gives l p ∷ gs) (gives-last (after l p) qs q)

abbrev last_of : Gave → List Gave → Gave
last_of d [] = d
last_of d (g ∷ gs) = last_of g gs

last-is : (d : Gave) (gs : List Gave) (g : Gave) → last_of d (gs ++ g ∷ []) ≡ g
last-is d [] g = refl
last-is d (f ∷ gs) g = last-is f gs g

pub last-exactly : (qs : List Request) (gs : List Gave) (q : Request) (g : Gave) → gs ++ g ∷ [] ≡ gives_all nothing (qs ++ q ∷ []) → g ≡ gives (last_after nothing qs) q
last-exactly qs gs q g e = sym (last-is g gs g) ∙ ap (last_of g) (e ∙ gives-last nothing qs q) ∙ last-is g (gives_all nothing qs) (gives (last_after nothing qs) q)

last-stands : (qs : List Request) (gs : List Gave) (q : Request) (g : Gave) → gs ++ g ∷ [] ≡ gives_all nothing (qs ++ q ∷ []) → AllStand g
last-stands qs gs q g e = subst AllStand (sym (last-exactly qs gs q g e)) (all-stand (last_after nothing qs) q)

-- ---- a height, a series, turns

-- the month prepared by the calls before
abbrev month-after : List Request → Maybe Dated
month-after qs = (worked_out (last_after nothing qs)).month

-- the one point of a height
the_one : {months : List Month} {p : Point} → AllNear months (p ∷ []) → NearOver months p.minute p.height
the_one (cons x xs) = x

pub of-a-height : OfAHeight
of-a-height qs gs minute h claim = alone (month-after qs) minute h (the_one (last-near nothing qs gs _ _ claim.near))

pub of-a-series : OfASeries
of-a-series qs gs start step before left claim n h = alone (month-after qs) (start + n * step) (get_or left n (pos 0)) (from-nth _ start step left n h (last-near nothing qs gs _ _ claim.near))

pub of_turns : OfTurns
of_turns qs gs first last ms ms' hs hs' count high claim n c =
    let there : (count ≤ length ms') × (count ≤ length hs') = last-stands qs gs _ _ claim.exactly in
    let in-minutes : count ≤ length ms' = there.0 in
    let in-heights : count ≤ length hs' = there.1 in
    alone (month-after qs) (get_or ms' n 0) (get_or hs' n (pos 0)) (of-nth _ ms' hs' count n c (omega arith) (omega arith) (last-near nothing qs gs _ _ claim.near))

-- ---- a year's series and turns

pub of-a-years-series : OfAYearsSeries
of-a-years-series qs gs sheet ss ss' ms ms' hs hs' count high claim n h =
    from-nth _ sheet.start sheet.step ss' n h (near_before _ _ _ (last-near nothing qs gs _ _ claim.near))

pub of-a-years-turns : OfAYearsTurns
of-a-years-turns qs gs sheet ss ss' ms ms' hs hs' count high claim n c =
    let there : (count ≤ length ms') × (count ≤ length hs') = last-stands qs gs _ _ claim.exactly in
    let in-minutes : count ≤ length ms' = there.0 in
    let in-heights : count ≤ length hs' = there.1 in
    of-nth _ ms' hs' count n c (omega arith) (omega arith) (near-behind _ (points_from sheet.start sheet.step ss') _ (last-near nothing qs gs _ _ claim.near))

-- what a single request gives is near, from whatever was last accepted
pub single-near : (l : Last) (minute : ℕ) (height : ℤ) → predicted (accepted height) ≡ gives l (Height minute) → Near (last_constituents l) minute height
single-near l minute height e =
    alone (worked_out l).month minute height (the_one (subst (λ (g : Gave). AllNear (months_for l (Height minute)) (points (Height minute) g)) (sym e) (near_call l (Height minute))))

-- ---- bookings: each as a single height

-- where bookings are accepted, what is written is all of their heights
as_written : {s t : SeriesGiven} → wrote s ≡ wrote t → s ≡ t
as_written e = cc

all-written : (o : Outcome (List ℤ)) (heights left : List ℤ) → record { returned = accepted tt; heights = left } ≡ fills o heights → o ≡ accepted left
all-written (accepted hs) heights left e = ap (λ (s : SeriesGiven). accepted s.heights) (sym e)
all-written (refused number place) heights left e = not-both (ap (λ (s : SeriesGiven). s.returned) (sym e))

nth-single : (one : ℕ → Outcome ℤ) (ms : List ℕ) (hs : List ℤ) (n : ℕ) → map one ms ≡ map accepted hs → n < length hs → accepted (get_or hs n (pos 0)) ≡ one (get_or ms n 0)
nth-single one ms [] n e h = absurd (omega arith)
nth-single one [] (k ∷ hs) n e h = absurd (cons-ne-nil _ _ (sym e))
nth-single one (m ∷ ms) (k ∷ hs) zero e h = cc
nth-single one (m ∷ ms) (k ∷ hs) (suc n) e h = let more : map one ms ≡ map accepted hs = cc in nth-single one ms hs n more (omega arith)

pub of-bookings : OfBookings
unfolding gives bookings_gives
of-bookings qs gs minutes before left claim n h =
    let l : Last = last_after nothing qs in
    let k : State = worked_out l in
    let minute : ℕ = get_or minutes n 0 in
    let height : ℤ = get_or left n (pos 0) in
    let all : bookings_heights k minutes (length before) ≡ accepted left = all-written _ before left (as_written (last-exactly qs gs _ _ claim.exactly)) in
    let single : accepted height ≡ height_returns k minute = nth-single (height_returns k) minutes left n (as-single-requests k minutes (length before) left all) h in
    (ap predicted single, single-near l minute height (ap predicted single))
