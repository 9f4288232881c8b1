-- Each height that the document gives for a list of calls is near the exact sum of its own month at its own minute. Rests on the distance of
-- one height (`height-is-near` of heights), over the cases of what a call gives (`Given`); that of bookings on the distance of a single height, which
-- they equal (`as-single-requests` of calls). Assumes nothing.
use Prim.Native.Nat.{ℕ, zero, suc, ◌+◌, ◌*◌}
use mathlib.Core.List.{List, [], ◌∷◌, ◌++◌, map}
use mathlib.Core.Path.{◌≡◌, refl, subst, ◌∙◌}
use native.Mathlib.Omega.{arith}
use lib.ListN.{length, take, drop, length-map}
use lib.Seq.{take_at}
use lib.IntN.{ℤ}
use Rattle.refusals.specs.Outcome.{Outcome, accepted, refused, answered, on_accepted}
use Rattle.table.specs.Table.{Table}
use Rattle.station.specs.Station as station
use Rattle.month_prepared.specs.Prepared.{Month}
use Rattle.month_prepared.specs.Months.{owner_of}
use Rattle.heights.specs.Exact.{NearOver}
use Rattle.heights.specs.Height.{height_at, height_over}
use Rattle.heights.specs.Series.{series_from, series_of}
use Rattle.heights.proofs.distance.Distance.{height-is-near}
use Rattle.turns.specs.Search.{Turn, minutes_of}
use Rattle.turns.specs.Written.{TurnsGiven, from_front}
use Rattle.calls.specs.State.{Maybe, Dated, State}
use Rattle.calls.specs.Calls.{height_returns, series_heights, series_gives, turns_gives}
use Rattle.calls.specs.Asked.{minute_outside, series_outside}
use Rattle.calls.specs.declared.annual.Sheet.{Sheet}
use Rattle.calls.specs.Year.{year_gives}
use Rattle.calls.specs.Bookings.{bookings_heights, bookings_gives}
use Rattle.calls.proofs.Singly.{as-single-requests}
use Rattle.calls.proofs.Posed.{height-of, series-of}
use Rattle.claim.specs.Document.{Request, Cards, Station, Date, Height, Series, Turns, Year, Bookings, Hourly, Names, Last, worked_out, after, gives, gives_all, Point, height_points, points_from, series_points, points_of, turns_points, sheet_points, bookings_points, points, prepared_month, months_on, months_for, AllNear, nil, cons, EachNear, end, next}
use Rattle.claim.proofs.Given.{ready_by, all_found, turns-give, as_many, year-gives}

-- ---- one height, of a month alone and of months that follow one another

alone-near : (m : Month) (minute : ℕ) → NearOver (m ∷ []) minute (height_at m.constituents minute)
unfolding owner_of
alone-near m minute = height-is-near m.constituents minute

over-near : (months : List Month) (minute : ℕ) → NearOver months minute (height_over months minute)
over-near months minute = height-is-near (owner_of months minute).month.constituents (owner_of months minute).minute

-- ---- a series and turns, where the height at each minute is near

-- what stands in front of a buffer is what was put there
front-is : {A : Type 0} (new old : List A) (n : ℕ) → length new ≡ n → take n (from_front new old) ≡ new
front-is new old n e = take_at new (drop (length new) old) n e

abbrev found_points : TurnsGiven → List Point
found_points g = turns_points g.returned g.minutes g.heights

module _ (months : List Month) (height : ℕ → ℤ) (near : (minute : ℕ) → NearOver months minute (height minute)) where
  from-near : (start step j n : ℕ) → AllNear months (points_from (start + j * step) step (series_from height start step j n))
  unfolding points_from series_from
  from-near start step j zero = nil
  from-near start step j (suc n) =
      let on : start + (j + 1) * step ≡ start + j * step + step = omega arith in
      cons (near (start + j * step)) (subst (λ (m : ℕ). AllNear months (points_from m step (series_from height start step (j + 1) n))) on (from-near start step (j + 1) n))

  series-near : (start step n : ℕ) → AllNear months (points_from start step (series_of height start step n))
  series-near start step n =
      let e : start + 0 * step ≡ start = omega arith in
      subst (λ (k : ℕ). AllNear months (points_from k step (series_of height start step n))) e (from-near start step 0 n)

  pairs-near : (ms : List ℕ) → AllNear months (points_of ms (map height ms))
  unfolding points_of
  pairs-near [] = nil
  pairs-near (m ∷ ms) = cons (near m) (pairs-near ms)

  turns_near : (ts : List Turn) (ms : List ℕ) (hs : List ℤ) → AllNear months (found_points (all_found height ts ms hs))
  turns_near ts ms hs =
      rw (front-is (minutes_of ts) ms (length ts) (as_many ts), front-is (map height (minutes_of ts)) hs (length ts) (length-map (minutes_of ts) height ∙ as_many ts))
      (pairs-near (minutes_of ts))

both-near : {months : List Month} (ps qs : List Point) → AllNear months ps → AllNear months qs → AllNear months (ps ++ qs)
both-near [] qs nil ys = ys
both-near (p ∷ ps) qs (cons x xs) ys = cons x (both-near ps qs xs ys)

-- ---- what each call gives, from whatever state

module _ (t : Maybe Table) (s : Maybe station.Station) (m : Maybe Dated) where
  height-given : (minute : ℕ) → AllNear (prepared_month m) (height_points minute (height_returns (record { table = t; station = s; month = m }) minute))
  unfolding height_returns
  height-given minute =
      ready_by (λ m o. AllNear (prepared_month m) (height_points minute (height-of minute o))) (λ m. minute_outside m.prepared.last minute) (λ m number. nil)
      (λ t s m. cons (alone-near m.prepared minute) nil) t s m

  series-given : (start step : ℕ) (heights : List ℤ)
      → AllNear (prepared_month m) (series_points start step (series_gives (record { table = t; station = s; month = m }) start step heights).returned (series_gives (record { table = t; station = s; month = m }) start step heights).heights)
  unfolding series_gives series_heights
  series-given start step heights =
      ready_by (λ m o. AllNear (prepared_month m) (series_points start step (answered (series-of start step (length heights) o)) (on_accepted (series-of start step (length heights) o) (λ new. new) heights)))
      (λ m. series_outside m.prepared.last start step (length heights)) (λ m number. nil) (λ t s m. series-near (m.prepared ∷ []) (height_at m.prepared.constituents) (alone-near m.prepared) start step (length heights)) t s m

  turns-given : (first last : ℕ) (ms : List ℕ) (hs : List ℤ) → AllNear (prepared_month m) (found_points (turns_gives (record { table = t; station = s; month = m }) first last ms hs))
  turns-given first last ms hs =
      turns-give (λ m g. AllNear (prepared_month m) (found_points g)) first last ms hs (λ m number. nil) (λ m ts. turns_near (m.prepared ∷ []) (height_at m.prepared.constituents) (alone-near m.prepared) ts ms hs) t s m

  year-given : (sheet : Sheet) (ss : List ℤ) (ms : List ℕ) (hs : List ℤ) → AllNear (months_on t s sheet.year) (sheet_points sheet (year_gives (record { table = t; station = s; month = m }) sheet ss ms hs))
  year-given sheet ss ms hs =
      year-gives (λ months y. AllNear months (sheet_points sheet y)) sheet ss ms hs (λ months number place. nil) (λ months ts.
      both-near _ _ (series-near months (height_over months) (over-near months) sheet.start sheet.step (length ss)) (turns_near months (height_over months) (over-near months) ts ms hs)) t s m

  abbrev before : State
  before = record { table = t; station = s; month = m }

  -- bookings, each as a single height
  singly-given : (ms : List ℕ) (hs : List ℤ) → map (height_returns before) ms ≡ map accepted hs → AllNear (prepared_month m) (points_of ms hs)
  unfolding points_of
  singly-given [] hs e = nil
  singly-given (minute ∷ ms) [] e = nil
  singly-given (minute ∷ ms) (h ∷ hs) e =
      let one : height_returns before minute ≡ accepted h = cc in
      let more : map (height_returns before) ms ≡ map accepted hs = cc in
      both-near (record { minute = minute; height = h } ∷ []) (points_of ms hs) (subst (λ (o : Outcome ℤ). AllNear (prepared_month m) (height_points minute o)) one (height-given minute)) (singly-given ms hs more)

  bookings-given : (minutes : List ℕ) (heights : List ℤ)
      → AllNear (prepared_month m) (bookings_points minutes (bookings_gives before minutes heights).returned (bookings_gives before minutes heights).heights)
  unfolding bookings_gives
  bookings-given minutes heights = by (bookings_heights before minutes (length heights)) refl
    where
      by : (o : Outcome (List ℤ)) → bookings_heights before minutes (length heights) ≡ o → AllNear (prepared_month m) (bookings_points minutes (answered o) (on_accepted o (λ hs. hs) heights))
      by (accepted hs) e = singly-given minutes hs (as-single-requests before minutes (length heights) hs e)
      by (refused number place) e = nil

-- ---- the list

pub near_call : (l : Last) (q : Request) → AllNear (months_for l q) (points q (gives l q))
unfolding gives
near_call l (Cards file) = nil
near_call l (Station s) = nil
near_call l (Date year month) = nil
near_call l (Hourly number buffer) = nil
near_call l Names = nil
near_call l (Height minute) = height-given (worked_out l).table (worked_out l).station (worked_out l).month minute
near_call l (Series start step heights) = series-given (worked_out l).table (worked_out l).station (worked_out l).month start step heights
near_call l (Turns first last minutes heights) = turns-given (worked_out l).table (worked_out l).station (worked_out l).month first last minutes heights
near_call l (Year sheet series minutes heights) = year-given (worked_out l).table (worked_out l).station (worked_out l).month sheet series minutes heights
near_call l (Bookings minutes heights) = bookings-given (worked_out l).table (worked_out l).station (worked_out l).month minutes heights

pub near-calls : (l : Last) (qs : List Request) → EachNear l qs (gives_all l qs)
unfolding gives_all
near-calls l [] = end
near-calls l (q ∷ qs) = next (near_call l q) (near-calls (after l q) qs)
