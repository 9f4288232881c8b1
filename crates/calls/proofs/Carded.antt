-- Hourly cards, by what is asked first: a refusal, or what the month's cards come to. By the cases of the state's flags. Assumes nothing.
use Prim.{Unit}
use Prim.Native.Nat.{ℕ}
use mathlib.Core.Bool.{Bool, true, false}
use mathlib.Core.Path.{◌≡◌, refl, ap}
use mathlib.Core.List.{List}
use lib.Dec.{ltb}
use lib.ListN.{length}
use Rattle.refusals.specs.Outcome.{Outcome, accepted, refused, refuse_if, answered, ◌>>◌, ◌>>=◌}
use Rattle.refusals.proofs.Laws.{not-both}
use Rattle.table.specs.Table.{Table}
use Rattle.station.specs.Station.{Station}
use Rattle.hourly.specs.Month.{bytes_of, into_buffer, most_station_number}
use Rattle.calls.specs.State.{Dated}
use Rattle.calls.specs.Hourly.{month_cards, hourly_bytes, hourly_gives}
use Rattle.calls.specs.inner.Flags.{state_of, hourly_by}

-- what is asked of units is asked of anything: the same refusal, or what follows
of-any : {A B : Type 0} (over : Bool) (a : A) (next : A → Outcome B) (o : Outcome Unit)
    → answered (refuse_if {A = Unit {0} × Unit {0} × Unit {0}} over 32 0 (accepted (tt, tt, tt))) ≡ o
    → (refuse_if over 32 0 (accepted a) >>= next) ≡ (o >> next a)
of-any true a next o e = ap (λ (x : Outcome Unit). x >> next a) e
of-any false a next o e = ap (λ (x : Outcome Unit). x >> next a) e

module _ (table : Table) (station : Station) (month : Dated) (number : ℕ) where
  abbrev new : ℕ → Outcome (List ℕ)
  new places = bytes_of (month_cards month number) places

  bytes-by : (t s d : Bool) (places : ℕ) (o : Outcome Unit) → hourly_by t s d number ≡ o
      → hourly_bytes (state_of t table s station d month) number places ≡ (o >> new places)
  unfolding hourly_bytes
  bytes-by true true true places o e = of-any (ltb most_station_number number) (table, station, month) (λ x. bytes_of (month_cards x.2 number) places) o e
  bytes-by true true false places o e = ap (λ (x : Outcome Unit). x >> new places) e
  bytes-by true false d places o e = ap (λ (x : Outcome Unit). x >> new places) e
  bytes-by false s d places o e = ap (λ (x : Outcome Unit). x >> new places) e

  module _ (t s d : Bool) (buffer : List ℕ) where
    pub cards-refused : (n place : ℕ) → hourly_by t s d number ≡ refused n place
        → record { returned = refused n place; buffer = buffer } ≡ hourly_gives (state_of t table s station d month) number buffer
    unfolding hourly_gives
    cards-refused n place e = rw (bytes-by t s d (length buffer) (refused n place) e)

    pub cards-given : hourly_by t s d number ≡ accepted tt
        → into_buffer (bytes_of (month_cards month number) (length buffer)) buffer ≡ hourly_gives (state_of t table s station d month) number buffer
    unfolding hourly_gives
    cards-given e = rw (bytes-by t s d (length buffer) (accepted tt) e)

-- what is accepted has a table
pub hourly-tabled : (t s d : Bool) (number : ℕ) → hourly_by t s d number ≡ accepted tt → t ≡ true
hourly-tabled true s d number e = refl
hourly-tabled false s d number e = not-both e
