-- The year's turns from the clock's own answer over it: found with more behind them, or refused. Rests on `Kept`. Assumes nothing.
use Rattle.std.proofs.Common.{ℕ, ◌+◌, ◌≤◌, List, ◌≡◌, refl, ℤ, Result, Ok, Err}
use Rattle.refusals.specs.declared.Refused.{Refused}
use Rattle.calendar.specs.Calendar.{year_minutes}
use Rattle.clock.specs.declared.Clock.{Clock}
use Rattle.clock.specs.Returned.{turns_returned}
use Rattle.clock.specs.Posts.{YearPost}
use Rattle.turns.specs.declared.search.Summary.{Summary}
use Rattle.monthturns.specs.inner.Kept.{Kept}
use Rattle.monthturns.specs.Year.{YearTurns}
use Rattle.monthturns.proofs.Kept.{kept-all}

module _ {c : Clock} {year step last : ℕ} {series series-left : List ℤ} {minutes own-minutes : List ℕ} {heights own-heights : List ℤ} (own : Result Summary Refused) (whole : last ≡ year_minutes year)
    (p : YearPost c (record { year = year; start = 0; step = step; first = 0; last = last }) series series-left minutes own-minutes heights own-heights (turns_returned own)) where
  pub year-found : {found all : Summary} {minutes-left : List ℕ} {heights-left : List ℤ} → own ≡ Ok found → (found.count ≤ all.count) × (all.count ≤ found.count + 3)
      → Kept found.count own-minutes minutes-left own-heights heights-left → YearTurns c year step series series-left minutes minutes-left heights heights-left (Ok all)
  year-found {found} {all} e b k =
      record {
        own = own;
        minutes_own = own-minutes;
        heights_own = own-heights;
        asked = rw whole at p;
        beside = rw e (record { all = all; is = refl; least = b.0; most = b.1 });
        kept = rw e k;
      }

  pub year-refused : {refused : Refused} → own ≡ Err refused → YearTurns c year step series series-left minutes own-minutes heights own-heights (Err refused)
  year-refused e =
      record { own = own; minutes_own = own-minutes; heights_own = own-heights; asked = rw whole at p; beside = rw e refl; kept = kept-all }
