-- The month's turns from the clock's own answer over it: found with more behind them, or refused. Rests on `Kept`. Assumes nothing.
use Rattle.std.proofs.Common.{ℕ, ◌+◌, ◌≤◌, List, ◌≡◌, refl, ℤ, Result, Ok, Err}
use Rattle.refusals.specs.declared.Refused.{Refused}
use Rattle.clock.specs.declared.Clock.{Clock}
use Rattle.clock.specs.Returned.{turns_returned}
use Rattle.clock.specs.Posts.{TurnsPost}
use Rattle.turns.specs.declared.search.Summary.{Summary}
use Rattle.monthturns.specs.inner.Kept.{Kept}
use Rattle.monthturns.specs.Month.{MonthTurns, FoundTurns}
use Rattle.monthturns.proofs.Kept.{kept-all}

module _ {c : Clock} {last : ℕ} {minutes own-minutes : List ℕ} {heights own-heights : List ℤ} (own : Result Summary Refused) (p : TurnsPost c 0 last minutes own-minutes heights own-heights (turns_returned own)) where
  pub month-found : {found all : Summary} {minutes-left : List ℕ} {heights-left : List ℤ} → own ≡ Ok found → (found.count ≤ all.count) × (all.count ≤ found.count + 3)
      → Kept found.count own-minutes minutes-left own-heights heights-left → MonthTurns c last minutes minutes-left heights heights-left (Ok all)
  month-found {found} {all} e b k =
      record {
        own = own;
        minutes_own = own-minutes;
        heights_own = own-heights;
        asked = p;
        beside = rw e (record { all = all; is = refl; least = b.0; most = b.1 });
        kept = rw e k;
      }

  pub month-refused : {refused : Refused} → own ≡ Err refused → MonthTurns c last minutes own-minutes heights own-heights (Err refused)
  month-refused e =
      record { own = own; minutes_own = own-minutes; heights_own = own-heights; asked = p; beside = rw e refl; kept = kept-all }

-- what is found of lent rows and the answer on them: turns, or a refusal
module _ {c : Clock} {last : ℕ} {minutes minutes-left : List ℕ} {heights heights-left : List ℤ} {own : Result Summary Refused}
    (p : MonthTurns c last minutes minutes-left heights heights-left own) where
  pub found-turns : {found : Summary} → own ≡ Ok found
      → FoundTurns c last (Ok (record { count = found.count; first = found.high; minutes = minutes-left; heights = heights-left }))
  found-turns e =
      record { minutes = minutes; minutes_left = minutes-left; heights = heights; heights_left = heights-left; turns = rw e at p; handed = (refl, refl) }

  pub found-refusal : {refused : Refused} → own ≡ Err refused → FoundTurns c last (Err refused)
  found-refusal e =
      record { minutes = minutes; minutes_left = minutes-left; heights = heights; heights_left = heights-left; turns = rw e at p; handed = tt }
