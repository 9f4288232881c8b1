-- The next turn as the code's promise puts it: one more stride before a promise that holds. From the laws of `Strides`. Assumes nothing.
use mathlib.Core.Path.{◌≡◌, sym, ◌∙◌}
use mathlib.Core.Bool.{Bool, true, false}
use Prim.Native.Nat.{ℕ, ◌+◌, ◌≤◌, ◌<◌}
use native.Mathlib.Omega.{arith}
use lib.IntN.{ℤ}
use Rattle.turns.specs.Sense.{rising, differ}
use Rattle.turns.specs.Cuts.{earlier_end}
use Rattle.turns.specs.inner.Bisection.{TurnedPost}
use Rattle.turns.specs.declared.bisection.Turned.{Turned}
use Rattle.turns.proofs.bisection.Cuts.{end-within}
use Rattle.std.specs.Prelude.{None, Some}
use Rattle.turns.specs.Search.{turns_of}
use Rattle.turns.specs.inner.Search.{NextPost}
use Rattle.turns.proofs.search.Strides.{smaller-within, turns-none, turns_same, turns-one}

module _ (slope : ℕ → ℤ) (stride : ℕ) (some : 0 < stride) (last minute from : ℕ) (same : turns_of slope stride minute last ≡ turns_of slope stride from last) where
  pub stride-passed : from + stride ≤ last → differ (slope from) (slope (from + stride)) ≡ false → turns_of slope stride minute last ≡ turns_of slope stride (from + stride) last
  stride-passed h d = same ∙ turns_same slope stride some last from h d

  pub end-reached : last < from + stride → NextPost slope stride last minute None
  end-reached h = record { turns = same ∙ turns-none slope stride some last from h; next = tt }

  pub turn-found : from + stride ≤ last → differ (slope from) (slope (from + stride)) ≡ true → {t : Turned} → TurnedPost slope from stride t → {high : Bool} {there : ℤ} → high ≡ rising (slope from) → there ≡ t.slope → NextPost slope stride last minute (Some (record { turn = t.turn; high = high; later = t.later; slope = there }))
  turn-found h d p s e =
      let w = end-within slope from stride some in
      let l = p.later in
      record {
        turns = same ∙ turns-one slope stride some last from h d ∙ sym (rw (p.turn, s, l));
        next = record {
          turn = rw p.turn (smaller-within slope last (earlier_end slope from stride) (omega arith));
          later = omega arith;
          there = e ∙ p.there;
        };
      }
