-- The rule of a table: tests that antt computes over all of it, and what they give at each entry.
-- Rests on `Every` for the walk over the entries, and gives `Claim` its `Good`. Assumes nothing.
use mathlib.Core.Path.{◌≡◌, subst}
use mathlib.Core.List.{List}
use mathlib.Core.Bool.{Bool}
use Prim.Native.Nat.{ℕ, zero, suc, ◌+◌, ◌*◌, ◌≤◌, ◌<◌}
use native.Mathlib.Omega.{arith}
use native.Mathlib.Nat.{le_trans}
use native.Mathlib.Numerals.{add-one}
use lib.Dec.{T, eqb, leb, eqb→eq, leb→le}
use lib.IntN.{pos}
use lib.ListN.{length, get_or}
use Rattle.cosine.specs.Fraction.{quarter, added, taken, whole, base}
use Rattle.cosine.specs.Fixed.{one, entry, IsNearest}
use Rattle.cosine.proofs.Natural.{entry_ℕ, entry-is}
use Rattle.cosine.proofs.Series.{added_bend, taken_bend}
use Rattle.cosine.proofs.Every.{both, both_left, both_right, every, at, below, below_at}
use Rattle.cosine.proofs.Claim.{Good, entry-nearest}

-- ---- the entries in `src/`: a test at each element of the list

unfoldable pub right : ℕ → ℕ → ℕ → Bool
right h k x = eqb x (entry_ℕ h k)

pub table_is : (h : ℕ) (xs : List ℕ) → T (every (right h) 0 xs) → (k : ℕ) → k < length xs → get_or xs k 0 ≡ entry_ℕ h k
unfolding right
table_is h xs t k l = eqb→eq (get_or xs k 0) (entry_ℕ h k) (at (right h) xs t k l)

-- ---- the entries by themselves: a test at each number

-- the cosine at entry k is not negative
unfoldable pub sound : ℕ → ℕ → Bool
sound h k = leb (taken (k * h)) (added (k * h))

-- the entry after k is below the entry k, by at most m
unfoldable pub falling : ℕ → ℕ → ℕ → Bool
falling h m k = both (leb (entry_ℕ h (k + 1)) (entry_ℕ h k)) (leb (entry_ℕ h k) (entry_ℕ h (k + 1) + m))

-- a table of N + 1 entries, for steps of h, whose neighbours differ by at most m, is good for a bound of E
pub record Passed (E h m N : ℕ) : Type 0 where
  pub some : zero < h
  pub steps : N * h ≡ quarter
  pub top : entry_ℕ h 0 ≤ one
  pub all_sound : T (below (sound h) (suc N))
  pub all-fall : T (below (falling h m) N)
  pub bends-added : one * (h * h * added_bend) + 6 * whole ≤ 4 * (E * whole)
  pub bends-taken : one * (h * h * taken_bend) + 6 * whole ≤ 4 * (E * whole)

module _ {E h m N : ℕ} (p : Passed E h m N) where
  is-sound : (k : ℕ) → k < suc N → taken (k * h) ≤ added (k * h)
  unfolding sound
  is-sound k l = leb→le (taken (k * h)) (added (k * h)) (below_at (sound h) (suc N) p.all_sound k l)

  -- each entry is the whole number nearest to 2^30 times the base cosine
  pub is-nearest : (k : ℕ) → k < suc N → IsNearest (entry h k) (base (k * h))
  is-nearest k l = entry-nearest h k (is-sound k l)

  pub natural : (k : ℕ) → k < suc N → entry h k ≡ pos (entry_ℕ h k)
  natural k l = entry-is h k (is-sound k l)

  pub down : (k : ℕ) → k < N → entry_ℕ h (k + 1) ≤ entry_ℕ h k
  unfolding falling
  down k l = leb→le (entry_ℕ h (k + 1)) (entry_ℕ h k) (both_left (leb (entry_ℕ h (k + 1)) (entry_ℕ h k)) _ (below_at (falling h m) N p.all-fall k l))

  pub near : (k : ℕ) → k < N → entry_ℕ h k ≤ entry_ℕ h (k + 1) + m
  unfolding falling
  near k l = leb→le (entry_ℕ h k) (entry_ℕ h (k + 1) + m) (both_right (leb (entry_ℕ h (k + 1)) (entry_ℕ h k)) _ (below_at (falling h m) N p.all-fall k l))

  pub at_most_one : (k : ℕ) → k ≤ N → entry_ℕ h k ≤ one
  at_most_one zero l = p.top
  at_most_one (suc k) l = le_trans (subst (λ (n : ℕ). entry_ℕ h n ≤ entry_ℕ h k) (add-one k) (down k l)) (at_most_one k (omega arith))

  pub good : Good E h N
  good =
      record {
        some = p.some;
        steps = p.steps;
        sound = λ i l. is-sound i (omega arith);
        falls = down;
        bends-added = p.bends-added;
        bends-taken = p.bends-taken;
      }
