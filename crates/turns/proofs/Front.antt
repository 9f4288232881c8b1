-- Stores from the front of a list: one more, none left, and what the list is at the end. And what a search gives, by the buffers' room.
-- By the laws of `sets` and the definition's tests. Assumes nothing.
use mathlib.Core.Path.{◌≡◌, sym, ap, ◌∙◌}
use mathlib.Core.Bool.{Bool}
use mathlib.Core.List.{List, map}
use Prim.Native.Nat.{ℕ, ◌+◌, ◌≤◌, ◌<◌}
use native.Mathlib.Numerals.{add-one}
use native.Mathlib.Omega.{arith}
use lib.IntN.{ℤ}
use lib.ListN.{length, get_or, set, take, drop, length-map, length-append, length-drop, drop_of_length-le}
use lib.Seq.{sets, drop-cons}
use borrow.Author.Tests.{lt-ltb, le-ltb}
use Rattle.turns.specs.Search.{Turn, first_high, minutes_of}
use Rattle.turns.specs.inner.Search.{FoundPost}
use Rattle.turns.specs.declared.search.Summary.{Summary}
use Rattle.turns.proofs.search.Stored.{stored-all, all-in-front, taken-from-front}
use Rattle.refusals.specs.Outcome.{accepted, refused}
use Rattle.turns.specs.Written.{from_front, given}

-- a list, each by a rule
module _ {A : Type 0} (f : ℕ → A) (ks : List ℕ) (l : List A) where
  pub store-more : (i : ℕ) → i < length ks → sets (set l i (f (get_or ks i 0))) (i + 1) (map f (drop (i + 1) ks)) ≡ sets l i (map f (drop i ks))
  store-more i h = rw (drop-cons ks i 0 h, add-one i)

  pub store-none : (i : ℕ) → length ks ≤ i → sets l i (map f (drop i ks)) ≡ l
  store-none i h = rw (drop_of_length-le ks {i = i} h)

  pub stored : length ks ≤ length l → sets l 0 (map f ks) ≡ from_front (map f ks) l
  stored h = let e = length-map ks f in stored-all (map f ks) l (omega arith)

-- ---- the minutes of turns in front of others, and kept by a search that has room for all

module _ (turns : List Turn) (minutes : List ℕ) {after : List ℕ} {n : ℕ} (is : after ≡ from_front (minutes_of turns) minutes) (all : n ≡ length turns) where
  many : length (minutes_of turns) ≡ n
  many = length-map turns (λ (t : Turn). t.minute) ∙ sym all

  pub front-minutes : take n after ≡ minutes_of turns
  front-minutes = ap (λ (l : List ℕ). take n l) is ∙ taken-from-front (minutes_of turns) minutes many

  pub front-count : length (take n after) ≡ n
  front-count = ap length front-minutes ∙ many

  pub front_length : n ≤ length minutes → length after ≡ length minutes
  front_length h = let m = many in ap length is ∙ simp (length-append, length-drop) (omega arith)

module _ {turns : List Turn} {before after : List ℕ} {r : Summary} (p : FoundPost turns before after r) (room : r.count ≤ length before) where
  pub all-kept : after ≡ from_front (minutes_of turns) before
  all-kept =
      p.kept ∙ all-in-front (minutes_of turns) before (omega (arith, p.count, length-map turns (λ (t : Turn). t.minute)))

  pub kept-front : take r.count after ≡ minutes_of turns
  kept-front = front-minutes turns before all-kept p.count

  pub kept-length : length (take r.count after) ≡ r.count
  kept-length = front-count turns before all-kept p.count

-- ---- what is given, by the buffers' room

module _ (height : ℕ → ℤ) (turns : List Turn) (minutes : List ℕ) (heights : List ℤ) where
  pub few-minutes : length minutes < length turns → record { returned = refused 10 0; minutes = minutes; heights = heights } ≡ given height turns minutes heights
  unfolding given
  few-minutes h = simp (lt-ltb _ _ h)

  pub few-heights : length turns ≤ length minutes → length heights < length turns → record { returned = refused 10 0; minutes = minutes; heights = heights } ≡ given height turns minutes heights
  unfolding given
  few-heights l h = simp (le-ltb _ _ l, lt-ltb _ _ h)

  room-for-all : length turns ≤ length minutes → length turns ≤ length heights → record { returned = accepted (record { count = length turns; high = first_high turns }); minutes = from_front (minutes_of turns) minutes; heights = from_front (map height (minutes_of turns)) heights } ≡ given height turns minutes heights
  unfolding given
  room-for-all l k = simp (le-ltb _ _ l, le-ltb _ _ k)

  pub all-given : {n : ℕ} {high : Bool} {ks ms : List ℕ} {hs : List ℤ} → n ≡ length turns → high ≡ first_high turns → ks ≡ minutes_of turns → ms ≡ from_front (minutes_of turns) minutes → hs ≡ from_front (map height ks) heights → length turns ≤ length minutes → length turns ≤ length heights → record { returned = accepted (record { count = n; high = high }); minutes = ms; heights = hs } ≡ given height turns minutes heights
  all-given en eh ek em es l k = rw (en, eh, em, es, ek) (room-for-all l k)
