-- The minutes of turns as they are kept while more are found: each is in the search's range, and when none are left all are kept for which
-- there are places.
-- By induction on the strides, and by what `NextPost` says of the turns that are left. Assumes nothing.
use mathlib.Core.Path.{◌≡◌, refl, sym, ap, subst, ◌∙◌}
use Rattle.std.specs.Prelude.{Option, None, Some, IfSome, MatchOption}
use mathlib.Core.Bool.{Bool, false}
use mathlib.Core.List.{List, [], ◌∷◌}
use Prim.Native.Nat.{ℕ, zero, suc, ◌+◌, ◌-◌, ◌≤◌, ◌<◌}
use native.Mathlib.Nat.{le_trans}
use native.Mathlib.Numerals.{add-one}
use native.Mathlib.Omega.{arith}
use lib.Dec.{ltb}
use lib.IntN.{ℤ}
use lib.ListN.{length, get_or, set, length-set}
use lib.Seq.{sets}
use borrow.Author.Tests.{ltb-false}
use Rattle.turns.specs.Sense.{differ}
use Rattle.turns.specs.Cuts.{earlier_end, later_end}
use Rattle.turns.proofs.bisection.Cuts.{by-test, end-within}
use Rattle.turns.specs.Search.{Turn, turn_in, turns_from, turns_of}
use Rattle.turns.specs.Search.{first_high, minutes_of}
use Rattle.turns.specs.inner.Search.{IsNext, NextPost, FoundPost, Upto, onwards}
use Rattle.turns.specs.declared.search.Next.{Next}
use Rattle.turns.proofs.search.Strides.{smaller-within, turns-few}
use Rattle.turns.proofs.search.Stored.{stored-in-front}

-- ---- the minutes of turns

module _ (slope : ℕ → ℤ) (stride : ℕ) (some : 0 < stride) (last : ℕ) where
  cons-within : (x : ℕ) (xs : List ℕ) → x ≤ last → ((k : ℕ) → get_or xs k 0 ≤ last) → (k : ℕ) → get_or (x ∷ xs) k 0 ≤ last
  cons-within x xs h f zero = h
  cons-within x xs h f (suc k) = f k

  within-from : (n minute k : ℕ) → get_or (minutes_of (turns_from slope stride last n minute)) k 0 ≤ last
  unfolding turns_from
  within-from zero minute k = omega arith
  within-from (suc n) minute k =
      by-test (λ ts. get_or (minutes_of ts) k 0 ≤ last) (ltb last (minute + stride)) [] _ (λ e. omega arith)
      (λ e. let l = ltb-false last (minute + stride) e in
      let w = end-within slope minute stride some in
      let one = smaller-within slope last (earlier_end slope minute stride) (omega arith) in
      by-test (λ ts. get_or (minutes_of ts) k 0 ≤ last) (differ (slope minute) (slope (minute + stride))) (turn_in slope minute stride ∷ turns_from slope stride last n (later_end slope minute stride)) (turns_from slope stride last n (minute + stride)) (λ d. cons-within (turn_in slope minute stride).minute (minutes_of (turns_from slope stride last n (later_end slope minute stride))) one (within-from n (later_end slope minute stride)) k) (λ d. within-from n (minute + stride) k))

  pub minutes-upto : (minute : ℕ) {end : ℕ} {ks : List ℕ} → last ≤ end → ks ≡ minutes_of (turns_of slope stride minute last) → Upto end ks
  minutes-upto minute h e k l = rw e (le_trans (within-from (last - minute) minute k) h)

-- ---- while turns are left: `next` is known, and `n` are kept in a list that was `kept₀`

pub record Left (slope : ℕ → ℤ) (stride first last : ℕ) (kept₀ kept : List ℕ) (next : Option Next) (n : ℕ) : Type 0 where
  pub is-next : IfSome next (IsNext slope last)
  pub room : length kept ≡ length kept₀
  pub count : n + length (onwards slope stride last next) ≡ length (turns_of slope stride first last)
  pub minutes : sets kept n (minutes_of (onwards slope stride last next)) ≡ sets kept₀ 0 (minutes_of (turns_of slope stride first last))

module _ {slope : ℕ → ℤ} {stride first last : ℕ} where
  pub left-first : {kept : List ℕ} {next : Option Next} → NextPost slope stride last first next → Left slope stride first last kept kept next 0
  left-first {kept} p =
      let all = ap length p.turns in
      record {
        is-next = p.next;
        room = refl;
        count = omega arith;
        minutes = ap (λ (ts : List Turn). sets kept 0 (minutes_of ts)) (sym p.turns);
      }

  -- whether the first is high
  pub high-first : (next : Option Next) → NextPost slope stride last first next → {high : Bool} → MatchOption next (high ≡ false) (λ (s : Next). high ≡ s.high) → high ≡ first_high (turns_of slope stride first last)
  high-first None p e = e ∙ sym (ap first_high p.turns)
  high-first (Some s) p e = e ∙ sym (ap first_high p.turns)

  module _ {kept₀ kept : List ℕ} {next : Option Next} {n : ℕ} (l : Left slope stride first last kept₀ kept next n) where
    module _ (s : Next) (e : next ≡ Some s) where
      pub left-next : IsNext slope last s
      left-next = subst (λ (o : Option Next). IfSome o (IsNext slope last)) e l.is-next

      found-one : onwards slope stride last next ≡ record { minute = s.turn; high = s.high } ∷ turns_of slope stride s.later last
      found-one = rw e

      -- the turn found is one of all, so there are fewer before it than minutes
      pub left-room : 0 < stride → n < last
      left-room some =
          let few = turns-few slope stride some last first in
          let one = ap length found-one in
          let all = l.count in
          omega arith

      module _ {t : Option Next} (p : NextPost slope stride last s.later t) where
        one_more : onwards slope stride last next ≡ record { minute = s.turn; high = s.high } ∷ onwards slope stride last t
        one_more = found-one ∙ ap (λ (ts : List Turn). record { minute = s.turn; high = s.high } ∷ ts) p.turns

        pub left-fewer : length (onwards slope stride last t) < length (onwards slope stride last next)
        left-fewer = let m = ap length one_more in omega arith

        pub left-more : {kept' : List ℕ} → kept' ≡ set kept n s.turn → Left slope stride first last kept₀ kept' t (n + 1)
        left-more is =
            let m = ap length one_more in
            let all = l.count in
            record {
              is-next = p.next;
              room = ap length is ∙ (length-set kept n s.turn ∙ l.room);
              count = omega arith;
              minutes = rw (is, add-one) (rw one_more at l.minutes);
            }

    pub left-none : {high : Bool} → next ≡ None → high ≡ first_high (turns_of slope stride first last) → FoundPost (turns_of slope stride first last) kept₀ kept (record { count = n; high = high })
    left-none e s =
        let none : onwards slope stride last next ≡ [] = rw e in
        let m = ap length none in
        record {
          count = omega (arith, l.count);
          high = s;
          kept = (rw none at l.minutes) ∙ stored-in-front (minutes_of (turns_of slope stride first last)) kept₀;
        }
