-- What is asked of the cards of a month's hours, from what is known of each hour: card by card, and hour by hour of a card.
-- Assumes nothing.
use mathlib.Core.Path.{◌≡◌, refl, ap, ◌∙◌}
use mathlib.Core.Bool.{Bool, true, false, ◌||◌}
use mathlib.Core.List.{List, [], ◌∷◌}
use Prim.Native.Nat.{ℕ, zero, suc, ◌+◌, ◌-◌, ◌*◌, ◌/◌, ◌≤◌, ◌<◌}
use native.Mathlib.Omega.{arith}
use lib.IntN.{ℤ, pos}
use lib.ListN.{length, get_or, take, drop, length-map, length-drop, get_or-map}
use lib.Seq.{length-take-le, get_or-take, get_or-drop}
use Rattle.refusals.specs.Outcome.{accepted, refused}
use Rattle.hourly.specs.Card.{Entry, value}
use Rattle.hourly.specs.Month.{centimetres, outside, any_outside, heights_asked}
use Rattle.hourly.specs.inner.Hours.{cards_after}
use Rattle.hourly.specs.inner.Fields.{entries_at}
use Rattle.hourly.proofs.Lengths.{below_or_not}

or-true : (b : Bool) → (b || true) ≡ true
or-true true = refl
or-true false = refl

any-true : (es : List Entry) (j : ℕ) (d : Entry) → j < length es → outside (get_or es j d) ≡ true → any_outside es ≡ true
unfolding any_outside
any-true [] j d h e = absurd (omega arith)
any-true (entry ∷ es) zero d h e = rw e
any-true (entry ∷ es) (suc j) d h e = rw (any-true es j d (omega arith) e) (or-true (outside entry))

any_false : (es : List Entry) (d : Entry) → ((j : ℕ) → j < length es → outside (get_or es j d) ≡ false) → any_outside es ≡ false
unfolding any_outside
any_false [] d h = refl
any_false (entry ∷ es) d h = rw (h 0 (omega arith), any_false es d (λ j l. h (suc j) (omega arith)))

-- an hour's entry
abbrev pub entry_of : ℤ → Entry
entry_of h = value (centimetres h)

-- the entries of a card, from its hours
module _ (hours : List ℤ) (first : ℕ) (there : first + 12 ≤ length hours) where
  pub entries-length : length (entries_at hours first) ≡ 12
  entries-length = length-map (take 12 (drop first hours)) entry_of ∙ length-take-le 12 (drop first hours) (omega (arith, length-drop first hours))

  pub entry_at : (j : ℕ) → j < 12 → get_or (entries_at hours first) j (entry_of (pos 0)) ≡ entry_of (get_or hours (first + j) (pos 0))
  entry_at j h =
      get_or-map entry_of (take 12 (drop first hours)) j (pos 0)
      ∙ ap entry_of (get_or-take 12 (drop first hours) j (pos 0) h ∙ get_or-drop first hours j (pos 0))

module _ (hours : List ℤ) (station year month : ℕ) where
  abbrev OutsideAt : ℕ → Bool
  OutsideAt k = outside (entry_of (get_or hours k (pos 0)))

  card-inside : (i : ℕ) → 12 * i + 12 ≤ length hours → ((k : ℕ) → k < 12 * i + 12 → OutsideAt k ≡ false) → any_outside (entries_at hours (12 * i)) ≡ false
  card-inside i there h =
      any_false (entries_at hours (12 * i)) (entry_of (pos 0))
      (λ j l.
      let b : j < 12 = omega (arith, entries-length hours (12 * i) there) in
      ap outside (entry_at hours (12 * i) there j b) ∙ h (12 * i + j) (omega arith))

  card-outside : (i k : ℕ) → 12 * i + 12 ≤ length hours → 12 * i ≤ k → k < 12 * i + 12 → OutsideAt k ≡ true → any_outside (entries_at hours (12 * i)) ≡ true
  card-outside i k there low high e =
      let b : k - 12 * i < 12 = omega arith in
      let same : 12 * i + (k - 12 * i) ≡ k = omega arith in
      any-true (entries_at hours (12 * i)) (k - 12 * i) (entry_of (pos 0)) (omega (arith, entries-length hours (12 * i) there))
      (ap outside (entry_at hours (12 * i) there (k - 12 * i) b) ∙ rw same e)

  -- no hour is outside
  pub all-accepted : ((k : ℕ) → k < length hours → OutsideAt k ≡ false) → (i n place : ℕ) → 12 * (i + n) ≤ length hours → heights_asked place (cards_after hours station year month i n) ≡ accepted tt
  unfolding heights_asked cards_after
  all-accepted inside i zero place h = refl
  all-accepted inside i (suc n) place h =
      rw (card-inside i (omega arith) (λ k l. inside k (omega arith))) (all-accepted inside (i + 1) n (place + 1) (omega arith))

  -- hour k is the first that is
  pub first-refused : (k : ℕ) → ((j : ℕ) → j < k → OutsideAt j ≡ false) → OutsideAt k ≡ true → (i n : ℕ) → 12 * i ≤ k → k < 12 * (i + n) → 12 * (i + n) ≤ length hours → heights_asked (i + 1) (cards_after hours station year month i n) ≡ refused 33 (k / 12 + 1)
  unfolding heights_asked cards_after
  first-refused k inside e i zero low high h = absurd (omega arith)
  first-refused k inside e i (suc n) low high h =
      below_or_not k (12 * i + 12)
      (λ l.
      let place : i + 1 ≡ k / 12 + 1 = omega arith in
      rw (card-outside i k (omega arith) low l e) (ap (refused 33) place))
      (λ l. rw (card-inside i (omega arith) (λ j b. inside j (omega arith))) (first-refused k inside e (i + 1) n (omega arith) (omega arith) (omega arith)))
