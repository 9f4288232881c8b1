-- A card is stored field by field, the cards of a month card by card; and the lengths of both.
-- Assumes nothing.
use mathlib.Core.Path.{◌≡◌, refl, sym, ap, ◌∙◌}
use mathlib.Core.List.{List, [], ◌∷◌, ◌++◌, append_assoc}
use Prim.Native.Nat.{ℕ, zero, suc, ◌+◌, ◌-◌, ◌*◌, ◌/◌, ◌%◌, ◌≤◌, ◌<◌}
use native.Mathlib.Nat.{suc-mul, zero-mul, mul-le-mul_right}
use native.Mathlib.Numerals.{add-one}
use native.Mathlib.Omega.{arith}
use lib.IntN.{ℤ, pos}
use lib.ListN.{length, get_or, set, drop, replicate, length-append}
use lib.Seq.{sets, drop-cons}
use Rattle.hourly.specs.Card.{value}
use Rattle.hourly.specs.Format.{A}
use Rattle.hourly.specs.Month.{centimetres}
use Rattle.hourly.specs.Writing.{entry_written, written_by, card_written, cards_written}
use Rattle.hourly.specs.inner.Hours.{card_at, cards_after}
use Rattle.hourly.specs.inner.Fields.{heading_written, heights_written, entries_at, AllFitting, card_length}
use Rattle.hourly.proofs.centimetres.Asked.{entry_of, entries-length, entry_at}
use Rattle.hourly.proofs.writing.Fields.{field-length, natural-length}
use Rattle.hourly.proofs.writing.Stores.{Left, left-all, left-next, left-last, left-none}

-- the fields before the heights
module _ (l₀ l₁ l₂ l₃ l₄ l₅ l₆ l₇ : List ℕ) (at station year month i : ℕ) where
  pub heading-stored : l₁ ≡ sets l₀ at (entry_written 1 (value (pos (i % 2 + 1)))) → l₂ ≡ sets l₁ (at + 1) (replicate 1 32) → l₃ ≡ sets l₂ (at + 2) (entry_written 5 (value (pos station))) → l₄ ≡ sets l₃ (at + 7) (replicate 7 32) → l₅ ≡ sets l₄ (at + 14) (entry_written 2 (value (pos (i / 2 + 1)))) → l₆ ≡ sets l₅ (at + 16) (entry_written 2 (value (pos month))) → l₇ ≡ sets l₆ (at + 18) (entry_written 2 (value (pos (year % 100)))) → l₇ ≡ sets l₀ at (heading_written station year month i)
  unfolding written_by
  heading-stored e₁ e₂ e₃ e₄ e₅ e₆ e₇ =
      let number = entry_written 1 (value (pos (i % 2 + 1))) in
      let s₁ = left-next number (at + 1) (left-all l₀ at (heading_written station year month i)) e₁ (omega (arith, natural-length 1 (i % 2 + 1))) in
      let s₂ = left-next (replicate 1 32) (at + 2) s₁ e₂ (omega arith) in
      let s₃ = left-next (entry_written 5 (value (pos station))) (at + 7) s₂ e₃ (omega (arith, natural-length 5 station)) in
      let s₄ = left-next (replicate 7 32) (at + 14) s₃ e₄ (omega arith) in
      let s₅ = left-next (entry_written 2 (value (pos (i / 2 + 1)))) (at + 16) s₄ e₅ (omega (arith, natural-length 2 (i / 2 + 1))) in
      let s₆ = left-next (entry_written 2 (value (pos month))) (at + 18) s₅ e₆ (omega (arith, natural-length 2 month)) in
      left-none (left-next (entry_written 2 (value (pos (year % 100)))) (at + 20) s₆ e₇ (omega (arith, natural-length 2 (year % 100))))

-- so many things of a size, and one more
pub one_more : (k size : ℕ) → (k + 1) * size ≡ k * size + size
one_more k size = rw (add-one k) (suc-mul k size)

pub room-for-one : (k n size : ℕ) → k < n → k * size + size ≤ n * size
room-for-one k n size h = rw suc-mul at (mul-le-mul_right size h)

-- the heights of a card from its height k on
abbrev pub heights_from : ℕ → List ℤ → ℕ → ℕ → List ℕ
heights_from width hours first k = written_by (replicate (12 - k) (A width)) (drop k (entries_at hours first))

module _ (width : ℕ) (hours : List ℤ) (first : ℕ) (there : first + 12 ≤ length hours) where
  heights-more : (k : ℕ) → k < 12 → heights_from width hours first k ≡ entry_written width (entry_of (get_or hours (first + k) (pos 0))) ++ heights_from width hours first (k + 1)
  unfolding written_by
  heights-more k h =
      let e : 12 - k ≡ suc (12 - (k + 1)) = omega arith in
      let d : drop k (entries_at hours first) ≡ get_or (entries_at hours first) k (entry_of (pos 0)) ∷ drop (suc k) (entries_at hours first) = drop-cons (entries_at hours first) k (entry_of (pos 0)) (omega (arith, entries-length hours first there)) in
      rw (e, d, entry_at hours first there k h, add-one k)

  pub heights-end : (k : ℕ) → 12 ≤ k → heights_from width hours first k ≡ []
  unfolding written_by
  heights-end k h = let e : 12 - k ≡ 0 = omega arith in rw e

  module _ (fitting : AllFitting width hours) where
    one-length : (k : ℕ) → k < 12 → length (entry_written width (entry_of (get_or hours (first + k) (pos 0)))) ≡ width
    one-length k h = field-length width (centimetres (get_or hours (first + k) (pos 0))) (fitting (first + k) (omega arith))

    -- the next height is stored
    pub heights-next : {before : List ℕ} {at : ℕ} {now : List ℕ} {next : ℕ} {after : List ℕ} (k : ℕ) → k < 12 → Left before at (heights_written width hours first) now next (heights_from width hours first k) → after ≡ sets now next (entry_written width (entry_of (get_or hours (first + k) (pos 0)))) → Left before at (heights_written width hours first) after (next + width) (heights_from width hours first (k + 1))
    heights-next {next = next} k h l e =
        let entry = entry_written width (entry_of (get_or hours (first + k) (pos 0))) in
        left-next entry (next + width) (rw (heights-more k h) at l) e (ap (λ (n : ℕ). next + n) (one-length k h))

    heights-left : (left k : ℕ) → left + k ≡ 12 → length (heights_from width hours first k) ≡ left * width
    heights-left zero k e = rw (heights-end k (omega arith)) (sym (zero-mul width))
    heights-left (suc left) k e =
        let entry = entry_written width (entry_of (get_or hours (first + k) (pos 0))) in
        let h : k < 12 = omega arith in
        rw (heights-more k h, suc-mul)
        (length-append entry (heights_from width hours first (k + 1)) ∙ omega (arith, one-length k h, heights-left left (k + 1) (omega arith)))

    pub heights-length : length (heights_written width hours first) ≡ 12 * width
    heights-length = heights-left 12 0 refl

-- a card: its heading, its heights, LF
module _ (width : ℕ) (hours : List ℤ) (station year month i : ℕ) where
  card-parts : card_written width (card_at hours station year month i) ≡ heading_written station year month i ++ (heights_written width hours (12 * i) ++ (10 ∷ []))
  unfolding written_by
  card-parts = simp append_assoc

  heading-length : length (heading_written station year month i) ≡ 20
  unfolding written_by
  heading-length = simp (length-append, natural-length)

  module _ (there : 12 * i + 12 ≤ length hours) (fitting : AllFitting width hours) where
    pub card-length : length (card_written width (card_at hours station year month i)) ≡ card_length width
    card-length =
        ap length card-parts
        ∙ (length-append (heading_written station year month i) (heights_written width hours (12 * i) ++ (10 ∷ []))
        ∙ omega (arith, heading-length, length-append (heights_written width hours (12 * i)) (10 ∷ []), heights-length width hours (12 * i) there fitting))

    pub card-stored : (l₀ l₁ l₂ : List ℕ) (at next : ℕ) → l₁ ≡ sets l₀ at (heading_written station year month i) → l₂ ≡ sets l₁ (at + 20) (heights_written width hours (12 * i)) → next ≡ at + 20 + 12 * width → set l₂ next 10 ≡ sets l₀ at (card_written width (card_at hours station year month i))
    card-stored l₀ l₁ l₂ at next e₁ e₂ e =
        let heading = heading_written station year month i in
        let heights = heights_written width hours (12 * i) in
        let s₁ = left-next heading (at + 20) (left-all l₀ at (heading ++ (heights ++ (10 ∷ [])))) e₁ (ap (λ (n : ℕ). at + n) heading-length) in
        let s₂ = left-next heights next s₁ e₂ (ap (λ (n : ℕ). at + 20 + n) (heights-length width hours (12 * i) there fitting) ∙ sym e) in
        rw card-parts (left-last (10 ∷ []) s₂ refl)

-- the cards from card i on
module _ (width : ℕ) (hours : List ℤ) (station year month : ℕ) (fitting : AllFitting width hours) where
  cards-more : (i n : ℕ) → i < n → cards_written width (cards_after hours station year month i (n - i)) ≡ card_written width (card_at hours station year month i) ++ cards_written width (cards_after hours station year month (i + 1) (n - (i + 1)))
  unfolding cards_written cards_after
  cards-more i n h = let e : n - i ≡ suc (n - (i + 1)) = omega arith in rw e

  pub cards-end : (i n : ℕ) → n ≤ i → cards_written width (cards_after hours station year month i (n - i)) ≡ []
  unfolding cards_written cards_after
  cards-end i n h = let e : n - i ≡ 0 = omega arith in rw e

  -- the next card is stored
  pub cards-next : {before : List ℕ} {at : ℕ} {all now : List ℕ} {next : ℕ} {after : List ℕ} (i n : ℕ) → i < n → 12 * n ≤ length hours → Left before at all now next (cards_written width (cards_after hours station year month i (n - i))) → after ≡ sets now next (card_written width (card_at hours station year month i)) → Left before at all after (next + card_length width) (cards_written width (cards_after hours station year month (i + 1) (n - (i + 1))))
  cards-next {next = next} i n h there l e =
      left-next (card_written width (card_at hours station year month i)) (next + card_length width) (rw (cards-more i n h) at l) e
      (ap (λ (k : ℕ). next + k) (card-length width hours station year month i (omega arith) fitting))

  pub cards-length : (n i : ℕ) → 12 * (i + n) ≤ length hours → length (cards_written width (cards_after hours station year month i n)) ≡ n * card_length width
  unfolding cards_written cards_after
  cards-length zero i there = sym (zero-mul (card_length width))
  cards-length (suc n) i there =
      rw (suc-mul n (card_length width))
      (length-append (card_written width (card_at hours station year month i)) (cards_written width (cards_after hours station year month (i + 1) n))
      ∙ omega (arith, card-length width hours station year month i (omega arith) fitting, cards-length n (i + 1) (omega arith)))
