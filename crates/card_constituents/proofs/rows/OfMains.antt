-- Laws of a main's rows: a row stored gives its entry and keeps those before it, since no main has a satellite past those stored.
-- By the laws of rows of the table. Assumes nothing.
use mathlib.Core.Path.{◌≡◌, refl, sym, ap, ◌∙◌}
use Prim.Native.Nat.{ℕ, ◌+◌, ◌*◌, ◌≤◌, ◌<◌}
use mathlib.Core.List.{List, [], ◌∷◌, ◌++◌}
use native.Mathlib.Omega.{arith}
use native.Mathlib.Nat.{zero-add, add-zero}
use lib.IntN.{ℤ, pos}
use lib.ListN.{length, get_or, set, length-append, length-set}
use lib.Seq.{sets, length-sets, get_or-set_same, get_or-set_other, take_at, get_or_at}
use Rattle.table.specs.inner.View.{listed, row_of, naturals, integers, satellite_of, main_of}
use Rattle.table.proofs.Rows.{listed_same, listed-one-more, listed-both, row_put, row_kept, ends_with, listed-length}
use Rattle.limits.specs.Limits.{most_mains, most_satellites}
use Rattle.card_mains.specs.inner.Satellites.{AsBefore}
use Rattle.card.specs.Card.{Next, gives}
use Rattle.card.specs.inner.Places.{places_in}
use Rattle.card_mains.specs.Mains.{MainCard, next_main}
use Rattle.std.specs.Prelude.{Option, Some, Result, Ok}
use Rattle.card.specs.declared.faults.Fault.{Fault}
use Rattle.card.specs.inner.Lines.{next_gives}
use Rattle.card_mains.specs.inner.Mains.{main_read}
use Rattle.card_mains.specs.declared.mains.MainRead.{MainRead}
use Rattle.card_mains.proofs.mains.Room.{main-room}
use Rattle.card_constituents.specs.Satellites.{with_more}
use Rattle.card_constituents.specs.inner.Rows.{MainRoom, satellite_count, satellites_end, Stored, mains_in, MainStored, MainsKept, Begun}

-- a main whose rows and satellites are as they were
main-same : (cards cards' ratios ratios' : List ℕ) (angles angles' sat sat' : List ℤ) (k s : ℕ) → naturals 3 cards' k ≡ naturals 3 cards k → integers 7 angles' k ≡ integers 7 angles k
    → satellites_end cards k ≤ s → AsBefore (satellite_of sat' ratios') (satellite_of sat ratios) s → main_of cards' angles' sat' ratios' k ≡ main_of cards angles sat ratios k
unfolding main_of
main-same cards cards' ratios ratios' angles angles' sat sat' k s c a end kept =
    rw (c, a, listed_same (satellite_of sat' ratios') (satellite_of sat ratios) (get_or (naturals 3 cards k) 1 0) (get_or (naturals 3 cards k) 2 0) (λ i x y. kept i (omega arith)))

-- the mains, where only satellites past theirs are stored anew
pub mains-kept : (cards ratios ratios' : List ℕ) (angles sat sat' : List ℤ) (m s : ℕ) → Stored cards m s → AsBefore (satellite_of sat' ratios') (satellite_of sat ratios) s
    → mains_in cards angles sat' ratios' m ≡ mains_in cards angles sat ratios m
mains-kept cards ratios ratios' angles sat sat' m s stored kept =
    listed_same (main_of cards angles sat' ratios') (main_of cards angles sat ratios) 0 m
    (λ k a b. let h : k < m = omega arith in main-same cards cards ratios ratios' angles angles sat sat' k s refl refl (stored k h) kept)

-- main m begun, with no satellite yet
module _ (cards : List ℕ) (angles : List ℤ) (m place first : ℕ) (doodson : List ℤ) (phase : ℤ) (six : length doodson ≡ 6)
    (roomy : 3 * m + 3 ≤ length cards) (room : 7 * m + 7 ≤ length angles) where
  abbrev begun-cards : List ℕ
  begun-cards = sets cards (3 * m) (place ∷ first ∷ 0 ∷ [])

  abbrev begun-angles : List ℤ
  begun-angles = set (sets angles (7 * m) doodson) (7 * m + 6) phase

  pub begun-row : naturals 3 begun-cards m ≡ place ∷ first ∷ 0 ∷ []
  begun-row = row_put 0 3 cards m (place ∷ first ∷ 0 ∷ []) refl roomy

  pub main-begun : (sat : List ℤ) (ratios : List ℕ) → main_of begun-cards begun-angles sat ratios m ≡ record { place = place; doodson = doodson; phase = phase; satellites = [] }
  unfolding main_of listed
  main-begun sat ratios =
      let seven : length (doodson ++ (phase ∷ [])) ≡ 7 = rw (length-append doodson (phase ∷ []), six) in
      rw (
        ends_with angles (7 * m) doodson phase 6 six,
        begun-row,
        row_put (pos 0) 7 angles m (doodson ++ (phase ∷ [])) seven room,
        take_at doodson (phase ∷ []) 6 six,
        get_or_at doodson phase [] (pos 0) 6 six,
      )

  pub begun-stored : (s : ℕ) → Stored cards m s → Stored begun-cards m s
  begun-stored s stored k h = rw (row_kept 0 3 cards m (place ∷ first ∷ 0 ∷ []) refl k h) (stored k h)

  pub mains-kept-begun : (sat : List ℤ) (ratios : List ℕ) → mains_in begun-cards begun-angles sat ratios m ≡ mains_in cards angles sat ratios m
  mains-kept-begun sat ratios =
      let seven : length (doodson ++ (phase ∷ [])) ≡ 7 = rw (length-append doodson (phase ∷ []), six) in
      listed_same (main_of begun-cards begun-angles sat ratios) (main_of cards angles sat ratios) 0 m
      (λ k a b.
      let h : k < m = omega arith in
      main-same cards begun-cards ratios ratios angles begun-angles sat sat k (satellites_end cards k) (row_kept 0 3 cards m (place ∷ first ∷ 0 ∷ []) refl k h)
      (rw (ends_with angles (7 * m) doodson phase 6 six) (row_kept (pos 0) 7 angles m (doodson ++ (phase ∷ [])) seven k h)) (omega arith) (λ i x. refl))

  -- the mains with the one begun behind them
  pub mains-begun : (sat : List ℤ) (ratios : List ℕ) → mains_in begun-cards begun-angles sat ratios (m + 1) ≡ mains_in cards angles sat ratios m ++ (record { place = place; doodson = doodson; phase = phase; satellites = [] } ∷ [])
  mains-begun sat ratios = listed-one-more (main_of begun-cards begun-angles sat ratios) 0 m ∙ rw (zero-add m, main-begun sat ratios, mains-kept-begun sat ratios)

-- a card that gives a main had room for it and for its satellites
pub step_room : (names : List (List ℕ)) (cards : List ℕ) (m s : ℕ) (line : List ℕ) (r : Result (Option MainRead) Fault) (main : MainRead)
    → next_gives main_read r ≡ next_main names (places_in 3 cards m) s line → r ≡ Ok (Some main) → (m < most_mains) × (s + main.count ≤ most_satellites)
step_room names cards m s line r main e g =
    let h = main-room names (places_in 3 cards m) s line (main_read main) (sym e ∙ ap (next_gives main_read) g) in
    (omega (arith, h.0, listed-length (λ k. get_or cards (3 * k) 0) 0 m), h.1)

-- the rows with main m begun are those of the mains before, and of what the card gives
pub stored-begun : (cards cards' : List ℕ) (angles angles' : List ℤ) (m s place count : ℕ) (doodson : List ℤ) (phase : ℤ) (card : Next MainCard) → length doodson ≡ 6
    → (m < most_mains) × (s + count ≤ most_satellites) → Stored cards m s → MainRoom cards angles
    → cards' ≡ sets cards (3 * m) (place ∷ s ∷ 0 ∷ []) → angles' ≡ set (sets angles (7 * m) doodson) (7 * m + 6) phase
    → gives (record { main = record { place = place; doodson = doodson; phase = phase; satellites = [] }; count = count }) ≡ card
    → MainStored (Ok (Some count)) cards' angles' m card × (MainsKept cards' angles' cards angles m × (Begun (Ok (Some count)) cards' m s × MainRoom cards' angles'))
stored-begun cards cards' angles angles' m s place count doodson phase card six room stored rooms ec ea e =
    let h : 3 * m + 3 ≤ length cards = omega (arith, room.0, rooms.0) in
    let g : 7 * m + 7 ≤ length angles = omega (arith, room.0, rooms.1) in
    rw (ec, ea) (
      (λ sat ratios. rw (main-begun cards angles m place s doodson phase six h g sat ratios) e),
      (
        mains-kept-begun cards angles m place s doodson phase six h g,
        (
          (room.0, room.1, rw (begun-row cards angles m place s doodson phase six h g) (add-zero s), begun-stored cards angles m place s doodson phase six h g s stored, rw (begun-row cards angles m place s doodson phase six h g)),
          (length-sets cards (3 * m) (place ∷ s ∷ 0 ∷ []) ∙ rooms.0, length-set (sets angles (7 * m) doodson) (7 * m + 6) phase ∙ length-sets angles (7 * m) doodson ∙ rooms.1),
        ),
      ),
    )

-- main m grown by the t satellites stored behind the s before
module _ (cards : List ℕ) (m t s : ℕ) (roomy : 3 * m + 3 ≤ length cards) where
  abbrev grown-cards : List ℕ
  grown-cards = set cards (3 * m + 2) (get_or cards (3 * m + 2) 0 + t)

  grown-row : naturals 3 grown-cards m ≡ get_or (naturals 3 cards m) 0 0 ∷ get_or (naturals 3 cards m) 1 0 ∷ (get_or (naturals 3 cards m) 2 0 + t) ∷ []
  unfolding row_of listed
  grown-row =
      rw (
        get_or-set_other cards (3 * m + 2) (3 * m + 0) (get_or cards (3 * m + 2) 0 + t) 0 (λ e. omega arith),
        get_or-set_other cards (3 * m + 2) (3 * m + 1) (get_or cards (3 * m + 2) 0 + t) 0 (λ e. omega arith),
        get_or-set_same cards (3 * m + 2) (get_or cards (3 * m + 2) 0 + t) 0 (omega arith),
      )

  grown-row-kept : (k : ℕ) → k < m → naturals 3 grown-cards k ≡ naturals 3 cards k
  unfolding row_of
  grown-row-kept k h =
      listed_same (λ j. get_or grown-cards (3 * k + j) 0) (λ j. get_or cards (3 * k + j) 0) 0 3
      (λ j a b. get_or-set_other cards (3 * m + 2) (3 * k + j) (get_or cards (3 * m + 2) 0 + t) 0 (λ e. omega arith))

  pub grown-end : satellites_end cards m ≡ s → satellites_end grown-cards m ≡ s + t
  grown-end e = rw grown-row (omega arith)

  pub grown-count : satellite_count grown-cards m ≡ satellite_count cards m + t
  grown-count = rw grown-row

  pub grown-stored : (s' : ℕ) → s ≤ s' → Stored cards m s → Stored grown-cards m s'
  grown-stored s' h stored k b = rw (grown-row-kept k b) (omega (arith, stored k b))

  module _ (angles sat sat' : List ℤ) (ratios ratios' : List ℕ) (kept : AsBefore (satellite_of sat' ratios') (satellite_of sat ratios) s) where
    pub main-grown : satellites_end cards m ≡ s → main_of grown-cards angles sat' ratios' m ≡ with_more (main_of cards angles sat ratios m) (listed (satellite_of sat' ratios') s t)
    unfolding main_of with_more
    main-grown e =
        let first = get_or (naturals 3 cards m) 1 0 in
        let count = get_or (naturals 3 cards m) 2 0 in
        let same : listed (satellite_of sat' ratios') first count ≡ listed (satellite_of sat ratios) first count = listed_same (satellite_of sat' ratios') (satellite_of sat ratios) first count (λ i a b. kept i (omega arith)) in
        rw (grown-row, listed-both (satellite_of sat' ratios') first count t, e, same)

    pub mains-kept-grown : Stored cards m s → mains_in grown-cards angles sat' ratios' m ≡ mains_in cards angles sat ratios m
    mains-kept-grown stored =
        listed_same (main_of grown-cards angles sat' ratios') (main_of cards angles sat ratios) 0 m
        (λ k a b. let h : k < m = omega arith in main-same cards grown-cards ratios ratios' angles angles sat sat' k s (grown-row-kept k h) refl (stored k h) kept)

    -- the mains with the one grown behind them
    pub mains-grown : satellites_end cards m ≡ s → Stored cards m s
        → mains_in grown-cards angles sat' ratios' (m + 1) ≡ mains_in cards angles sat ratios m ++ (with_more (main_of cards angles sat ratios m) (listed (satellite_of sat' ratios') s t) ∷ [])
    mains-grown e stored = listed-one-more (main_of grown-cards angles sat' ratios') 0 m ∙ rw (zero-add m, main-grown e, mains-kept-grown stored)
