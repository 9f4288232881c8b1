-- Hourly cards that fit a width: their bytes, read by the format of that width, give the same cards.
-- By induction on the cards, from the law of a format. Assumes nothing.
use Prim.{Unit}
use mathlib.Core.Path.{◌≡◌, refl}
use Prim.Native.Nat.{ℕ, ◌+◌, ◌%◌, ◌≤◌, ◌<◌}
use mathlib.Core.Bool.{Bool, true, false, cond}
use mathlib.Core.List.{List, [], ◌∷◌, ◌++◌}
use lib.Dec.{leb, ltb}
use lib.ListN.{replicate}
use lib.Seq.{append_snoc}
use native.Mathlib.Omega.{arith}
use borrow.Author.Tests.{ltb-true, ltb-false, leb-true, le-leb, ne_eqb}
use Rattle.calendar.proofs.Months.{both}
use Rattle.refusals.specs.Outcome.{accepted}
use Rattle.limits.specs.Limits.{most_columns}
use Rattle.columns.specs.Bytes.{among, every}
use Rattle.columns.specs.Lines.{lines_of, line_good}
use Rattle.hourly.specs.Card.{HourlyCard, two_digits, full_year}
use Rattle.hourly.specs.Format.{A, heights_a_card, card_format}
use Rattle.hourly.specs.Writing.{written_by, entries_of, cards_written}
use Rattle.hourly.specs.Reading.{line_read, lines_read, cards_read}
use Rattle.hourly.proofs.Formats.{Fits, columns_of, written-printed, format_back}

-- ---- what fits

pub record CardFits (w : ℕ) (card : HourlyCard) : Type 0 where
  pub number : card.number < 10
  pub station : card.station < 100_000
  pub day : card.day < 100
  pub month : card.month < 100
  pub since : 1950 ≤ card.year
  pub until : card.year ≤ 2049
  pub heights : Fits (replicate heights_a_card (A w)) card.heights

abbrev pub CardsFit : ℕ → List HourlyCard → Type 0
CardsFit w [] = Unit
CardsFit w (card ∷ cards) = CardFits w card × CardsFit w cards

-- ---- a card

year-back : (year : ℕ) → 1950 ≤ year → year ≤ 2049 → full_year (two_digits year) ≡ year
year-back year l h = go (ltb (year % 100) 50) refl
  where
    go : (t : Bool) → ltb (year % 100) 50 ≡ t → cond t (2000 + year % 100) (1900 + year % 100) ≡ year
    go true e = omega (arith, ltb-true (year % 100) 50 e)
    go false e = omega (arith, ltb-false (year % 100) 50 e)

-- a card's line, without its LF
abbrev line_of : ℕ → HourlyCard → List ℕ
line_of w card = written_by (card_format w) (entries_of card)

module _ (w : ℕ) (card : HourlyCard) (h : CardFits w card) where
  entries_fit : Fits (card_format w) (entries_of card)
  entries_fit = (omega arith, (omega arith, (omega arith, (omega arith, (omega arith, h.heights)))))

  line-good : w ≤ 5 → line_good (line_of w card) ≡ true
  line-good narrow = let p = written-printed (card_format w) (entries_of card) entries_fit in rw (p.columns, p.plain, le-leb (columns_of (card_format w)) most_columns (omega arith))

  line-back : (place : ℕ) → w ≤ 5 → line_read w place (line_of w card) ≡ accepted card
  line-back place narrow =
      rw (line-good narrow, format_back place (card_format w) (entries_of card) entries_fit, year-back card.year h.since h.until)

-- ---- lines: one in front of the others

pub lines-front : (line rest : List ℕ) → every (among 32 126) line ≡ true → lines_of (line ++ 10 ∷ rest) ≡ line ∷ lines_of rest
unfolding lines_of every
lines-front [] rest h = refl
lines-front (b ∷ line) rest h =
    let p = both (among 32 126 b) (every (among 32 126) line) h in
    let l : 32 ≤ b = leb-true 32 b (both (leb 32 b) (leb b 126) p.0).0 in
    rw (ne_eqb b 10 (λ e. omega arith), lines-front line rest p.1)

lines-back : (w place : ℕ) → w ≤ 5 → (cards : List HourlyCard) → CardsFit w cards → lines_read w place (lines_of (cards_written w cards)) ≡ accepted cards
unfolding lines_read lines_of cards_written
lines-back w place narrow [] h = refl
lines-back w place narrow (card ∷ cards) (h, hs) =
    let p = written-printed (card_format w) (entries_of card) (entries_fit w card h) in
    rw (
      append_snoc (line_of w card) 10 (cards_written w cards),
      lines-front (line_of w card) (cards_written w cards) p.plain,
      line-back w card h place narrow,
      lines-back w (place + 1) narrow cards hs,
    )

-- the cards that are read are those that were written
pub cards-read-back : (w : ℕ) → w ≤ 5 → (cards : List HourlyCard) → CardsFit w cards → cards_read w (cards_written w cards) ≡ accepted cards
cards-read-back w narrow cards h = lines-back w 1 narrow cards h
