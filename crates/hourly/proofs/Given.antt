-- What a call gives in each of its three cases: a height is outside, the room is short, the cards are written. By the order of what is asked.
-- Assumes nothing.
use mathlib.Core.Path.{◌≡◌, refl, sym, ◌∙◌}
use mathlib.Core.Bool.{Bool, true, false, not, ◌&&◌}
use mathlib.Core.List.{List, ◌++◌}
use Prim.Native.Nat.{ℕ, ◌≤◌, ◌<◌}
use native.Mathlib.Nat.{zero-add}
use native.Mathlib.Omega.{arith}
use borrow.Author.Tests.{lt-ltb, le-ltb, leb-true}
use lib.Dec.{leb, lit<}
use lib.IntN.{ℤ, pos, negsuc}
use lib.ListN.{length, drop}
use lib.Seq.{sets, sets-eq}
use Rattle.refusals.specs.Outcome.{Outcome, accepted, refused}
use Rattle.hourly.specs.Card.{HourlyCard, value}
use Rattle.hourly.specs.Format.{narrow}
use Rattle.hourly.specs.Month.{CardsGiven, heights_asked, outside, bytes_of, into_buffer}
use Rattle.hourly.specs.Writing.{cards_written}
use Rattle.hourly.specs.inner.Fields.{Fitting}
use Rattle.hourly.proofs.writing.Fields.{natural-fits, negative_fits}

-- a height that is not outside fits its field
pub inside-fits : (z : ℤ) → outside (value z) ≡ false → Fitting narrow z
inside-fits (pos n) e = natural-fits narrow n
inside-fits (negsuc n) e =
    negative_fits 3 n (lit< tt) (omega (arith, leb-true n 998 (first (leb n 998) e)))
  where
    first : (t : Bool) → not (t && true) ≡ false → t ≡ true
    first true e = refl
    first false e = sym e

module _ (cards : List HourlyCard) (buffer : List ℕ) where
  abbrev given : Outcome ℕ → List ℕ → CardsGiven
  given outcome bytes = record { returned = outcome; buffer = bytes }

  pub height-refused : (number place : ℕ) → heights_asked 1 cards ≡ refused number place → given (refused number place) buffer ≡ into_buffer (bytes_of cards (length buffer)) buffer
  height-refused number place e = rw e

  pub room-refused : heights_asked 1 cards ≡ accepted tt → length buffer < length (cards_written narrow cards) → given (refused 34 0) buffer ≡ into_buffer (bytes_of cards (length buffer)) buffer
  room-refused e h = rw (e, lt-ltb (length buffer) (length (cards_written narrow cards)) h)

  pub cards-given : heights_asked 1 cards ≡ accepted tt → length (cards_written narrow cards) ≤ length buffer → (after : List ℕ) → after ≡ sets buffer 0 (cards_written narrow cards) → given (accepted (length (cards_written narrow cards))) after ≡ into_buffer (bytes_of cards (length buffer)) buffer
  cards-given e h after stored =
      let bytes = cards_written narrow cards in
      let there : after ≡ bytes ++ drop (length bytes) buffer = stored ∙ rw zero-add at (sets-eq bytes buffer 0 (omega arith)) in
      rw (e, le-ltb (length buffer) (length bytes) h, there)
