-- `hourly::write_cards` meets its contract: what is asked of the heights, then of the room; then all cards (`Given`). Assumes nothing.
use mathlib.Core.Path.{◌≡◌, refl, sym, ◌∙◌}
use mathlib.Core.List.{List}
use Prim.Native.Nat.{◌*◌, ◌/◌}
use native.Mathlib.Omega.{arith}
use lib.IntN.{ℤ, pos}
use lib.ListN.{length, get_or}
use lib.Seq.{sets}
use Rattle.calendar.specs.Calendar.{month_days}
use Prim.{Unit}
use Prim.Native.Nat.{ℕ}
use Rattle.refusals.specs.Outcome.{Outcome, accepted, refused, number_of}
use Rattle.hourly.specs.Format.{heights_a_card, narrow}
use Rattle.hourly.specs.Month.{centimetres, heights_asked}
use Rattle.hourly.specs.Writing.{cards_written}
use Rattle.hourly.specs.inner.Hours.{cards_in}
use Rattle.hourly.specs.inner.Fields.{AllFitting, HeightsAnswered, card_length}
use Rattle.hourly.proofs.Given.{inside-fits, height-refused, room-refused, cards-given}
use Rattle.hourly.proofs.writing.Cards.{cards-length}
use Rattle.hourly.proofs.write_cards.Goals as goal

-- where the heights of the month's hours are accepted
module _ (hours : List ℤ) (station year month : ℕ) (long : length hours ≡ 24 * month_days year month) where
  -- what is asked of the cards is what the call answered
  asked : (answer : Outcome Unit) → HeightsAnswered hours answer → answer ≡ heights_asked 1 (cards_in hours station year month)
  asked answer h = h.asked station year month (2 * month_days year month) (omega (arith, long))

  module _ (answer : Outcome Unit) (answered : HeightsAnswered hours answer) (is : answer ≡ accepted tt) where
    all-accepted : heights_asked 1 (cards_in hours station year month) ≡ accepted tt
    all-accepted = sym (asked answer answered) ∙ is

    all-fitting : AllFitting narrow hours
    all-fitting k h = inside-fits (centimetres (get_or hours k (pos 0))) (answered.inside is k h)

    bytes-length : length (cards_written narrow (cards_in hours station year month)) ≡ card_length narrow * (length hours / heights_a_card)
    bytes-length =
        let n = 2 * month_days year month in
        omega (arith, cards-length narrow hours station year month all-fitting n 0 (omega (arith, long)), long)

pub returns-in-Err : goal.returns-in-Err
returns-in-Err c =
    height-refused (cards_in c.args.hours.now c.args.station c.args.year c.args.month) c.args.out.now (number_of c.in-Err.refused.refusal) c.in-Err.refused.place
    (sym (asked c.args.hours.now c.args.station c.args.year c.args.month c.requires (refused (number_of c.in-Err.refused.refusal) c.in-Err.refused.place) c.in-Err.ensures))

pub returns-then-out-bytes : goal.returns-then-out-bytes
returns-then-out-bytes c =
    let all = all-accepted c.args.hours.now c.args.station c.args.year c.args.month c.requires (accepted tt) c.in_default.ensures refl in
    let long = bytes-length c.args.hours.now c.args.station c.args.year c.args.month c.requires (accepted tt) c.in_default.ensures refl in
    rw c.at.ensures (room-refused (cards_in c.args.hours.now c.args.station c.args.year c.args.month) c.args.out.now all (omega (arith, long, c.if-out-bytes.true)))

pub put_cards-requires : goal.put_cards-requires
put_cards-requires c =
    (omega (arith, c.if-out-bytes.false), (omega arith, all-fitting c.args.hours.now c.args.station c.args.year c.args.month c.requires (accepted tt) c.in_default.ensures refl))

pub returns : goal.returns
returns c =
    let all = all-accepted c.args.hours.now c.args.station c.args.year c.args.month c.requires (accepted tt) c.in_default.ensures refl in
    let long = bytes-length c.args.hours.now c.args.station c.args.year c.args.month c.requires (accepted tt) c.in_default.ensures refl in
    let n : length c.args.hours.now / 12 ≡ 2 * month_days c.args.year c.args.month = omega (arith, c.requires) in
    let stored : c.put_cards.new.out ≡ sets c.args.out.now 0 (cards_written narrow (cards_in c.args.hours.now c.args.station c.args.year c.args.month)) = rw n at c.put_cards.ensures in
    rw (← long) (cards-given (cards_in c.args.hours.now c.args.station c.args.year c.args.month) c.args.out.now all (omega (arith, long, c.if-out-bytes.false)) _ stored)
