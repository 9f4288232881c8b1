-- `hourly::writing::put_cards` meets its contract: before card i the cards from i on are left. Assumes nothing.
use mathlib.Core.Path.{◌≡◌, sym}
use Prim.Native.Nat.{◌-◌}
use native.Mathlib.Nat.{zero-mul}
use native.Mathlib.Omega.{arith}
use Rattle.hourly.specs.Writing.{cards_written}
use Rattle.hourly.specs.inner.Hours.{cards_after}
use Rattle.hourly.specs.inner.Fields.{card_length}
use Rattle.hourly.proofs.writing.Cards.{one_more, room-for-one, cards-next, cards-end}
use Rattle.hourly.proofs.writing.Stores.{left-all, left-none}
use Rattle.hourly.proofs.writing.put_cards.Goals as goal

pub loop-i-init : goal.loop-i-init
loop-i-init c =
    let e : c.args.cards - 0 ≡ c.args.cards = omega arith in
    record {
      place = sym (zero-mul (card_length c.args.width));
      stored = rw e (left-all c.args.out.now 0 (cards_written c.args.width (cards_after c.args.hours.now c.args.heading.station c.args.heading.year c.args.heading.month 0 c.args.cards)));
    }

pub put_card-at-requires : goal.put_card-at-requires
put_card-at-requires c =
    (omega (arith, c.loop-i.invariant.place, c.loop-i.invariant.stored.same_length, room-for-one c.loop-i.i c.args.cards (card_length c.args.width) c.loop-i-test.true, c.requires.0), (omega (arith, c.loop-i-test.true, c.requires.1.0), c.requires.1.1))

pub loop-i-preserved : goal.loop-i-preserved
loop-i-preserved c =
    record {
      place = omega (arith, c.put_card-at.ensures.value, c.loop-i.invariant.place, one_more c.loop-i.i (card_length c.args.width));
      stored = rw c.put_card-at.ensures.value (cards-next c.args.width c.args.hours.now c.args.heading.station c.args.heading.year c.args.heading.month c.requires.1.1 c.loop-i.i c.args.cards c.loop-i-test.true c.requires.1.0 c.loop-i.invariant.stored c.put_card-at.ensures.out_after);
    }

pub shape_of-out : goal.shape_of-out
shape_of-out c =
    c.loop-i.invariant.stored.same_length

pub returns : goal.returns
returns c =
    left-none (rw (cards-end c.args.width c.args.hours.now c.args.heading.station c.args.heading.year c.args.heading.month c.requires.1.1 c.loop-i.i c.args.cards c.loop-i-test.false) at c.loop-i.invariant.stored)
