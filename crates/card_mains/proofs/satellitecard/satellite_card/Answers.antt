-- `card_mains::satellitecard::satellite_card` meets its contract: a good line, then its satellites.
use mathlib.Core.Path.{refl}
use Rattle.card.specs.Card.{due_card}
use Rattle.card_mains.specs.Satellites.{satellite_card}
use Rattle.card_mains.proofs.satellitecard.satellite_card.Goals as goal

pub returns-then-line_good : goal.returns-then-line_good
unfolding satellite_card due_card
returns-then-line_good c =
    record {
      satellites_acard_after = rw (← c.line_good.ensures, c.if-line_good.true, ← c.at_most_three.ensures) c.satellites_on.ensures.count_after;
      as_before = c.satellites_on.ensures.as_before;
    }

pub returns : goal.returns
unfolding satellite_card due_card
returns c =
    record {
      satellites_acard_after = rw (c.bad_line.ensures, ← c.line_good.ensures, c.if-line_good.false);
      as_before = ((λ k h. refl), c.requires.1);
    }
