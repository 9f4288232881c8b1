-- `hourly::writing::put_card` meets its contract: heading, heights, LF (`card-stored`). Assumes nothing.
use mathlib.Core.Path.{◌∙◌}
use native.Mathlib.Omega.{arith}
use lib.ListN.{length-set}
use Rattle.hourly.proofs.writing.Cards.{card-stored}
use Rattle.hourly.proofs.writing.put_card.Goals as goal

pub shape_of-out : goal.shape_of-out
shape_of-out c =
    length-set c.put_heights-next.new.out c.put_heights-next.result _ ∙ (c.put_heights-next.auto.out ∙ c.put_heading.auto.out)

pub returns : goal.returns
returns c =
    record {
      out_after = card-stored c.args.width c.args.hours.now c.args.heading.station c.args.heading.year c.args.heading.month c.args.i c.requires.1.0 c.requires.1.1 c.args.out.now
          c.put_heading.new.out c.put_heights-next.new.out c.args.at c.put_heights-next.result c.put_heading.ensures c.put_heights-next.ensures.out_after c.put_heights-next.ensures.value;
      value = omega (arith, c.put_heights-next.ensures.value);
    }
