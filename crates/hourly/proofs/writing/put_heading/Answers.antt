-- `hourly::writing::put_heading` meets its contract: its fields one after another (`heading-stored`). Assumes nothing.
use Rattle.hourly.proofs.writing.Cards.{heading-stored}
use Rattle.hourly.proofs.writing.put_heading.Goals as goal

pub returns : goal.returns
returns c =
    heading-stored c.args.out.now c.put_natural.new.out c.put_blanks.new.out c.put_natural-2.new.out c.put_blanks-2.new.out
    c.put_natural-3.new.out c.put_natural-4.new.out c.put_natural-5.new.out c.args.at c.args.heading.station c.args.heading.year c.args.heading.month c.args.i
    c.put_natural.ensures c.put_blanks.ensures c.put_natural-2.ensures c.put_blanks-2.ensures
    c.put_natural-3.ensures c.put_natural-4.ensures c.put_natural-5.ensures
