-- `card_frequencies::longitudes::read_five` meets its contract: the definition at the line there, with the tests on the way.
use borrow.Author.Rules.{rules}
use mathlib.Core.Path.{ap}
use native.Mathlib.Omega.{arith}
use lib.ListN.{length}
use Rattle.card.specs.Formats.{five_field}
use Rattle.card.specs.Card.{due_card}
use Rattle.card_frequencies.proofs.longitudes.Fives.{five-here, five-end}
use Rattle.card_frequencies.proofs.longitudes.read_five.Goals as goal

pub returns-then-file-at : goal.returns-then-file-at
returns-then-file-at c =
    record {
      values_value = rw (c.only.ensures, five-end (five_field c.args.card) c.args.file.now c.args.from.at c.args.from.line c.if-file-at.true);
      within_file = tt;
    }

pub after_line-next-requires : goal.after_line-next-requires
after_line-next-requires c =
    (search rules, ap length c.line_at-line.ensures)

pub returns-in-Ok : goal.returns-in-Ok
unfolding due_card
returns-in-Ok c =
    record {
      values_value = rw (five-here (five_field c.args.card) c.args.file.now c.args.from.at c.args.from.line c.line_at-line.result.now c.if-file-at.false c.line_at-line.ensures, ← c.line_good.ensures, c.if-line_good.true, ← c.five_card.ensures, c.in-Ok.is, c.after_line-next.ensures.2);
      within_file = (omega arith, omega arith);
    }

pub returns-in-Err : goal.returns-in-Err
unfolding due_card
returns-in-Err c =
    record {
      values_value = rw (five-here (five_field c.args.card) c.args.file.now c.args.from.at c.args.from.line c.line_at-line.result.now c.if-file-at.false c.line_at-line.ensures, ← c.line_good.ensures, c.if-line_good.true, ← c.five_card.ensures, c.in-Err.is);
      within_file = tt;
    }

pub returns : goal.returns
unfolding due_card
returns c =
    record {
      values_value = rw (c.bad_line.ensures, five-here (five_field c.args.card) c.args.file.now c.args.from.at c.args.from.line c.line_at-line.result.now c.if-file-at.false c.line_at-line.ensures, ← c.line_good.ensures, c.if-line_good.false);
      within_file = tt;
    }
