-- `card::ratio_on` meets its contract: the field's description and its range check together are the definition's number.
use lib.IntN.{pos}
use Rattle.std.specs.Prelude.{Ok, Err}
use Rattle.card.specs.Formats.{ratio_field}
use Rattle.card.proofs.Ranges.{number_is}
use Rattle.card.proofs.ratio_on.Goals as goal

pub returns-in-Ok : goal.returns-in-Ok
returns-in-Ok c =
    let read = rw (c.in-Ok.is, c.ratio-f.ensures) at c.narrow_field.ensures.result_value in
    let within = rw c.in-Ok.is at c.narrow_field.ensures.narrow_within in record {
      result_value = number_is c.args.line.now (ratio_field c.args.j) (Ok (pos c.in-Ok.ratio)) read;
      ratio_within = within;
    }

pub returns-in-Err : goal.returns-in-Err
returns-in-Err c =
    let read = rw (c.in-Err.is, c.ratio-f.ensures) at c.narrow_field.ensures.result_value in record {
      result_value = rw (c.fault_in.ensures, c.from.ensures, c.ratio-f.ensures) (number_is c.args.line.now (ratio_field c.args.j) (Err c.in-Err.error) read);
      ratio_within = tt;
    }
