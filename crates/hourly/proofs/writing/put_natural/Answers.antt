-- `hourly::writing::put_natural` meets its contract: blanks, then the digits (`natural-stored`). Assumes nothing.
use native.Mathlib.Omega.{arith}
use Rattle.hourly.proofs.Lengths.{decimal-most}
use Rattle.hourly.proofs.writing.Fields.{natural-stored}
use Rattle.hourly.proofs.writing.put_natural.Goals as goal

pub overflow_sub-blanks : goal.overflow_sub-blanks
overflow_sub-blanks c =
    omega (arith, c.digit_count.ensures, decimal-most c.args.width c.args.number)

pub put_decimal-requires : goal.put_decimal-requires
put_decimal-requires c =
    omega (arith, c.digit_count.ensures, decimal-most c.args.width c.args.number, c.put_blanks.auto.out, c.requires)

pub returns : goal.returns
returns c =
    natural-stored c.args.out.now c.put_blanks.new.out c.put_decimal.new.out c.args.at c.args.width c.args.number
    c.digit_count.result c.digit_count.ensures c.put_blanks.ensures c.put_decimal.ensures.out_after
