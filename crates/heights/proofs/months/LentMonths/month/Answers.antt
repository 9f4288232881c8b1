-- `heights::months::LentMonths::month` meets its contract: the parts that are lent are the month's rows.
use mathlib.Core.Path.{refl}
use Rattle.heights.proofs.months.Rows.{is_row, lent-month}
use Rattle.heights.proofs.months.LentMonths.month.Goals as goal

pub returns : goal.returns
returns c =
    let l = c.args.self in
    record {
      lent = record { table = c.requires.0.table; count = c.requires.0.following.count; row = is_row c.requires.0.rows c.args.month c.requires.1 };
      count = refl;
      frequencies = refl;
      is = lent-month c.args.month l.arguments.now l.lags.now l.frequencies.now l.ps.now l.qs.now l.months;
    }
