-- `heights::months::height` meets its contract: the owner's height, of its row.
use mathlib.Core.Path.{ap, ◌∙◌}
use mathlib.Core.List.{List}
use lib.Dec.{lit<}
use Rattle.angles.proofs.Known.{read}
use Rattle.month_prepared.specs.Prepared.{Constituent}
use Rattle.heights.specs.Height.{height_at}
use Rattle.heights.proofs.months.Rows.{own-height}
use Rattle.heights.proofs.months.height.Goals as goal

pub returns : goal.returns
returns c =
    let l = c.args.lent in
    (read c.height.result c.height.ensures.result_bound (lit< tt)).is
    ∙ (c.height.ensures.value
    ∙ (ap (λ (cs : List Constituent). height_at cs c.owner-own.result.minute) c.month.ensures.is
    ∙ own-height l.arguments.now l.lags.now l.frequencies.now l.ps.now l.qs.now l.months c.args.minute c.owner-own.result c.owner-own.ensures))
