-- `turns::slopes::slope` meets its contract: the owner's slope, of its row. Assumes nothing.
use mathlib.Core.Path.{sym, ap, ◌∙◌}
use mathlib.Core.List.{List}
use Rattle.month_prepared.specs.Prepared.{Constituent}
use Rattle.month_prepared.specs.Months.{Owned}
use Rattle.turns.specs.Slope.{slope_at}
use Rattle.turns.proofs.bisection.Halves.{kept_result}
use Rattle.turns.proofs.slopes.slope.Goals as goal

pub slope_in_month-requires-clause-lent : goal.slope_in_month-requires-clause-lent
slope_in_month-requires-clause-lent c =
    (c.month.ensures.lent, rw (c.month.ensures.count, c.month.ensures.frequencies) c.requires.rows.frequencies)

pub returns : goal.returns
returns c =
    let l = c.args.lent in
    let owns = c.owner-own.ensures.owns l.arguments.now l.lags.now l.frequencies.now l.ps.now l.qs.now in
    kept_result c.slope_in_month.type_inv
    (c.slope_in_month.ensures
    ∙ (ap (λ (cs : List Constituent). slope_at cs c.owner-own.result.minute) c.month.ensures.is
    ∙ sym (ap (λ (w : Owned). slope_at w.month.constituents w.minute) owns)))
