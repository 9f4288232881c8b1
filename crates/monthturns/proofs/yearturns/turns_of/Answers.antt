-- `monthturns::yearturns::turns_of` meets its contract: the clock's own answer, and the turns put behind its. Assumes nothing.
use Rattle.std.proofs.lemmas.Result.{err_from_is_err_and}
use Rattle.monthturns.proofs.Year.{year-found, year-refused}
use Rattle.monthturns.proofs.yearturns.turns_of.Goals as goal

pub returns : goal.returns
returns c =
    year-found c.year.result c.year_minutes.ensures.is c.year.ensures c.in_ok-found.was c.with_ends.ensures.count_le_count c.with_ends.ensures.kept

pub returns-in_err-found : goal.returns-in_err-found
returns-in_err-found c =
    let p = err_from_is_err_and c.from_residual.result c.from_residual.ensures.1 in
    rw (p.1, p.2) (year-refused c.year.result c.year_minutes.ensures.is c.year.ensures c.in_err-found.was)
