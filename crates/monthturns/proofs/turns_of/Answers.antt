-- `monthturns::turns_of` meets its contract: what it gives is what the lent rows hold after the search. Assumes nothing.
use Rattle.std.proofs.lemmas.Result.{err_from_is_err_and}
use Rattle.monthturns.proofs.Month.{found-turns, found-refusal}
use Rattle.monthturns.proofs.turns_of.Goals as goal

pub returns : goal.returns
returns c =
    found-turns c.month_turns.ensures c.in_ok-found.was

pub returns-in_err-found : goal.returns-in_err-found
returns-in_err-found c =
    let p = err_from_is_err_and c.from_residual.result c.from_residual.ensures.1 in
    rw (p.1, p.2) (found-refusal c.month_turns.ensures c.in_err-found.was)
