-- `calls::annual::sheet_outside` meets its contract: the series' question, and then the search's, of the year's last minute. Assumes nothing.
use Rattle.calls.proofs.annual.sheet_outside.Goals as goal

pub returns-then-series_outside : goal.returns-then-series_outside
returns-then-series_outside c =
    rw (← c.year_minutes-end.ensures.is, ← c.series_outside.ensures, c.if-series_outside.true)

pub returns : goal.returns
returns c =
    rw (← c.year_minutes-end.ensures.is, ← c.series_outside.ensures, c.if-series_outside.false, ← c.turns_outside.ensures)
