-- `clock::hourly` meets its contract: refused by what is asked first, or the month's cards (`Carded` in calls). Assumes nothing.
use mathlib.Core.Path.{sym, ◌∙◌}
use Rattle.table.specs.inner.View.{table_of}
use Rattle.station.specs.inner.Station.{station_of}
use Rattle.calls.proofs.Carded.{cards-refused, cards-given, hourly-tabled}
use Rattle.clock.specs.View.{view, month_in}
use Rattle.clock.proofs.Lent.{parts-made}
use Rattle.clock.proofs.hourly.Goals as goal

pub cards-requires : goal.cards-requires
cards-requires c =
    let k = c.args.clock in
    c.lent.ensures.lent (parts-made k c.requires) (hourly-tabled k.tabled k.stationed k.dated c.args.number (sym (rw c.there.ensures at c.in_default.ensures)))

pub returns-in-Err : goal.returns-in-Err
unfolding view
returns-in-Err c =
    let k = c.args.clock in
    record { gives = cards-refused (table_of k.table) (station_of k.station) (month_in k) c.args.number k.tabled k.stationed k.dated _ _ _ (sym (rw c.there.ensures at c.in-Err.ensures)) }

pub returns : goal.returns
unfolding view
returns c =
    let k = c.args.clock in
    record { gives = (rw c.lent.ensures.constituents at c.cards.ensures) ∙ cards-given (table_of k.table) (station_of k.station) (month_in k) c.args.number k.tabled k.stationed k.dated _ (sym (rw c.there.ensures at c.in_default.ensures)) }
