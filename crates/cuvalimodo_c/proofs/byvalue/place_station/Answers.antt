-- `byvalue::place_station` meets its contract. Assumes nothing.
use borrow.Author.Rules.{rules}
use mir.Syntax.{w32}
use mir.ValLaws.{to_z-of_z}
use Rattle.cuvalimodo_c.proofs.byvalue.place_station.Goals as goal

pub returns : goal.returns
returns c =
    let placed = rw (to_z-of_z w32 c.args.latitude c.ranges.latitude) at c.place_station.ensures in
    (rw (c.in_numbers.ensures.0, c.in_numbers.ensures.1.1) placed, c.in_numbers.ensures.1.0)
