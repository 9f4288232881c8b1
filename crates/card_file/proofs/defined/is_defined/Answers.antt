-- `card_file::cards::is_defined` meets its contract. A place is among those of two kinds where it is among one: `among-both`. Assumes nothing.
use Rattle.card.proofs.places.Defined.{among-both}
use mathlib.Core.Path.{◌≡◌}
use Rattle.refusals.specs.Places.{is_among}
use Rattle.card.specs.inner.Places.{places_in}
use Rattle.card_file.proofs.defined.is_defined.Goals as goal

pub returns-then-is_among : goal.returns-then-is_among
returns-then-is_among c =
    let main : c.is_among.result ≡ is_among c.args.place (places_in 3 c.args.table.now.maincards c.args.table.now.mains) = c.is_among.ensures in
    rw (among-both, ← main, c.if-is_among.true)

pub returns : goal.returns
returns c =
    rw (among-both, ← c.is_among.ensures, c.if-is_among.false) c.is_among-2.ensures
