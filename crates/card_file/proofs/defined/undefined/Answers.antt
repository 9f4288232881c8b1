-- `card_file::cards::undefined` meets its contract. The loop's invariant: the frequencies from this place on give what all of them give.
-- Rests on the laws of `Last`.
use mathlib.Core.List.{◌++◌}
use native.Mathlib.Nat.{sub-zero}
use Rattle.card.specs.inner.Places.{places_in}
use Rattle.card_file.proofs.defined.Last.{defined_more, defined-none}
use Rattle.card_file.proofs.defined.undefined.Goals as goal

pub loop-place-init : goal.loop-place-init
loop-place-init c =
    rw (sub-zero c.args.table.now.frequencies)

pub loop-place-preserved : goal.loop-place-preserved
loop-place-preserved c =
    let defined = places_in 3 c.args.table.now.maincards c.args.table.now.mains ++ places_in 6 c.args.table.now.shallowcards c.args.table.now.shallows in
    rw (defined_more defined c.loop-place.place c.args.table.now.frequencies c.loop-place-test.true, ← c.is_defined.ensures, c.if-not-is_defined.false) at c.loop-place.invariant

pub returns-then-not-is_defined : goal.returns-then-not-is_defined
returns-then-not-is_defined c =
    let defined = places_in 3 c.args.table.now.maincards c.args.table.now.mains ++ places_in 6 c.args.table.now.shallowcards c.args.table.now.shallows in
    rw (defined_more defined c.loop-place.place c.args.table.now.frequencies c.loop-place-test.true, ← c.is_defined.ensures, c.if-not-is_defined.true) at c.loop-place.invariant

pub returns : goal.returns
returns c =
    let defined = places_in 3 c.args.table.now.maincards c.args.table.now.mains ++ places_in 6 c.args.table.now.shallowcards c.args.table.now.shallows in
    rw (defined-none defined c.loop-place.place c.args.table.now.frequencies c.loop-place-test.false) at c.loop-place.invariant
