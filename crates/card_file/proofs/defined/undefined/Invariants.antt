use mathlib.Core.Path.{◌≡◌}
use mathlib.Core.List.{◌++◌}
use Prim.Native.Nat.{◌-◌}
use Rattle.card_file.specs.Cards.{first_undefined}
use Rattle.card.specs.inner.Places.{places_in}
use Rattle.card_file.proofs.defined.undefined.Given as goal

abbrev pub invariant-loop-place : goal.invariant-loop-place
invariant-loop-place l =
    let defined = places_in 3 l.table.maincards l.table.mains ++ places_in 6 l.table.shallowcards l.table.shallows in
    first_undefined defined l.place (l.table.frequencies - l.place) ≡ first_undefined defined 0 l.table.frequencies
