use mathlib.Core.Path.{◌≡◌}
use Prim.Native.Nat.{◌-◌, ◌*◌}
use lib.ListN.{get_or}
use Rattle.table.specs.inner.View.{listed}
use Rattle.card.specs.Places.{main_at}
use Rattle.card.specs.inner.Places.{places_in}
use Rattle.card.proofs.places.main_at.Given as goal

abbrev pub invariant-loop-k : goal.invariant-loop-k
invariant-loop-k l = main_at l.j l.place (listed (λ i. get_or l.cards (3 * i) 0) l.k (l.count - l.k)) l.k ≡ main_at l.j l.place (places_in 3 l.cards l.count) 0
