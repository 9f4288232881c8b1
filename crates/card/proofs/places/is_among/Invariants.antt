use mathlib.Core.Path.{◌≡◌}
use Prim.Native.Nat.{◌-◌, ◌*◌}
use lib.ListN.{get_or}
use Rattle.table.specs.inner.View.{listed}
use Rattle.refusals.specs.Places.{is_among}
use Rattle.card.specs.inner.Places.{places_in}
use Rattle.card.proofs.places.is_among.Given as goal

abbrev pub invariant-loop-k : goal.invariant-loop-k
invariant-loop-k l = is_among l.place (listed (λ i. get_or l.cards (l.width * i) 0) l.k (l.count - l.k)) ≡ is_among l.place (places_in l.width l.cards l.count)
