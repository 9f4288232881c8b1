use mathlib.Core.Path.{◌≡◌}
use mathlib.Core.List.{map}
use Prim.Native.Nat.{◌-◌, ◌≤◌}
use lib.ListN.{length, take}
use lib.IntN.{pos}
use Rattle.card.specs.Formats.{five_field}
use Rattle.card.specs.Card.{numbers_from, numbers}
use Rattle.card_frequencies.proofs.longitudes.five_card.Given as goal

abbrev pub invariant-loop-k : goal.invariant-loop-k
invariant-loop-k l = (l.k ≤ 5) × (length l.values ≡ 5) × (numbers_from l.line (five_field l.card) (map pos (take l.k l.values)) l.k (5 - l.k) ≡ numbers l.line (five_field l.card) 5)
