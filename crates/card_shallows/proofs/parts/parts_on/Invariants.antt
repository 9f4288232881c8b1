use mathlib.Core.Path.{◌≡◌}
use mathlib.Core.List.{[]}
use Prim.Native.Nat.{◌-◌, ◌≤◌}
use lib.ListN.{length, get_or}
use Rattle.columns.specs.Names.{names_from}
use Rattle.table.specs.inner.View.{listed, part_of}
use Rattle.limits.specs.Limits.{most_sizes}
use Rattle.card_shallows.specs.Parts.{parts_on}
use Rattle.card.specs.inner.Places.{places_in}
use Rattle.card_shallows.proofs.parts.parts_on.Given as goal

abbrev pub invariant-loop-j : goal.invariant-loop-j
invariant-loop-j l = (l.j ≤ l.count) × (l.sizes ≤ most_sizes) × (length l.card ≡ 6) × (length l.coefficients ≡ 4) × (get_or l.card 0 0 ≡ l.place) × (get_or l.card 1 0 ≡ l.count)
    × (parts_on (names_from l.table.names 0 l.table.frequencies) (places_in 3 l.table.maincards l.table.mains) l.line (listed (part_of l.card l.coefficients) 0 l.j) l.sizes l.j (l.count - l.j) ≡ parts_on (names_from l.table.names 0 l.table.frequencies) (places_in 3 l.table.maincards l.table.mains) l.line [] 0 0 l.count)
