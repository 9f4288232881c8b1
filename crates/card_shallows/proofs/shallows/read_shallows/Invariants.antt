use mathlib.Core.Path.{◌≡◌}
use mathlib.Core.List.{[]}
use Prim.Native.Nat.{◌-◌, ◌*◌, ◌≤◌}
use lib.ListN.{length, drop}
use Rattle.columns.specs.Lines.{lines_of}
use Rattle.columns.specs.Names.{names_from}
use Rattle.limits.specs.Limits.{most_shallows}
use Rattle.card.specs.inner.Lines.{WithinFile}
use Rattle.card.specs.inner.Places.{places_in}
use Rattle.card_shallows.specs.Shallows.{shallows_from}
use Rattle.card_shallows.specs.inner.Answers.{shallows_in}
use Rattle.card_shallows.proofs.shallows.read_shallows.Given as goal

abbrev pub invariant-loop-read : goal.invariant-loop-read
invariant-loop-read l = WithinFile l.file l.read.reached × (l.read.count ≤ most_shallows) × (length l.read.cards ≡ 6 * most_shallows) × (length l.read.coefficients ≡ 4 * most_shallows)
    × (shallows_from (names_from l.table.names 0 l.table.frequencies) (places_in 3 l.table.maincards l.table.mains) (lines_of (drop l.read.reached.at l.file)) l.read.reached.line (shallows_in l.read)
    ≡ shallows_from (names_from l.table.names 0 l.table.frequencies) (places_in 3 l.table.maincards l.table.mains) (lines_of (drop l.fn.from.at l.file)) l.fn.from.line [])

abbrev pub decreases-loop-read : goal.decreases-loop-read
decreases-loop-read l = length l.file - l.read.reached.at
