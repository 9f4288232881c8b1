-- 01, The card file, part 4: shallow-water constituents.
use Rattle.std.specs.Prelude.{ℕ, ◌+◌, List, [], ◌∷◌, ◌++◌, map}
use Rattle.table.specs.Table.{Shallow}
use Rattle.card.specs.declared.faults.Trouble.TheVariants.{EndedInShallows}
use Rattle.card.specs.Card.{Reading, given, ended, onward_or_end}
use Rattle.card_shallows.specs.Shallow.{next_shallow}

-- the places that shallow constituents define
abbrev pub shallow_places : List Shallow → List ℕ
shallow_places = map (λ s. s.place)

-- the cards from line n on, after those before it
unfoldable pub shallows_from : List (List ℕ) → List ℕ → List (List ℕ) → ℕ → List Shallow → Reading (List Shallow)
shallows_from names mains [] n before = ended EndedInShallows n
shallows_from names mains (line ∷ lines) n before =
    onward_or_end (next_shallow names mains (shallow_places before) line) n (given before lines (n + 1))
    (λ s. shallows_from names mains lines (n + 1) (before ++ (s ∷ [])))
