-- 01, The card file, part 3: main constituents and their satellites.
use Rattle.std.specs.Prelude.{ℕ, ◌+◌, ◌-◌, List, [], ◌∷◌, ◌++◌, cond, leb, eqb}
use Rattle.limits.specs.Limits.{satellites_a_card}
use Rattle.table.specs.Table.{Main}
use Rattle.card.specs.declared.faults.What.TheVariants.{File}
use Rattle.card.specs.declared.faults.Trouble.TheVariants.{EndedInMains}
use Rattle.card.specs.Faults.{only}
use Rattle.card.specs.Card.{Reading, given, refused, onward, onward_or_end}
use Rattle.card_mains.specs.Mains.{main_places, satellites_in, next_main}
use Rattle.card_constituents.specs.Satellites.{with_card}

-- "A constituent card leads to its satellite cards, and the last of these leads to the next constituent card."
-- Line n is the next; before it stand `mains`; `m` is a main of whose satellites `count` are still to come. "7 file ends inside a part".
unfoldable mutual
  pub mains_from : List (List ℕ) → List (List ℕ) → ℕ → List Main → Reading (List Main)
  mains_from names [] n mains = refused (only File EndedInMains) n
  mains_from names (line ∷ lines) n mains =
      onward_or_end (next_main names (main_places mains) (satellites_in mains) line) n (given mains lines (n + 1))
      (λ c. cond (eqb c.count 0)
      (mains_from names lines (n + 1) (mains ++ (c.main ∷ [])))
      (satellites_from names lines (n + 1) mains c.main c.count))

  pub satellites_from : List (List ℕ) → List (List ℕ) → ℕ → List Main → Main → ℕ → Reading (List Main)
  satellites_from names [] n mains m count = refused (only File EndedInMains) n
  satellites_from names (line ∷ lines) n mains m count =
      onward (with_card m count line) n
      (λ more. cond (leb count satellites_a_card)
      (mains_from names lines (n + 1) (mains ++ (more ∷ [])))
      (satellites_from names lines (n + 1) mains more (count - satellites_a_card)))
