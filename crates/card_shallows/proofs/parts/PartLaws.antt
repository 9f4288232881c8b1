-- Laws of a card's parts: one part more or none left, the sizes that a part leaves, and a part stored in the constituent's rows.
-- By the clauses of the definitions, and the laws of coefficients.
use mathlib.Core.Path.{◌≡◌, refl, ap, ◌∙◌}
use mathlib.Core.List.{List, [], ◌∷◌, ◌++◌}
use Prim.Native.Nat.{ℕ, suc, ◌+◌, ◌-◌, ◌≤◌, ◌<◌}
use native.Mathlib.Omega.{arith}
use native.Mathlib.Nat.{zero-add}
use lib.IntN.{ℤ, pos, nat_abs}
use lib.ListN.{length, set}
use lib.Seq.{get_or-set_same, get_or-set_other}
use Rattle.columns.specs.Columns.{columns}
use Rattle.table.specs.Table.{Part}
use Rattle.table.specs.inner.View.{listed, part_of}
use Rattle.table.proofs.Rows.{listed_same, listed-one-more}
use Rattle.limits.specs.Limits.{most_sizes}
use Rattle.refusals.specs.Checked.{good, bad, ◌>>=◌}
use Rattle.card.specs.Formats.{coefficient_field, part_name}
use Rattle.card.specs.Card.{Card, number}
use Rattle.card_shallows.specs.Coefficients.{coefficient, coefficient_in}
use Rattle.card_shallows.specs.Parts.{parts_on}
use Rattle.card.specs.Places.{main_named}
use Rattle.std.specs.Prelude.{Result, Ok}
use Rattle.card.specs.declared.faults.Fault.{Fault}
use Rattle.card.specs.inner.Answers.{card_gives}
use Rattle.card_shallows.specs.declared.parts.PartRead.{PartRead}
use Rattle.card_shallows.specs.inner.Answers.{part_in}
use Rattle.card_shallows.proofs.coefficients.Coefficients.{coefficient-sizes}
use Rattle.card_shallows.specs.Parts as shallows

-- a part is its coefficient, and then its main
pub part-is : (names : List (List ℕ)) (mains : List ℕ) (sizes : ℕ) (line : List ℕ) (j : ℕ)
    → shallows.part names mains sizes line j ≡ (coefficient_in sizes line j >>= λ c. main_named j names mains (columns line (part_name j) 5) >>= λ m. good (record { coefficient = c; main = m }))
unfolding shallows.part
part-is names mains sizes line j = go (number line (coefficient_field j))
  where
    go : (h : Card ℤ)
        → (h >>= λ x. coefficient (coefficient_field j) sizes x >>= λ c. main_named j names mains (columns line (part_name j) 5) >>= λ m. good (record { coefficient = c; main = m }))
        ≡ ◌>>=◌ {B = Part} (h >>= coefficient (coefficient_field j) sizes) (λ c. main_named j names mains (columns line (part_name j) 5) >>= λ m. good (record { coefficient = c; main = m }))
    go (good x) = refl
    go (bad r) = refl

module _ (names : List (List ℕ)) (mains : List ℕ) (line : List ℕ) where
  -- n parts, part j next
  pub parts_more : (left : List Part) (sizes j n : ℕ) → j < n
      → parts_on names mains line left sizes j (n - j)
      ≡ (shallows.part names mains sizes line j >>= λ p. parts_on names mains line (left ++ (p ∷ [])) (sizes + nat_abs p.coefficient) (j + 1) (n - (j + 1)))
  unfolding parts_on
  parts_more left sizes j n h = let e : n - j ≡ suc (n - (j + 1)) = omega arith in rw e

  pub parts_none : (left : List Part) (sizes j n : ℕ) → n ≤ j → parts_on names mains line left sizes j (n - j) ≡ good left
  unfolding parts_on
  parts_none left sizes j n h = let e : n - j ≡ 0 = omega arith in rw e

  -- a part leaves the sizes at 12 or below
  pub part-sizes : (sizes j : ℕ) (p : Part) → good p ≡ shallows.part names mains sizes line j → sizes + nat_abs p.coefficient ≤ most_sizes
  unfolding shallows.part
  part-sizes sizes j p e = from (number line (coefficient_field j)) e
    where
      rest : ℤ → Card Part
      rest c = main_named j names mains (columns line (part_name j) 5) >>= λ m. good (record { coefficient = c; main = m })

      with-main : (c : ℤ) (m : Card ℕ) → good p ≡ (m >>= λ k. good (record { coefficient = c; main = k })) → p.coefficient ≡ c
      with-main c (good k) q = let e : p ≡ record { coefficient = c; main = k } = cc in ap (λ (x : Part). x.coefficient) e
      with-main c (bad r) q = let z : ◌≡◌ {A = ℕ} 0 1 = cc in absurd (omega arith)

      with-coefficient : (h : ℤ) (k : Card ℤ) → coefficient (coefficient_field j) sizes h ≡ k → good p ≡ (k >>= rest) → sizes + nat_abs p.coefficient ≤ most_sizes
      with-coefficient h (good c) k q = rw (with-main c (main_named j names mains (columns line (part_name j) 5)) q) (coefficient-sizes (coefficient_field j) sizes h c k)
      with-coefficient h (bad r) k q = let z : ◌≡◌ {A = ℕ} 0 1 = cc in absurd (omega arith)

      from : (h : Card ℤ) → good p ≡ (h >>= λ x. coefficient (coefficient_field j) sizes x >>= rest) → sizes + nat_abs p.coefficient ≤ most_sizes
      from (good x) q = with-coefficient x (coefficient (coefficient_field j) sizes x) refl q
      from (bad r) q = let z : ◌≡◌ {A = ℕ} 0 1 = cc in absurd (omega arith)

  -- and so does one that the code has read
  pub read-sizes : (sizes j : ℕ) (r : Result PartRead Fault) (p : PartRead) → r ≡ Ok p → card_gives part_in r ≡ shallows.part names mains sizes line j → sizes + nat_abs p.coefficient ≤ most_sizes
  read-sizes sizes j r p told is = part-sizes sizes j (part_in p) (rw told at is)

-- a part stored in the rows is the last of them
pub part-put : (card : List ℕ) (coefficients : List ℤ) (c : ℤ) (m j : ℕ) → 2 + j < length card → j < length coefficients
    → listed (part_of (set card (2 + j) m) (set coefficients j c)) 0 (j + 1) ≡ listed (part_of card coefficients) 0 j ++ (record { coefficient = c; main = m } ∷ [])
unfolding part_of
part-put card coefficients c m j wide long =
    listed-one-more (part_of (set card (2 + j) m) (set coefficients j c)) 0 j
    ∙ rw (
      zero-add j,
      get_or-set_same card (2 + j) m 0 wide,
      get_or-set_same coefficients j c (pos 0) long,
      listed_same (part_of (set card (2 + j) m) (set coefficients j c)) (part_of card coefficients) 0 j
          (λ k a b. rw (get_or-set_other card (2 + j) (2 + k) m 0 (λ e. omega arith), get_or-set_other coefficients j k c (pos 0) (λ e. omega arith))),
    )
