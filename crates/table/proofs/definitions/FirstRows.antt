-- The first rows of all places, with one row more in front of them. From the laws of stores in lists.
use mathlib.Core.Path.{◌≡◌, refl, sym, subst, ◌∙◌}
use mathlib.Core.Bool.{Bool, true, false}
use mathlib.Core.List.{List}
use Prim.Native.Nat.{ℕ, ◌+◌, ◌-◌, ◌≤◌, ◌<◌}
use native.Mathlib.Omega.{arith}
use borrow.Author.Tests.{eqb-true, eqb-false, ne_eqb}
use lib.Dec.{eqb}
use lib.ListN.{length, get_or, set, replicate, get_or-replicate}
use lib.Seq.{get_or-set_same, get_or-set_other}
use Rattle.table.specs.inner.Found.{first_row}
use Rattle.table.proofs.definitions.Search.{first_more, first-none}

module _ (f : ℕ → ℕ) (rows : ℕ) where
  -- for each place the first row from k on that has it, or the number of all
  abbrev pub From : ℕ → List ℕ → Type 0
  From k first = (place : ℕ) → place < 256 → get_or first place 0 ≡ first_row f place k (rows - k)

  pub from-none : From rows (replicate 256 rows)
  from-none place h = get_or-replicate 256 place rows 0 h ∙ sym (first-none f place rows rows (omega arith))

  module _ (first : List ℕ) (k : ℕ) (more : k < rows) (rest : From (k + 1) first) where
    pub row-set : length first ≡ 256 → f k < 256 → From k (set first (f k) k)
    row-set l low place h = by (eqb (f k) place) refl
      where
        by : (t : Bool) → eqb (f k) place ≡ t → get_or (set first (f k) k) place 0 ≡ first_row f place k (rows - k)
        by true e =
            rw (first_more f place k rows more, e)
            (subst (λ (p : ℕ). get_or (set first (f k) k) p 0 ≡ k) (eqb-true (f k) place e) (get_or-set_same first (f k) k 0 (omega (arith, low, l))))
        by false e =
            rw (first_more f place k rows more, e)
            (get_or-set_other first (f k) place k 0 (λ i. eqb-false (f k) place e (sym i)) ∙ rest place h)

    pub row-past : 256 ≤ f k → From k first
    row-past high place h = rw (first_more f place k rows more, ne_eqb (f k) place (λ e. omega (arith, e, high, h))) (rest place h)
