-- Only inner contracts cite this: the first row with each place, and what is found by it.
use Rattle.std.specs.Prelude.{Option, Some, None, ℕ, zero, suc, ◌<◌, ◌≡◌, cond, List, eqb, ltb, get_or}
use Rattle.limits.specs.Limits.{places_in_a_byte}
use Rattle.table.specs.inner.View.{naturals}
use Rattle.table.specs.declared.definitions.Defined.{Defined}
use Rattle.table.specs.declared.definitions.Defined.TheVariants.{Main, Shallow}

-- the place in a row of cards of some width
abbrev pub place_in : ℕ → List ℕ → ℕ → ℕ
place_in width cards k = get_or (naturals width cards k) 0 0

-- the first of n rows from k on whose place this is, or the row after them
unfoldable pub first_row : (ℕ → ℕ) → ℕ → ℕ → ℕ → ℕ
first_row place_of place k zero = k
first_row place_of place k (suc n) = cond (eqb (place_of k) place) k (first_row place_of place (suc k) n)

-- for each place the first of so many rows that has it, or their number
pub record FirstRows (place_of : ℕ → ℕ) (rows : ℕ) (first : List ℕ) : Type 0 where
  pub each : (place : ℕ) → place < places_in_a_byte → get_or first place 0 ≡ first_row place_of place 0 rows

-- the first main's row, if it is one of so many, or else the first shallow constituent's, or nothing
abbrev pub found_by : ℕ → ℕ → ℕ → ℕ → Option Defined
found_by main mains shallow shallows = cond (ltb main mains) (Some (Main main)) (cond (ltb shallow shallows) (Some (Shallow shallow)) None)
