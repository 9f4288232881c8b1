-- The multiplications by part after part: what is left of them after each. By the definition's own clauses.
use mathlib.Core.Path.{◌≡◌}
use mathlib.Core.List.{List}
use Prim.Native.Nat.{ℕ, ◌+◌, ◌-◌, ◌≤◌, ◌<◌}
use Rattle.table.specs.Table.{Part}
use Rattle.table.specs.inner.View.{listed}
use Rattle.table.proofs.Rows.{listed_next, listed-end}
use Rattle.month_satellites.specs.Satellites.{Pair}
use Rattle.refusals.specs.Checked.{good, ◌>>=◌}
use Rattle.month_pairs.specs.Pairs.{Corrected}
use Rattle.month_pairs.specs.Shallow.{times_part, times_parts}

-- by part after part
module _ (mains : List Corrected) (part : ℕ → Part) where
  pub parts_next : (j n : ℕ) (P : Pair) (c : Corrected) → j < n → c ≡ times_part mains P (part j)
      → c >>= (λ Q. times_parts mains Q (listed part (j + 1) (n - (j + 1)))) ≡ times_parts mains P (listed part j (n - j))
  unfolding times_parts
  parts_next j n P c h e = rw (e, listed_next part j n h)

  pub parts_none : (j n : ℕ) (P : Pair) → n ≤ j → good P ≡ times_parts mains P (listed part j (n - j))
  unfolding times_parts
  parts_none j n P h = rw (listed-end part j n h)
