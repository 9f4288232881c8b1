-- `month_satellites::satellites::marked_term` meets its contract: by the byte of the mark.
use mathlib.Core.Path.{◌≡◌, ◌∙◌, ap₂}
use Prim.Native.Nat.{◌^◌, ◌≤◌}
use native.Mathlib.Nat.{le_trans}
use borrow.Author.Tests.{ne_eqb}
use lib.Dec.{lit≤, lit<}
use lib.IntN.{ℤ, nat_abs}
use Rattle.angles.proofs.Machine.{held}
use Rattle.angles.proofs.Known.{read, bounded, says}
use Rattle.table.specs.Table.{mark_of}
use Rattle.month_satellites.specs.Satellites.{times_factor, marked_term}
use Rattle.month_satellites.proofs.latitude.Sizes.{named}
use Rattle.month_satellites.proofs.satellites.marked_term.Goals as goal

-- a term that was handed over with its factor
handed : (r term g : ℤ) → nat_abs term ≤ 2 ^ 39 → nat_abs g ≤ 2 ^ 23 → (r ≡ times_factor (held term) (held g)) × (nat_abs r ≤ 2 ^ 42)
    → (held r ≡ times_factor term g) × (nat_abs (held r) ≤ 2 ^ 42)
handed r term g h k e = says (named (read r e.1 (lit< tt)) (e.0 ∙ ap₂ times_factor (read term h (lit< tt)).is (read g k (lit< tt)).is))

pub returns-then-mark : goal.returns-then-mark
unfolding marked_term mark_of
returns-then-mark c =
    let h = handed c.times_factor.result c.args.term c.args.g.diurnal c.requires.term_bound c.requires.are_factors.diurnal (c.times_factor.ensures.value, c.times_factor.ensures.result_bound) in record {
      value = rw c.if-mark.true h.0;
      result_bound = h.1;
    }

pub returns-then-mark-2 : goal.returns-then-mark-2
unfolding marked_term mark_of
returns-then-mark-2 c =
    let h = handed c.times_factor-then-mark-2.result c.args.term c.args.g.semidiurnal c.requires.term_bound c.requires.are_factors.semidiurnal (c.times_factor-then-mark-2.ensures.value, c.times_factor-then-mark-2.ensures.result_bound) in record {
      value = rw c.if-mark-2.true h.0;
      result_bound = h.1;
    }

pub returns : goal.returns
unfolding marked_term mark_of
returns c =
    let h = says (bounded (read c.args.term c.requires.term_bound (lit< tt)) (le_trans c.requires.term_bound (lit≤ tt))) in record {
      value = simp (ne_eqb c.args.mark 49 c.if-mark.false, ne_eqb c.args.mark 50 c.if-mark-2.false) h.0;
      result_bound = h.1;
    }
