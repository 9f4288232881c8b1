-- `month_pairs::nodal::times_row_part` meets its contract: the main and the coefficient that part j's columns name.
use mathlib.Core.Path.{◌≡◌, ◌∙◌}
use mathlib.Core.List.{List}
use Prim.Native.Nat.{ℕ, ◌+◌}
use lib.IntN.{ℤ, pos}
use lib.ListN.{get_or}
use mir.Syntax.{w8}
use mir.Val.{SFits}
use mir.ValLaws.{to_z-of_z}
use Rattle.table.specs.inner.View.{naturals, integers, part_of}
use Rattle.month_satellites.specs.Satellites.{Pair}
use Rattle.month_satellites.specs.inner.View.{pair_of}
use Rattle.refusals.specs.Checked.{good}
use Rattle.month_pairs.specs.Pairs.{Corrected, start_pair, times_main}
use Rattle.month_pairs.specs.Shallow.{times_part}
use Rattle.month_pairs.specs.inner.Rows.{pairs_of}
use borrow.Author.Rules.{rules}
use Rattle.month_pairs.proofs.nodal.times_row_part.Goals as goal

-- the multiplication by the main and the coefficient of part j is that by part j
part-is : (mains : List Corrected) (P : Pair) (c m : Corrected) (z : ℤ) (i : ℕ) (card : List ℕ) (numbers : List ℤ) (j : ℕ)
    → c ≡ times_main P m z → m ≡ get_or mains i (good start_pair) → i ≡ get_or card (2 + j) 0 → z ≡ get_or numbers j (pos 0)
    → c ≡ times_part mains P (part_of card numbers j)
unfolding times_part part_of
part-is mains P c m z i card numbers j ec em ei ez = rw (ec, em, ei, ez)

pub returns : goal.returns
returns c =
    let f : SFits w8 c.entry_at-2.result.now = search rules in record {
      result_value = part-is (pairs_of c.args.kept.now) (pair_of c.args.p) _ _ _ c.entry_at.result.now (naturals 6 c.args.table.now.shallowcards c.args.k) (integers 4 c.args.table.now.coefficients c.args.k) c.args.j
          c.times_part.ensures.result_value c.pair_at.ensures.result_value c.entry_at.ensures (to_z-of_z w8 c.entry_at-2.result.now f ∙ c.entry_at-2.ensures);
      small = c.times_part.ensures.small_2;
    }
