-- `month_pairs::pairs::times_part` meets its contract: the part's pair, turned, as often as the coefficient's size.
use mathlib.Core.Path.{sym, ◌∙◌, ap, ap₂, subst}
use borrow.Author.Rules.{rules}
use Prim.Native.Nat.{ℕ, ◌^◌, ◌≤◌}
use lib.Dec.{lit<}
use lib.IntN.{ℤ, nat_abs}
use mir.Syntax.{w8}
use mir.ValLaws.{to_z-of_z}
use Rattle.month_satellites.specs.Satellites.{Pair}
use Rattle.month_pairs.specs.Pairs.{times_often, turned, times_main}
use Rattle.month_pairs.specs.inner.Ranges.{Small}
use Rattle.month_satellites.specs.inner.View.{pair_of}
use Rattle.month_pairs.specs.inner.Corrected.{corrected_of}
use Rattle.month_satellites.proofs.latitude.Sizes.{size-widened}
use Rattle.month_pairs.proofs.pairs.times_part.Goals as goal

pub turn-requires : goal.turn-requires
turn-requires c =
    subst Small c.in-Some.is c.requires.small

pub returns-in-None : goal.returns-in-None
returns-in-None c =
    record {
      result_value = sym (ap (λ m. times_main (pair_of c.args.p) (corrected_of m) c.args.coefficient) c.in-None.is);
      small_2 = tt;
    }

pub returns-in-Some : goal.returns-in-Some
returns-in-Some c =
    let P = pair_of c.args.p in
    let here = to_z-of_z w8 c.args.coefficient c.ranges.coefficient in
    let h : nat_abs c.args.coefficient ≤ 2 ^ 7 = search rules in
    let often = size-widened w8 c.args.coefficient c.size.result (lit< tt) c.ranges.coefficient h c.size.ensures in
    let by = c.turn.ensures.result_value ∙ ap (λ (z : ℤ). turned z (pair_of c.in-Some.q)) here in record {
      result_value = c.times_often.ensures.result_value ∙ ap₂ (λ (k : ℕ) (p : Pair). times_often k P p) often by
          ∙ sym (ap (λ m. times_main P (corrected_of m) c.args.coefficient) c.in-Some.is);
      small_2 = c.times_often.ensures.small;
    }
