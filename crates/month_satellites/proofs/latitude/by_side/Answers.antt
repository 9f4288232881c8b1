-- `month_satellites::latitude::by_side` meets its contract: below zero the factor is taken from 0.
use mathlib.Core.Path.{◌≡◌, refl}
use mathlib.Core.Bool.{true, false}
use lib.IntN.{ℤ, pos, neg_ℤ}
use lib.Signed.{lt_z}
use lib.Dec.{lit<}
use mir.Syntax.{w32}
use mir.ValLaws.{to_z-of_z}
use Rattle.angles.proofs.Machine.{if-negative, if-not-negative}
use Rattle.angles.proofs.Known.{read, fits, kept, says, negated}
use Rattle.month_satellites.specs.Latitude.{by_side}
use Rattle.month_satellites.proofs.latitude.Sizes.{named}
use Rattle.month_satellites.proofs.latitude.by_side.Goals as goal

south : (g l : ℤ) → lt_z l (pos 0) ≡ true → neg_ℤ g ≡ by_side l g
unfolding by_side
south g = if-negative (λ l. neg_ℤ g ≡ by_side l g) (λ k. refl)

north : (g l : ℤ) → lt_z l (pos 0) ≡ false → g ≡ by_side l g
unfolding by_side
north g = if-not-negative (λ l. g ≡ by_side l g) (λ k. refl)

pub overflow_sub-result : goal.overflow_sub-result
overflow_sub-result c =
    fits (negated (read c.args.g c.requires (lit< tt))) (lit< tt)

pub returns-then-latitude-lt0 : goal.returns-then-latitude-lt0
returns-then-latitude-lt0 c =
    record {
      value = (says (named (kept (negated (read c.args.g c.requires (lit< tt))) (lit< tt)) (south c.args.g c.args.latitude (rw (to_z-of_z w32 c.args.latitude c.ranges.latitude) at c.if-latitude-lt0.true)))).0;
      result_bound = (says (named (kept (negated (read c.args.g c.requires (lit< tt))) (lit< tt)) (south c.args.g c.args.latitude (rw (to_z-of_z w32 c.args.latitude c.ranges.latitude) at c.if-latitude-lt0.true)))).1;
    }

pub returns : goal.returns
returns c =
    record {
      value = (says (named (read c.args.g c.requires (lit< tt)) (north c.args.g c.args.latitude (rw (to_z-of_z w32 c.args.latitude c.ranges.latitude) at c.if-latitude-lt0.false)))).0;
      result_bound = (says (named (read c.args.g c.requires (lit< tt)) (north c.args.g c.args.latitude (rw (to_z-of_z w32 c.args.latitude c.ranges.latitude) at c.if-latitude-lt0.false)))).1;
    }
