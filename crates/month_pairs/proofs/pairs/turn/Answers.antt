-- `month_pairs::pairs::turn` meets its contract: by the coefficient's sign.
use mathlib.Core.Path.{◌≡◌, refl, ◌∙◌, ap₂}
use mathlib.Core.Bool.{true, false}
use lib.IntN.{ℤ, pos, neg_ℤ}
use lib.Signed.{lt_z}
use lib.Dec.{lit<}
use mir.Syntax.{w8}
use mir.ValLaws.{to_z-of_z}
use Rattle.angles.proofs.Machine.{if-negative, if-not-negative}
use Rattle.angles.proofs.Known.{read, fits, kept, says, negated}
use Rattle.month_satellites.specs.Satellites.{Pair}
use Rattle.month_pairs.specs.Pairs.{turned}
use Rattle.month_satellites.specs.inner.View.{pair_of}
use Rattle.month_pairs.proofs.pairs.turn.Goals as goal

turned_down_lem : (p : Pair) (n : ℤ) → lt_z n (pos 0) ≡ true → record { x = p.x; y = neg_ℤ p.y } ≡ turned n p
unfolding turned
turned_down_lem p = if-negative (λ n. record { x = p.x; y = neg_ℤ p.y } ≡ turned n p) (λ k. refl)

as-it-is : (p : Pair) (n : ℤ) → lt_z n (pos 0) ≡ false → p ≡ turned n p
unfolding turned
as-it-is p = if-not-negative (λ n. p ≡ turned n p) (λ k. refl)

pair-as : {x y u v : ℤ} → x ≡ u → y ≡ v → ◌≡◌ {A = Pair} (record { x = x; y = y }) (record { x = u; y = v })
pair-as e d = ap₂ (λ (m n : ℤ). record { x = m; y = n }) e d

pub overflow_sub-result : goal.overflow_sub-result
overflow_sub-result c =
    fits (negated (read c.args.p.y c.requires.y (lit< tt))) (lit< tt)

pub returns-then-coefficient-lt0 : goal.returns-then-coefficient-lt0
returns-then-coefficient-lt0 c =
    let x = says (read c.args.p.x c.requires.x (lit< tt)) in
    let y = says (kept (negated (read c.args.p.y c.requires.y (lit< tt))) (lit< tt)) in record {
      result_value = pair-as x.0 y.0 ∙ turned_down_lem (pair_of c.args.p) c.args.coefficient (rw (to_z-of_z w8 c.args.coefficient c.ranges.coefficient) at c.if-coefficient-lt0.true);
      sized = record { x = x.1; y = y.1 };
    }

pub returns : goal.returns
returns c =
    record {
      result_value = as-it-is (pair_of c.args.p) c.args.coefficient (rw (to_z-of_z w8 c.args.coefficient c.ranges.coefficient) at c.if-coefficient-lt0.false);
      sized = c.requires;
    }
