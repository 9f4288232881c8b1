-- `month_pairs::pairs::multiplied` meets its contract: X and Y by `new_x` and `new_y`, each from the old pair.
use mathlib.Core.Path.{◌≡◌, ◌∙◌, ap₂}
use Prim.Native.Nat.{◌^◌, ◌≤◌}
use lib.IntN.{ℤ, nat_abs, ◌+ℤ◌, ◌-ℤ◌, ◌*ℤ◌}
use lib.Dec.{lit<}
use Rattle.angles.specs.Floor.{floor_div}
use Rattle.angles.proofs.Machine.{held}
use Rattle.angles.proofs.Known.{read, says}
use Rattle.month_pairs.specs.Pairs.{times_pair}
use Rattle.month_satellites.proofs.latitude.Sizes.{named}
use Rattle.month_pairs.proofs.pairs.multiplied.Goals as goal

-- a number that a function of the two pairs gave, in a register
given : (f : ℤ → ℤ → ℤ → ℤ → ℤ) (a b x y r : ℤ) → nat_abs a ≤ 2 ^ 22 → nat_abs b ≤ 2 ^ 22 → nat_abs x ≤ 2 ^ 22 → nat_abs y ≤ 2 ^ 22
    → (r ≡ f (held a) (held b) (held x) (held y)) × (nat_abs r ≤ 2 ^ 60) → (held r ≡ f a b x y) × (nat_abs (held r) ≤ 2 ^ 60)
given f a b x y r ha hb hx hy e =
    let back : (z : ℤ) → nat_abs z ≤ 2 ^ 22 → held z ≡ z = λ z h. (read z h (lit< tt)).is in
    says (named (read r e.1 (lit< tt)) (e.0 ∙ (ap₂ (λ (m n : ℤ). f m n (held x) (held y)) (back a ha) (back b hb) ∙ ap₂ (λ (m n : ℤ). f a b m n) (back x hx) (back y hy))))

pub returns : goal.returns
unfolding times_pair
returns c =
    let x = given (λ a b x y. floor_div (a *ℤ x -ℤ b *ℤ y) (2 ^ 20)) c.args.p.x c.args.p.y c.args.by.x c.args.by.y c.new_x-x.result c.requires.sized.x c.requires.sized.y c.requires.sized_2.x c.requires.sized_2.y (c.new_x-x.ensures.value, c.new_x-x.ensures.result_bound) in
    let y = given (λ a b x y. floor_div (a *ℤ y +ℤ b *ℤ x) (2 ^ 20)) c.args.p.x c.args.p.y c.args.by.x c.args.by.y c.new_y-y.result c.requires.sized.x c.requires.sized.y c.requires.sized_2.x c.requires.sized_2.y (c.new_y-y.ensures.value, c.new_y-y.ensures.result_bound) in record {
      result_value = rw (x.0, y.0);
      sized_3 = record { x = x.1; y = y.1 };
    }
