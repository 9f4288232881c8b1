-- `month::weight_of` meets its contract: the product fits 64 bits, and its floor, at most 2^30 in size, fits 32.
use mathlib.Core.Path.{◌≡◌, sym, ◌∙◌, ap, subst}
use Prim.Native.Nat.{ℕ, ◌*◌, ◌^◌, ◌≤◌}
use native.Mathlib.Nat.{lt_of_le_of_lt, le_trans}
use native.Mathlib.Omega.{arith}
use lib.Dec.{lit<, lit≤}
use lib.IntN.{ℤ, nat_abs, pos, ◌*ℤ◌}
use mir.Syntax.{w64, w32}
use mir.Val.{SFits, to_z, of_z}
use mir.ValLaws.{to_z-of_z}
use Rattle.angles.specs.Floor.{floor_div}
use Rattle.angles.proofs.Floors.{floor-size}
use Rattle.angles.proofs.Ints.{mag-nat_abs}
use Rattle.angles.proofs.Machine.{through, fits_below}
use Rattle.angles.proofs.Known.{Known, read, cast, fits, kept, times}
use Rattle.month.specs.Month.{weight}
use Rattle.month.proofs.weight_of.Goals as goal

module _ (m : ℕ) (x : ℤ) (most : m ≤ 65535) (within : nat_abs x ≤ 2 ^ 22) where
  product : Known (to_z w64 m *ℤ to_z w64 (of_z w64 x)) (pos m *ℤ x) (65535 * 2 ^ 22)
  product = times (cast m most (lit< tt)) (read x within (lit< tt))

  size : nat_abs (weight m x) ≤ 2 ^ 30
  unfolding weight
  size = floor-size 256 (lit< tt) (pos m *ℤ x) (2 ^ 30) (le_trans product.size (lit≤ tt))

  fits-32 : SFits w32 (weight m x)
  fits-32 = record { sfits = lt_of_le_of_lt (mag-nat_abs (weight m x)) (omega (arith, size)) }

  -- the quotient, read back
  quotient : (q : ℤ) → q ≡ floor_div (to_z w64 (of_z w64 (to_z w64 m *ℤ to_z w64 (of_z w64 x)))) 256 → to_z w64 (of_z w64 q) ≡ weight m x
  unfolding weight
  quotient q e = through (e ∙ ap (λ (z : ℤ). floor_div z 256) (kept product (lit< tt)).is) (fits_below (weight m x) (omega (arith, size)))

pub overflow_mul-amplitude : goal.overflow_mul-amplitude
overflow_mul-amplitude c =
    fits (product c.args.amplitude c.args.x (omega arith) c.requires) (lit< tt)

pub overflow_cast-result : goal.overflow_cast-result
overflow_cast-result c =
    let most : c.args.amplitude ≤ 65535 = omega arith in
    subst (SFits w32) (sym (quotient c.args.amplitude c.args.x most c.requires c.floor_div.result c.floor_div.ensures))
    (fits-32 c.args.amplitude c.args.x most c.requires)

pub returns : goal.returns
returns c =
    let most : c.args.amplitude ≤ 65535 = omega arith in
    rw (quotient c.args.amplitude c.args.x most c.requires c.floor_div.result c.floor_div.ensures)
    (to_z-of_z w32 (weight c.args.amplitude c.args.x) (fits-32 c.args.amplitude c.args.x most c.requires))
