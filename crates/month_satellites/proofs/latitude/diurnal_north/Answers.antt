-- `month_satellites::latitude::diurnal_north` meets its contract. What is multiplied by 36,309 does not pass 2^24 S20, so all fits, and G is within 2^23.
use Prim.Native.Nat.{ℕ, ◌*◌, ◌^◌, ◌≤◌}
use native.Mathlib.Nat.{le_refl, le_trans, mul-le-mul, mul-le-mul_right}
use native.Mathlib.Omega.{arith}
use lib.Dec.{lit≤, lit<}
use lib.IntN.{ℤ, pos, ◌-ℤ◌, ◌*ℤ◌}
use mir.Syntax.{w64}
use mir.Val.{to_z}
use Rattle.angles.proofs.Machine.{held}
use Rattle.angles.proofs.Known.{Known, plainly, cast, bounded, fits, kept, says, minus, times}
use Rattle.month_satellites.specs.Latitude.{diurnal_north}
use Rattle.month_satellites.specs.inner.Factors.{IsS20}
use Rattle.month_satellites.proofs.latitude.Sizes.{floored, apart-size}
use Rattle.month_satellites.proofs.latitude.diurnal_north.Goals as goal

module _ (s : ℕ) (h : IsS20 s) where
  square-small : s * s ≤ 2 ^ 40
  square-small = le_trans (mul-le-mul {n₂ = 2 ^ 20} {m₂ = 2 ^ 20} h.high h.high) (lit≤ tt)

  abbrev rest : ℤ
  rest = pos (2 ^ 40) -ℤ pos (5 * (s * s))

  -- neither 2^40 nor 5 S20² passes 2^24 S20
  the_rest : Known (pos (2 ^ 40) -ℤ to_z w64 (5 * (s * s))) rest (2 ^ 24 * s)
  the_rest =
      bounded (minus (plainly (pos (2 ^ 40)) {A = 2 ^ 40} (le_refl (2 ^ 40))) (cast (5 * (s * s)) {A = 5 * 2 ^ 40} (omega (arith, square-small)) (lit< tt)))
      (apart-size (2 ^ 40) (5 * (s * s)) (2 ^ 24 * s) (omega (arith, h.low)) (omega (arith, mul-le-mul_right s h.high)))

  above : Known (pos 36309 *ℤ held (pos (2 ^ 40) -ℤ to_z w64 (5 * (s * s)))) (pos 36309 *ℤ rest) (36309 * (2 ^ 24 * s))
  above = times (plainly (pos 36309) {A = 36309} (le_refl 36309)) (kept the_rest (omega (arith, h.high)))

pub overflow_mul-square : goal.overflow_mul-square
overflow_mul-square c =
    record { fits = omega (arith, square-small c.args.s c.requires) }

pub overflow_mul-square-2 : goal.overflow_mul-square-2
overflow_mul-square-2 c =
    record { fits = omega (arith, square-small c.args.s c.requires) }

pub overflow_cast-rest : goal.overflow_cast-rest
overflow_cast-rest c =
    record { sfits = omega (arith, square-small c.args.s c.requires) }

pub overflow_sub-rest : goal.overflow_sub-rest
overflow_sub-rest c =
    fits (the_rest c.args.s c.requires) (omega (arith, c.requires.high))

pub overflow_mul-rest : goal.overflow_mul-rest
overflow_mul-rest c =
    fits (above c.args.s c.requires) (omega (arith, c.requires.high))

pub returns : goal.returns
unfolding diurnal_north
returns c =
    let g = floored (2 ^ 23) (100000 * c.args.s) c.floor_div.ensures (kept (above c.args.s c.requires) (omega (arith, c.requires.high))) (omega (arith, c.requires.low)) (omega arith) in record {
      value = (says (kept g (lit< tt))).0;
      result_bound = (says (kept g (lit< tt))).1;
    }
