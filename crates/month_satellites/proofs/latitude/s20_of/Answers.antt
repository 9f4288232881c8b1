-- `month_satellites::latitude::s20_of` meets its contract. From 5 to 90 degrees the fixed sine is from 2^26 to 2^30 (`Sine`).
use mathlib.Core.Path.{◌≡◌, sym, ◌∙◌, ap}
use Prim.Native.Nat.{ℕ, ◌-◌, ◌*◌, ◌/◌, ◌^◌, ◌≤◌}
use native.Mathlib.Omega.{arith}
use native.Mathlib.Nat.{le_refl}
use lib.IntN.{ℤ, pos, nat_abs}
use lib.Dec.{lit<}
use mir.Syntax.{w32}
use mir.Val.{to_z, of_z}
use mir.ValLaws.{to_z-of_z}
use Rattle.angles.specs.Ticks.{arc_minute}
use Rattle.angles.specs.Floor.{floor_div}
use Rattle.angles.proofs.Machine.{held}
use Rattle.angles.proofs.Known.{Known, read, kept, says}
use Rattle.cosine.specs.Fraction.{quarter}
use Rattle.cosine.specs.Fixed.{step, fixed_sine}
use Rattle.cosine.proofs.Natural.{fixed_base_ℕ}
use Rattle.month_satellites.specs.Latitude.{latitude_size, s20}
use Rattle.month_satellites.specs.inner.Factors.{IsS20}
use Rattle.month_satellites.proofs.latitude.Sine.{sine-first, sine-above}
use Rattle.month_satellites.proofs.latitude.Sizes.{floored}
use Rattle.month_satellites.proofs.latitude.s20_of.Goals as goal

size-range : (l : ℤ) → (300 ≤ latitude_size l) × (latitude_size l ≤ 5400)
unfolding latitude_size
size-range l = omega arith

-- the sine over 2^10, in a register
over : (sine q : ℤ) → nat_abs sine ≤ 2 ^ 30 → q ≡ floor_div (held sine) 1024 → Known (held q) (floor_div sine 1024) (2 ^ 20)
over sine q h e = kept (floored (2 ^ 20) 1024 e (read sine h (lit< tt)) (lit< tt) (le_refl (2 ^ 30))) (lit< tt)

module _ (l : ℤ) (sine q : ℤ) (m r : ℕ) (em : m ≡ latitude_size l) (es : sine ≡ fixed_sine (m * arc_minute)) (hs : nat_abs sine ≤ 2 ^ 30)
    (eq : q ≡ floor_div (held sine) 1024) (er : r ≡ nat_abs (held q)) where
  m-range : (300 ≤ m) × (m ≤ 5400)
  m-range = rw em (size-range l)

  sine-is : fixed_sine (m * arc_minute) ≡ pos (fixed_base_ℕ step (quarter - m * arc_minute))
  sine-is = sine-first (m * arc_minute) (omega (arith, m-range)) (omega (arith, m-range))

  in_table : r ≡ fixed_base_ℕ step (quarter - m * arc_minute) / 1024
  in_table = er ∙ ap nat_abs ((over sine q hs eq).is ∙ ap (λ (z : ℤ). floor_div z 1024) (es ∙ sine-is))

  result-is : pos r ≡ s20 l
  unfolding s20
  result-is = ap pos in_table ∙ ap (λ (z : ℤ). floor_div z 1024) (sym sine-is ∙ ap (λ (k : ℕ). fixed_sine (k * arc_minute)) em)

  in-range : IsS20 r
  in-range =
      record {
        low = omega (arith, in_table, sine-above (m * arc_minute) (omega (arith, m-range)) (omega (arith, m-range)));
        high = omega (arith, er, (says (over sine q hs eq)).1);
      }

pub overflow_mul-minutes : goal.overflow_mul-minutes
overflow_mul-minutes c =
    record { fits = omega (arith, c.minutes.ensures, size-range (to_z w32 (of_z w32 c.args.latitude))) }

pub returns : goal.returns
returns c =
    let l = to_z w32 (of_z w32 c.args.latitude) in record {
      result_value = result-is l c.wave-w.result.sine c.floor_div.result c.minutes.result c.size.result c.minutes.ensures c.wave-w.ensures.sine_value c.wave-w.ensures.cosine_bound.1 c.floor_div.ensures c.size.ensures
          ∙ ap s20 (to_z-of_z w32 c.args.latitude c.ranges.latitude);
      s20 = in-range l c.wave-w.result.sine c.floor_div.result c.minutes.result c.size.result c.minutes.ensures c.wave-w.ensures.sine_value c.wave-w.ensures.cosine_bound.1 c.floor_div.ensures c.size.ensures;
    }
