-- `month_satellites::latitude::latitude_factors` meets its contract: both factors are what `by_side` makes of the factors in the north.
use mathlib.Core.Path.{◌≡◌, ◌∙◌, ap, ap₂}
use Prim.Native.Nat.{ℕ, ◌^◌, ◌≤◌}
use lib.IntN.{ℤ, pos, nat_abs}
use lib.Dec.{lit<}
use mir.Syntax.{w32}
use mir.Val.{SFits, to_z, of_z}
use mir.ValLaws.{to_z-of_z}
use Rattle.angles.proofs.Machine.{held}
use Rattle.angles.proofs.Known.{read, says}
use Rattle.month_satellites.specs.Latitude.{by_side, s20, diurnal_north, semidiurnal_north, diurnal_factor, semidiurnal_factor}
use Rattle.month_satellites.proofs.latitude.Sizes.{named}
use Rattle.month_satellites.proofs.latitude.latitude_factors.Goals as goal

-- the factor of a side, from the factor in the north at S20
sided : (north : ℤ → ℤ) (l r g : ℤ) (s : ℕ) → SFits w32 l → pos s ≡ s20 (to_z w32 (of_z w32 l)) → (g ≡ north (pos s)) × (nat_abs g ≤ 2 ^ 23)
    → (r ≡ by_side (to_z w32 (of_z w32 l)) (held g)) × (nat_abs r ≤ 2 ^ 23) → (held r ≡ by_side l (north (s20 l))) × (nat_abs (held r) ≤ 2 ^ 23)
sided north l r g s f es eg er =
    let here : to_z w32 (of_z w32 l) ≡ l = to_z-of_z w32 l f in
    let g-is : held g ≡ north (s20 l) = (read g eg.1 (lit< tt)).is ∙ eg.0 ∙ ap north (es ∙ ap s20 here) in
    says (named (read r er.1 (lit< tt)) (er.0 ∙ ap₂ by_side here g-is))

pub returns : goal.returns
unfolding diurnal_factor semidiurnal_factor
returns c =
    let d = sided diurnal_north c.args.latitude c.by_side-diurnal.result c.diurnal_north.result c.s20_of-s.result c.ranges.latitude c.s20_of-s.ensures.result_value (c.diurnal_north.ensures.value, c.diurnal_north.ensures.result_bound) (c.by_side-diurnal.ensures.value, c.by_side-diurnal.ensures.result_bound) in
    let m = sided semidiurnal_north c.args.latitude c.by_side-semidiurnal.result c.semidiurnal_north.result c.s20_of-s.result c.ranges.latitude c.s20_of-s.ensures.result_value (c.semidiurnal_north.ensures.value, c.semidiurnal_north.ensures.result_bound) (c.by_side-semidiurnal.ensures.value, c.by_side-semidiurnal.ensures.result_bound) in record {
      result_value = rw (d.0, m.0);
      are_factors = record { diurnal = d.1; semidiurnal = m.1 };
    }
