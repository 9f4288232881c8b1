-- `month_satellites::satellites::terms_of` meets its contract: each term is the marked term of the plain term of the wave at the satellite's angle.
use mathlib.Core.Path.{◌≡◌, ◌∙◌, ap}
use mathlib.Core.List.{List}
use Prim.Native.Nat.{ℕ, ◌≤◌, ◌^◌}
use lib.IntN.{ℤ, nat_abs}
use lib.Dec.{lit<}
use Rattle.angles.proofs.Machine.{held}
use Rattle.angles.proofs.Known.{read, says}
use Rattle.cosine.specs.Fixed.{fixed_cosine, fixed_sine}
use Rattle.table.specs.Table.{Satellite}
use Rattle.month_satellites.specs.Latitude.{Factors}
use Rattle.month_satellites.specs.inner.Factors.{factors_of}
use Rattle.month_satellites.specs.inner.View.{longitudes_of, the_satellite}
use Rattle.month_satellites.specs.Satellites.{satellite_angle, plain_term, marked_term, satellite_term}
use Rattle.month_satellites.proofs.latitude.Sizes.{named}
use Rattle.month_satellites.proofs.satellites.terms_of.Goals as goal

-- a satellite's term, from its parts: the wave at its angle, the plain term of that, the marked term of that
term_is : (wave : ℕ → ℤ) (g : Factors) (ls : List ℕ) (s : Satellite) (angle : ℕ) (w p r : ℤ)
    → angle ≡ satellite_angle ls s → w ≡ wave angle → nat_abs w ≤ 2 ^ 30 → (p ≡ plain_term s.ratio (held w)) × (nat_abs p ≤ 2 ^ 39)
    → (r ≡ marked_term g s.mark (held p)) × (nat_abs r ≤ 2 ^ 42) → (held r ≡ satellite_term wave g ls s) × (nat_abs (held r) ≤ 2 ^ 42)
unfolding satellite_term
term_is wave g ls s angle w p r ea ew hw ep er =
    let plain : held p ≡ plain_term s.ratio (wave (satellite_angle ls s)) =
    (read p ep.1 (lit< tt)).is ∙ ep.0 ∙ ap (plain_term s.ratio) ((read w hw (lit< tt)).is ∙ ew ∙ ap wave ea) in
    says (named (read r er.1 (lit< tt)) (er.0 ∙ ap (marked_term g s.mark) plain))

pub returns : goal.returns
returns c =
    let x = term_is fixed_cosine (factors_of c.args.g) (longitudes_of c.args.l) (the_satellite c.args.s) c.angle_of.result c.wave-w.result.cosine c.plain_term.result c.marked_term-x.result c.angle_of.ensures c.wave-w.ensures.cosine_value c.wave-w.ensures.cosine_bound.0 (c.plain_term.ensures.value, c.plain_term.ensures.result_bound) (c.marked_term-x.ensures.value, c.marked_term-x.ensures.result_bound) in
    let y = term_is fixed_sine (factors_of c.args.g) (longitudes_of c.args.l) (the_satellite c.args.s) c.angle_of.result c.wave-w.result.sine c.plain_term-2.result c.marked_term-y.result c.angle_of.ensures c.wave-w.ensures.sine_value c.wave-w.ensures.cosine_bound.1 (c.plain_term-2.ensures.value, c.plain_term-2.ensures.result_bound) (c.marked_term-y.ensures.value, c.marked_term-y.ensures.result_bound) in record {
      x_value = x.0;
      y_value = y.0;
      sized = record { x = x.1; y = y.1 };
    }
