-- `card_mains::satellitecard::satellites_on` meets its contract. The loop keeps that reading on from satellite j gives what reading all of them gives,
-- and that the satellites stored before are as they were. Rests on the laws of part 3.
use mathlib.Core.Path.{◌≡◌, refl, ap, ◌∙◌}
use mathlib.Core.List.{[], ◌∷◌}
use native.Mathlib.Omega.{arith}
use native.Mathlib.Nat.{sub-zero}
use Prim.Native.Nat.{◌+◌, ◌*◌}
use lib.ListN.{length, length-set, take, set}
use lib.Seq.{length-sets, length-take-le, sets}
use Rattle.table.specs.inner.View.{listed, satellite_of}
use Rattle.card_mains.proofs.satellitecard.OfSatellites.{satellite-put, satellite-kept, satellites-grow, satellites-more, satellites-none}
use Rattle.card_mains.proofs.satellitecard.satellites_on.Goals as goal

pub loop-j-init : goal.loop-j-init
unfolding listed
loop-j-init c =
    (omega arith, rw (sub-zero c.args.count), (λ k h. refl), c.requires.2)

pub put_satellite-requires : goal.put_satellite-requires
put_satellite-requires c =
    (omega arith, c.in-Ok.ensures.1)

pub loop-j-preserved : goal.loop-j-preserved
loop-j-preserved c =
    let k = c.args.first + c.loop-j.j in
    let ds = take 3 c.in-Ok.s.differences in
    let three : length ds ≡ 3 = length-take-le 3 c.in-Ok.s.differences (omega (arith, c.in-Ok.ensures.1)) in
    let A : c.put_satellite.new.angles ≡ set (sets c.loop-j.angles (4 * k) ds) (4 * k + 3) c.in-Ok.s.phase = c.put_satellite.ensures.angles_after in
    let R : c.put_satellite.new.ratios ≡ sets c.loop-j.ratios (2 * k) (c.in-Ok.s.ratio ∷ c.in-Ok.s.mark ∷ []) = c.put_satellite.ensures.ratios_after in
    let kept = satellite-kept c.loop-j.angles c.loop-j.ratios k ds c.in-Ok.s.phase c.in-Ok.s.ratio c.in-Ok.s.mark three in
    let new = satellite-put c.loop-j.angles c.loop-j.ratios k ds c.in-Ok.s.phase c.in-Ok.s.ratio c.in-Ok.s.mark three (omega (arith, c.loop-j.invariant.3.0)) (omega (arith, c.loop-j.invariant.3.1)) in
    rw (A, R) (
      omega arith,
      rw (satellites-grow _ (satellite_of c.loop-j.angles c.loop-j.ratios) c.args.first c.loop-j.j _ kept new)
          (rw (satellites-more c.args.line.now (listed (satellite_of c.loop-j.angles c.loop-j.ratios) c.args.first c.loop-j.j) c.loop-j.j c.args.count c.loop-j-test.true, ← c.satellite_fields.ensures.0, c.in-Ok.is) at c.loop-j.invariant.1),
      (λ i h. kept i (omega arith) ∙ c.loop-j.invariant.2 i h),
      (
        length-set (sets c.loop-j.angles (4 * k) ds) (4 * k + 3) c.in-Ok.s.phase ∙ length-sets c.loop-j.angles (4 * k) ds ∙ c.loop-j.invariant.3.0,
        length-sets c.loop-j.ratios (2 * k) (c.in-Ok.s.ratio ∷ c.in-Ok.s.mark ∷ []) ∙ c.loop-j.invariant.3.1,
      ),
    )

pub returns-in-Err : goal.returns-in-Err
returns-in-Err c =
    record {
      count_after = rw (satellites-more c.args.line.now (listed (satellite_of c.loop-j.angles c.loop-j.ratios) c.args.first c.loop-j.j) c.loop-j.j c.args.count c.loop-j-test.true, ← c.satellite_fields.ensures.0, c.in-Err.is) at c.loop-j.invariant.1;
      as_before = (c.loop-j.invariant.2, c.loop-j.invariant.3);
    }

pub returns : goal.returns
returns c =
    let e : c.args.count ≡ c.loop-j.j = omega arith in record {
      count_after = rw (ap (listed (satellite_of c.loop-j.angles c.loop-j.ratios) c.args.first) e) (rw (satellites-none c.args.line.now (listed (satellite_of c.loop-j.angles c.loop-j.ratios) c.args.first c.loop-j.j) c.loop-j.j c.args.count c.loop-j-test.false) at c.loop-j.invariant.1);
      as_before = (c.loop-j.invariant.2, c.loop-j.invariant.3);
    }
