-- `heights::series::series` meets its contract: the heights written so far and those that are left make the series, and the angles are those of the next minute.
-- Assumes nothing.
use borrow.Author.Rules.{rules}
use Prim.Native.Nat.{ℕ, ◌+◌, ◌*◌}
use native.Mathlib.Omega.{arith}
use native.Mathlib.Nat.{sub-zero}
use mathlib.Core.Path.{◌≡◌, sym, subst, ap, ap₂, ◌∙◌}
use mathlib.Core.List.{List}
use lib.Dec.{lit<}
use lib.IntN.{ℤ}
use lib.ListN.{length}
use lib.Seq.{sets}
use mir.Syntax.{w64}
use mir.Val.{to_z, of_z}
use Rattle.angles.proofs.Known.{read}
use Rattle.month_prepared.specs.inner.View.{constituents_from}
use Rattle.heights.specs.Height.{height_at}
use Rattle.heights.specs.Series.{series_from}
use Rattle.heights.specs.inner.Angles.{Angles}
use Rattle.heights.specs.inner.Lent.{constituents_lent}
use Rattle.heights.proofs.series.Advancing.{angles-later, angles-below, ticks-below}
use Rattle.heights.proofs.series.Written.{written-more, written_none, written_all}
use Rattle.heights.proofs.series.series.Goals as goal

pub loop-height-init : goal.loop-height-init
loop-height-init c =
    let l = c.args.lent in
    let e : c.args.start + 0 * c.args.step ≡ c.args.start = omega arith in
    record {
      room = search rules;
      here = subst (λ (m : ℕ). Angles l.arguments.now l.lags.now l.frequencies.now l.count m c.angles_at-angles.result) (sym e) c.angles_at-angles.ensures;
      left = ap (λ (n : ℕ). sets c.args.out.now 0 (series_from (height_at (constituents_lent l)) c.args.start c.args.step 0 n)) (sub-zero (length c.args.out.now));
    }

pub move_on-requires : goal.move_on-requires
move_on-requires c =
    let l = c.args.lent in
    let minute = c.args.start + c.loop-height.height-index * c.args.step in
    (c.loop-height.invariant.room, (c.requires.lent.count, (angles-below l.arguments.now l.lags.now l.frequencies.now c.loop-height.angles l.count minute c.loop-height.invariant.here, ticks-below l.frequencies.now c.advances-ticks.result l.count c.args.step c.advances-ticks.ensures)))

pub loop-height-preserved : goal.loop-height-preserved
loop-height-preserved c =
    let l = c.args.lent in
    let n = c.loop-height.height-index in
    let minute = c.args.start + n * c.args.step in
    let copied = ap₂ (λ (x y : List ℤ). height_at (constituents_from l.arguments.now l.lags.now l.frequencies.now x y l.count) minute) c.weights_of-ps.ensures c.weights_of-qs.ensures in
    let height = (read c.height_of.result c.height_of.ensures.result_bound (lit< tt)).is ∙ (c.height_of.ensures.height_of l.arguments.now l.lags.now l.frequencies.now minute c.loop-height.invariant.here ∙ copied) in
    let e : minute + c.args.step ≡ c.args.start + (n + 1) * c.args.step = omega arith in
    record {
      room = c.move_on.ensures.angles_len;
      here = subst (λ (m : ℕ). Angles l.arguments.now l.lags.now l.frequencies.now l.count m c.move_on.new.angles) e (angles-later l.arguments.now l.lags.now l.frequencies.now c.loop-height.angles c.advances-ticks.result l.count minute c.args.step c.loop-height.invariant.here c.advances-ticks.ensures c.move_on.new.angles c.move_on.ensures.moved_on);
      left = written-more (height_at (constituents_lent l)) c.args.start c.args.step c.loop-height.out n (length c.args.out.now) (to_z w64 (of_z w64 c.height_of.result)) (omega arith) height ∙ c.loop-height.invariant.left;
    }

pub returns : goal.returns
returns c =
    let height = height_at (constituents_lent c.args.lent) in
    sym (written_none height c.args.start c.args.step c.loop-height.out c.loop-height.height-index (length c.args.out.now) (omega arith)) ∙ (c.loop-height.invariant.left ∙ written_all height c.args.start c.args.step c.args.out.now)
