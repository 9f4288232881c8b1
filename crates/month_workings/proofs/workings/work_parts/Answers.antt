-- `month_workings::workings::work_parts` meets its contract. The invariant: the mains of the parts so far are worked out.
use native.Mathlib.Nat.{not-suc-le-zero}
use native.Mathlib.Omega.{arith}
use Rattle.table.specs.inner.View.{naturals}
use Rattle.month_workings.proofs.workings.Storing.{one-part-more}
use Rattle.month_workings.proofs.workings.work_parts.Goals as goal

pub loop-j-init : goal.loop-j-init
loop-j-init c =
    record { kept = c.requires.kept_by; has = λ i h. absurd (not-suc-le-zero h) }

pub work_main-requires : goal.work_main-requires
work_main-requires c =
    record {
      cosines = c.requires.cosines;
      given = c.requires.given;
      kept_by = c.loop-j.invariant.kept;
    }

pub loop-j-preserved : goal.loop-j-preserved
loop-j-preserved c =
    let main = c.entry_at-in-loop-j.ensures in
    record {
      kept = c.work_main.ensures.kept;
      has = one-part-more _ _ c.entry_at-in-loop-j.result.now c.loop-j.kept _ (naturals 6 c.args.table.now.shallowcards c.args.row) c.loop-j.j main c.loop-j.invariant.has c.work_main.ensures;
    }

pub returns : goal.returns
returns c =
    let count = c.entry_at.ensures in
    record { kept = c.loop-j.invariant.kept; has = λ j h. c.loop-j.invariant.has j (omega (arith, h, count, c.loop-j-test.false)) }
