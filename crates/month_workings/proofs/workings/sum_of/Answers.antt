-- `month_workings::workings::sum_of` meets its contract: the sum over the satellites that the main's row names, or (2^20, 0) past the mains.
use mathlib.Core.Path.{ap, ap₂, ◌∙◌}
use Prim.Native.Nat.{ℕ}
use Rattle.table.specs.inner.View.{listed, satellite_of}
use Rattle.table.proofs.entries.Beyond.{past-entries, entry_at}
use Rattle.month_satellites.specs.inner.Factors.{factors_of}
use Rattle.month_satellites.specs.Satellites.{main_pair}
use Rattle.month_arguments.specs.Longitudes.{nodal}
use Rattle.month_arguments.specs.inner.Longitudes.{longitudes_of}
use Rattle.refusals.specs.Checked.{good}
use Rattle.month_pairs.specs.Pairs.{checked, start_pair}
use Rattle.month_pairs.specs.inner.Rows.{row_satellites, row_corrected}
use Rattle.month_workings.proofs.workings.sum_of.Goals as goal

pub returns-then-given-k : goal.returns-then-given-k
unfolding checked
returns-then-given-k c =
    past-entries (good start_pair) (row_corrected (factors_of c.args.given.factors) (nodal (longitudes_of c.args.given.longitudes)) c.args.table.now.maincards c.args.table.now.satelliteangles c.args.table.now.satelliteratios) c.args.given.mains c.args.k c.if-given-k.true

pub returns : goal.returns
unfolding row_corrected row_satellites
returns c =
    let g = factors_of c.args.given.factors in
    let l = nodal (longitudes_of c.args.given.longitudes) in
    ap checked ((rw c.nodal_of-l.ensures.result_value at c.main_sum.ensures.result_value) ∙ ap₂ (λ (first count : ℕ). main_pair g l (listed (satellite_of c.args.table.now.satelliteangles c.args.table.now.satelliteratios) first count)) c.entry_at-first.ensures c.entry_at-count.ensures)
    ∙ entry_at (good start_pair) (row_corrected g l c.args.table.now.maincards c.args.table.now.satelliteangles c.args.table.now.satelliteratios) c.args.given.mains c.args.k c.if-given-k.false
