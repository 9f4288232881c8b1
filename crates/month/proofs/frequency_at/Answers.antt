-- `month::frequency_at` meets its contract: the frequency that stands there, or none.
use mathlib.Core.Path.{sym, ◌∙◌}
use native.Mathlib.Nat.{zero-add}
use native.Mathlib.Omega.{arith}
use lib.ListN.{get_or, get_or-eq_default}
use Rattle.table.proofs.Rows.{listed_at, listed-length}
use Rattle.month.specs.inner.View.{frequencies_of}
use Rattle.month.proofs.frequency_at.Goals as goal

pub returns-then-place-frequencies : goal.returns-then-place-frequencies
returns-then-place-frequencies c =
    c.at.ensures ∙ sym (rw zero-add at (listed_at (λ k. get_or c.args.speeds.now k 0) 0 c.args.frequencies c.args.place 0 c.if-place-frequencies.true))

pub returns-else-place-frequencies : goal.returns-else-place-frequencies
returns-else-place-frequencies c =
    sym (get_or-eq_default (frequencies_of c.args.speeds.now c.args.frequencies) 0 (omega (arith, listed-length (λ k. get_or c.args.speeds.now k 0) 0 c.args.frequencies)))
