-- `cosine::cosines` meets its contract: one test, computed over all that it returns.
-- Assumes nothing.
use mathlib.Core.Path.{refl}
use Rattle.cosine.specs.Fraction.{factorial, arc, unit, term, added, taken, whole, base}
use Rattle.cosine.proofs.Natural.{entry_ℕ}
use Rattle.cosine.proofs.Rule.{right}
use Rattle.cosine.proofs.Computed.{is-table}
use Rattle.cosine.proofs.cosines.Goals as goal

pub returns : goal.returns
unfolding right entry_ℕ base added taken whole term factorial arc unit
returns c =
    is-table tt refl
