-- `clock::new` meets its contract: a bare clock without a table. Assumes nothing.
use mathlib.Core.Bool.{true≢false}
use mathlib.Core.Path.{sym, ◌∙◌}
use Rattle.clock.proofs.new.Goals as goal

pub returns : goal.returns
returns c =
    record { made = λ tabled. absurd (true≢false (sym tabled ∙ c.bare.ensures.flag)); leaves = c.bare.ensures.there }
