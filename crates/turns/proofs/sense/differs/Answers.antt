-- `turns::sense::differs` meets its contract: by the first slope's sense. Assumes nothing.
use mathlib.Core.Path.{◌≡◌, sym, ◌∙◌, ap}
use mathlib.Core.Bool.{true, false, not}
use mir.ValLaws.{to_z-of_z}
use Rattle.turns.specs.Sense.{rising, differ}
use Rattle.turns.proofs.sense.differs.Goals as goal

pub returns-then-rises : goal.returns-then-rises
unfolding differ
returns-then-rises c =
    let fa = c.ranges.a in
    let fb = c.ranges.b in
    let ra : rising c.args.a ≡ true = sym (simp to_z-of_z at c.rises.ensures) ∙ c.if-rises.true in
    rw ra (ap not (simp to_z-of_z at c.rises-then-rises.ensures))

pub returns-else-rises : goal.returns-else-rises
unfolding differ
returns-else-rises c =
    let fa = c.ranges.a in
    let fb = c.ranges.b in
    let ra : rising c.args.a ≡ false = sym (simp to_z-of_z at c.rises.ensures) ∙ c.if-rises.false in
    rw ra (simp to_z-of_z at c.rises-else-rises.ensures)
