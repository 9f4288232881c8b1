-- `script::words::numbers_at` meets its contract: each number is the next word's, and behind the last no word begins. Assumes nothing.
use Rattle.std.proofs.Common.{◌∙◌, rules}
use Rattle.script.proofs.words.Words.{numbers-more, numbers-none, numbers-behind, numbers-all}
use Rattle.script.proofs.words.numbers_at.Goals as goal

pub returns-in_err-field : goal.returns-in_err-field
returns-in_err-field g c =
    rw c.from_residual.ensures (numbers-none _ _ _ _ (search rules) (rw c.in_err-field.was at c.field_at.ensures) ∙ c.loop-number.invariant.1)

pub loop-number-preserved : goal.loop-number-preserved
loop-number-preserved g c =
    (search rules, numbers-more _ _ _ _ _ _ (search rules) c.loop-number.invariant.0 (rw c.in_ok-field.was at c.field_at.ensures) ∙ c.loop-number.invariant.1)

pub returns-then-next-line : goal.returns-then-next-line
returns-then-next-line g c =
    numbers-behind c.loop-number.number-items _ _ _ _ (search rules) c.if-next-line.true ∙ c.loop-number.invariant.1

pub returns : goal.returns
returns g c =
    numbers-all _ _ _ _ _ (search rules) c.loop-number.invariant.0 c.if-next-line.false ∙ c.loop-number.invariant.1
