-- `answers::told` meets its contract: a refusal's number is not 0. Assumes nothing.
use borrow.Author.Rules.{rules}
use mathlib.Core.Path.{ap, sym}
use Rattle.cuvalimodo_c.specs.Answers.{verdict_of}
use Rattle.cuvalimodo_c.proofs.Numbers.{refusal-read}
use Rattle.cuvalimodo_c.proofs.answers.told.Goals as goal

pub returns-in-Err : goal.returns-in-Err
returns-in-Err c =
    let read = refusal-read c.in-Err.refused.refusal c.in-Err.refused.place tt in
    rw (c.in-Err.is, c.number_of.ensures) (read, ap verdict_of (sym read))
