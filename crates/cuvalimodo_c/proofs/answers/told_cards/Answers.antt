-- `answers::told_cards` meets its contract, case by case. Assumes nothing.
use mathlib.Core.Path.{refl, sym, ap}
use Rattle.cuvalimodo_c.specs.Answers.{cards_told_of}
use borrow.Author.Rules.{rules}
use Rattle.cuvalimodo_c.proofs.Numbers.{refusal-read}
use Rattle.cuvalimodo_c.proofs.answers.told_cards.Goals as goal

pub returns-in-Ok : goal.returns-in-Ok
returns-in-Ok c =
    rw c.in-Ok.is (refl, refl)

pub returns-in-Err : goal.returns-in-Err
returns-in-Err c =
    let read = refusal-read c.in-Err.refused.refusal c.in-Err.refused.place _ in
    rw (c.in-Err.is, c.number_of.ensures) (read, ap cards_told_of (sym read))
