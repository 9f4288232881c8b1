-- From part 4 on: the shallow constituents read, then that every frequency is defined (`shallows_and`).
use mathlib.Core.Path.{sym, ap, ◌∙◌}
use Prim.Native.Nat.{ℕ}
use native.Mathlib.Omega.{arith}
use lib.ListN.{drop}
use Rattle.std.specs.Prelude.{Option}
use Rattle.columns.specs.Lines.{lines_of}
use Rattle.table.specs.inner.View.{table_of}
use Rattle.card.specs.Card.{given}
use Rattle.card_shallows.specs.inner.Answers.{shallows_in}
use Rattle.card_file.specs.Cards.{unless_undefined}
use Rattle.card_file.specs.inner.Rest.{shallows_and, with_shallows}
use Rattle.card_file.proofs.defined.Last.{undefined-within}
use Rattle.card_file.proofs.reader.Followed.{part-refused, part-reached}
use Rattle.card_file.proofs.reader.Parts.{part-4, last-check}
use Rattle.card_file.proofs.reader.shallows_and.Goals as goal

pub undefined-requires : goal.undefined-requires
undefined-requires c = (c.requires.1, c.requires.2, rw c.in-Ok.is at c.read_shallows.ensures.count_le_most_shallows)

pub overflow_add-result : goal.overflow_add-result
overflow_add-result c =
    let h = undefined-within _ 0 c.args.table.frequencies c.in-Some.place (sym c.undefined.ensures ∙ c.in-Some.is) in
    omega (arith, h, c.requires.1)

pub returns-in-Err : goal.returns-in-Err
unfolding shallows_and
returns-in-Err c =
    sym (part-refused c.args.file.now _ _ c.read_shallows.result _ (c.read_shallows.ensures.count_value ∙ part-4 c.args.table (lines_of (drop c.args.from.at c.args.file.now)) c.args.from.line) _ c.in-Err.misread c.in-Err.is)

pub returns-in-None : goal.returns-in-None
unfolding shallows_and table_of
returns-in-None c =
    let read = c.in-Ok.read in
    let whole = with_shallows (table_of c.args.table) (shallows_in read) in
    sym (part-reached c.args.file.now _ _ c.read_shallows.result _ (c.read_shallows.ensures.count_value ∙ part-4 c.args.table (lines_of (drop c.args.from.at c.args.file.now)) c.args.from.line) _ read c.in-Ok.is
    ∙ ap (λ (d : Option ℕ). unless_undefined d (given whole (lines_of (drop read.reached.at c.args.file.now)) read.reached.line))
    (sym (last-check c.args.table read.cards read.coefficients read.count) ∙ sym c.undefined.ensures ∙ c.in-None.is))

pub returns-in-Some : goal.returns-in-Some
unfolding shallows_and table_of
returns-in-Some c =
    let read = c.in-Ok.read in
    let whole = with_shallows (table_of c.args.table) (shallows_in read) in
    rw c.only.ensures (sym (part-reached c.args.file.now _ _ c.read_shallows.result _ (c.read_shallows.ensures.count_value ∙ part-4 c.args.table (lines_of (drop c.args.from.at c.args.file.now)) c.args.from.line) _ read c.in-Ok.is
    ∙ ap (λ (d : Option ℕ). unless_undefined d (given whole (lines_of (drop read.reached.at c.args.file.now)) read.reached.line))
    (sym (last-check c.args.table read.cards read.coefficients read.count) ∙ sym c.undefined.ensures ∙ c.in-Some.is)))
