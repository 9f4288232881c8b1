-- From part 3 on: the mains read, then the rest (`mains_and`), by the laws of a part that is refused or reached.
use borrow.Author.Rules.{rules}
use mathlib.Core.Path.{sym, ◌∙◌}
use lib.ListN.{drop}
use Rattle.columns.specs.Lines.{lines_of}
use Rattle.table.specs.inner.View.{table_of, listed}
use Rattle.card_mains.specs.Mains.{satellites_in}
use Rattle.card_file.specs.inner.Rest.{mains_and}
use Rattle.card_file.proofs.reader.Followed.{part-refused, part-reached}
use Rattle.card_file.proofs.reader.Parts.{part-3}
use Rattle.card_file.proofs.reader.mains_and.Goals as goal

pub constituent_reader-requires : goal.constituent_reader-requires
unfolding satellites_in listed
constituent_reader-requires c =
    search rules

pub shallows_and-requires : goal.shallows_and-requires
shallows_and-requires c =
    let w = rw c.in-Ok.is at c.constituent_reader.ensures.within_file in
    (w.0, c.requires.1, w.1)

pub returns-in-Err : goal.returns-in-Err
unfolding mains_and listed
returns-in-Err c =
    sym (part-refused c.args.file.now _ _ c.constituent_reader.result _ (c.constituent_reader.ensures.mains_after ∙ part-3 c.args.table (lines_of (drop c.args.from.at c.args.file.now)) c.args.from.line) _ c.in-Err.misread c.in-Err.is)

pub returns-in-Ok : goal.returns-in-Ok
unfolding mains_and table_of listed
returns-in-Ok c =
    c.shallows_and.ensures ∙ sym (part-reached c.args.file.now _ _ c.constituent_reader.result _ (c.constituent_reader.ensures.mains_after ∙ part-3 c.args.table (lines_of (drop c.args.from.at c.args.file.now)) c.args.from.line) _ c.in-Ok.read c.in-Ok.is)
