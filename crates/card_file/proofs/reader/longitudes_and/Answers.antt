-- From the two longitude cards on: each read, then the rest (`longitudes_and`), by the laws of a part that is refused or reached.
use mathlib.Core.Path.{sym, ◌∙◌}
use Rattle.table.specs.inner.View.{table_of}
use Rattle.card_file.specs.inner.Rest.{longitudes_and}
use Rattle.card_file.proofs.reader.Followed.{part-refused, part-reached}
use Rattle.card_file.proofs.reader.longitudes_and.Goals as goal

pub read_five-requires-in-Ok : goal.read_five-requires-in-Ok
read_five-requires-in-Ok c = rw c.in-Ok.is at c.read_five.ensures.within_file

pub mains_and-requires : goal.mains_and-requires
mains_and-requires c =
    (rw c.in-Ok-read_five.is at c.read_five-in-Ok.ensures.within_file, c.requires.1)

pub returns-in-Err : goal.returns-in-Err
unfolding longitudes_and
returns-in-Err c =
    sym (part-refused c.args.file.now _ _ c.read_five.result _ c.read_five.ensures.values_value _ c.in-Err.misread c.in-Err.is)

pub returns-in-Err-read_five : goal.returns-in-Err-read_five
unfolding longitudes_and
returns-in-Err-read_five c =
    sym (part-reached c.args.file.now _ _ c.read_five.result _ c.read_five.ensures.values_value _ c.in-Ok.first c.in-Ok.is
    ∙ part-refused c.args.file.now _ _ c.read_five-in-Ok.result _ c.read_five-in-Ok.ensures.values_value _ c.in-Err-read_five.misread c.in-Err-read_five.is)

pub returns-in-Ok-read_five : goal.returns-in-Ok-read_five
unfolding longitudes_and table_of
returns-in-Ok-read_five c =
    c.mains_and.ensures ∙ sym (part-reached c.args.file.now _ _ c.read_five.result _ c.read_five.ensures.values_value _ c.in-Ok.first c.in-Ok.is
    ∙ part-reached c.args.file.now _ _ c.read_five-in-Ok.result _ c.read_five-in-Ok.ensures.values_value _ c.in-Ok-read_five.second c.in-Ok-read_five.is)
