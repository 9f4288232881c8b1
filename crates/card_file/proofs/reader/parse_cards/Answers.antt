-- The whole file: part 1 read into an empty table, then the rest; unfolded, that is `read_cards`.
use mathlib.Core.Path.{sym, ◌∙◌}
use mathlib.Core.List.{List, []}
use Prim.Native.Nat.{ℕ}
use Rattle.table.specs.Table.{Frequency, Table}
use Rattle.card.specs.Card.{Reading}
use Rattle.table.specs.inner.View.{table_of}
use Rattle.card_file.specs.Cards.{read_cards}
use Rattle.card_file.specs.inner.Rest.{longitudes_and, mains_and, shallows_and}
use Rattle.card_file.proofs.reader.Followed.{part-refused, part-reached}
use Rattle.card_file.proofs.reader.parse_cards.Goals as goal

pub longitudes_and-requires : goal.longitudes_and-requires
longitudes_and-requires c = rw c.in-Ok.is at c.read_frequencies.ensures.within_file

pub returns-in-Err : goal.returns-in-Err
unfolding read_cards
returns-in-Err c =
    sym (part-refused c.args.file.now _ _ c.read_frequencies.result _ c.read_frequencies.ensures.count_value _ c.in-Err.misread c.in-Err.is)

pub returns-in-Ok : goal.returns-in-Ok
unfolding read_cards longitudes_and mains_and shallows_and table_of
returns-in-Ok c =
    let next : List Frequency → List (List ℕ) → ℕ → Reading Table = λ fs lines n. longitudes_and (record { frequencies = fs; longitudes = []; increases = []; mains = []; shallows = [] }) lines n in
    c.longitudes_and.ensures ∙ sym (part-reached c.args.file.now _ _ c.read_frequencies.result _ c.read_frequencies.ensures.count_value next c.in-Ok.read c.in-Ok.is)
