-- `card_shallows::shallowcard::next_shallow` meets its contract. The card's opening, and then its fields. Assumes nothing.
use mathlib.Core.Path.{◌≡◌}
use Prim.Native.Nat.{◌*◌}
use lib.ListN.{get_or}
use Rattle.table.proofs.Rows.{listed-length}
use Rattle.card.specs.declared.lines.Opening.TheVariants.{Ends, Fields}
use Rattle.card_shallows.specs.Shallow.{next_shallow}
use Rattle.card_shallows.proofs.shallowcard.next_shallow.Goals as goal

pub returns-in-Ok-Ends : goal.returns-in-Ok-Ends
unfolding next_shallow
returns-in-Ok-Ends c =
    let e : c.in-Ok-Ends.field-0 ≡ Ends = c.in-Ok-Ends.field-0-is in
    rw (listed-length (λ i. get_or c.args.before.now.cards (6 * i) 0) 0 c.args.before.now.count, ← c.begins.ensures, c.in-Ok-Ends.is, e)

pub returns-in-Ok : goal.returns-in-Ok
unfolding next_shallow
returns-in-Ok c =
    let e : c.in-Ok-Fields.field-0 ≡ Fields = c.in-Ok-Fields.field-0-is in
    rw (listed-length (λ i. get_or c.args.before.now.cards (6 * i) 0) 0 c.args.before.now.count, ← c.begins.ensures, c.in-Ok-Fields.is, e, ← c.shallow_card.ensures, c.in-Ok.is)

pub returns-in-Err-shallow_card : goal.returns-in-Err-shallow_card
unfolding next_shallow
returns-in-Err-shallow_card c =
    let e : c.in-Ok-Fields.field-0 ≡ Fields = c.in-Ok-Fields.field-0-is in
    rw (listed-length (λ i. get_or c.args.before.now.cards (6 * i) 0) 0 c.args.before.now.count, ← c.begins.ensures, c.in-Ok-Fields.is, e, ← c.shallow_card.ensures, c.in-Err-shallow_card.is)

pub returns-in-Err : goal.returns-in-Err
unfolding next_shallow
returns-in-Err c =
    rw (listed-length (λ i. get_or c.args.before.now.cards (6 * i) 0) 0 c.args.before.now.count, ← c.begins.ensures, c.in-Err.is)
