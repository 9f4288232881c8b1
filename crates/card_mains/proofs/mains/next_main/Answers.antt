-- `card_mains::mains::next_main` meets its contract: how the card begins, then what it gives.
use lib.ListN.{get_or}
use Prim.Native.Nat.{◌*◌}
use Rattle.table.proofs.Rows.{listed-length}
use Rattle.card_mains.specs.Mains.{next_main}
use Rattle.card_mains.proofs.mains.next_main.Goals as goal

pub returns-in-Ok-Ends : goal.returns-in-Ok-Ends
unfolding next_main
returns-in-Ok-Ends c =
    rw (listed-length (λ k. get_or c.args.cards.now (3 * k) 0) 0 c.args.mains, ← c.begins.ensures, c.in-Ok-Ends.is, c.in-Ok-Ends.field-0-is)

pub returns-in-Ok : goal.returns-in-Ok
unfolding next_main
returns-in-Ok c =
    rw (listed-length (λ k. get_or c.args.cards.now (3 * k) 0) 0 c.args.mains, ← c.begins.ensures, c.in-Ok-Fields.is, c.in-Ok-Fields.field-0-is, ← c.main_card.ensures, c.in-Ok.is)

pub returns-in-Err-main_card : goal.returns-in-Err-main_card
unfolding next_main
returns-in-Err-main_card c =
    rw (listed-length (λ k. get_or c.args.cards.now (3 * k) 0) 0 c.args.mains, ← c.begins.ensures, c.in-Ok-Fields.is, c.in-Ok-Fields.field-0-is, ← c.main_card.ensures, c.in-Err-main_card.is)

pub returns-in-Err : goal.returns-in-Err
unfolding next_main
returns-in-Err c =
    rw (listed-length (λ k. get_or c.args.cards.now (3 * k) 0) 0 c.args.mains, ← c.begins.ensures, c.in-Err.is)
