-- `card_constituents::rows::put_main` meets its contract: what the table's stores leave.
use borrow.Author.Rules.{rules}
use mir.Syntax.{w8}
use mir.Val.{SFits}
use mir.ValLaws.{to_z-of_z}
use Rattle.card_constituents.proofs.rows.put_main.Goals as goal

pub returns : goal.returns
returns c =
    let phase : SFits w8 c.args.main.phase = search rules in record {
      cards_after = c.put_u16.ensures;
      angles_after = rw (to_z-of_z w8 c.args.main.phase phase, c.put_i8.ensures);
    }
