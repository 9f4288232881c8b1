-- `card_constituents::rows::read_main` meets its contract: a card that gives a main leaves its row, any other leaves the rows as they were. By the laws of rows.
use borrow.Author.Rules.{rules}
use mathlib.Core.Path.{◌≡◌, sym, ap, ◌∙◌}
use Prim.Native.Nat.{◌+◌, ◌*◌}
use mathlib.Core.List.{[], ◌∷◌}
use lib.ListN.{length, set}
use lib.Seq.{sets}
use mir.Syntax.{w8}
use mir.Val.{SFits}
use Rattle.std.specs.Prelude.{Some, Ok}
use Rattle.columns.specs.Names.{names_from}
use Rattle.card.specs.inner.Lines.{next_gives}
use Rattle.card_mains.specs.inner.Mains.{main_read}
use Rattle.card_constituents.proofs.rows.OfMains.{step_room, stored-begun}
use Rattle.card_constituents.proofs.rows.read_main.Goals as goal

pub put_main-requires : goal.put_main-requires
put_main-requires c =
    let told : c.next_main.result ≡ Ok (Some c.in-Ok-Some.main) = rw c.in-Ok-Some.field-0-is at c.in-Ok-Some.is in
    let names = names_from c.args.names.now 0 c.args.known in
    ((step_room names c.args.cards.now c.args.here.mains c.args.here.satellites c.args.line.now c.next_main.result c.in-Ok-Some.main c.next_main.ensures told).0, c.requires.2)

pub returns-in-Ok-Some : goal.returns-in-Ok-Some
returns-in-Ok-Some c =
    let main = c.in-Ok-Some.main in
    let m = c.args.here.mains in
    let told : c.next_main.result ≡ Ok (Some main) = rw c.in-Ok-Some.field-0-is at c.in-Ok-Some.is in
    let names = names_from c.args.names.now 0 c.args.known in
    let room = step_room names c.args.cards.now m c.args.here.satellites c.args.line.now c.next_main.result main c.next_main.ensures told in
    let six : length main.doodson ≡ 6 = search rules in
    let small : SFits w8 main.phase = search rules in
    let cards : c.put_main.new.cards ≡ sets c.args.cards.now (3 * m) (main.place ∷ c.args.here.satellites ∷ 0 ∷ []) = c.put_main.ensures.cards_after in
    let angles : c.put_main.new.angles ≡ set (sets c.args.angles.now (7 * m) main.doodson) (7 * m + 6) main.phase = c.put_main.ensures.angles_after in
    let stored = stored-begun c.args.cards.now c.put_main.new.cards c.args.angles.now c.put_main.new.angles m c.args.here.satellites main.place main.count main.doodson main.phase _ six room c.requires.3 c.requires.4
    cards angles (ap (next_gives main_read) (sym told) ∙ c.next_main.ensures) in
    record { main_stored = stored.0; mains_kept = stored.1.0; begun = stored.1.1 }
