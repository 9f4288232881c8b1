-- `card_constituents::rows::read_satellites` meets its contract: a good card leaves its satellites behind those stored, and their count in the main's row. By the laws of rows.
use Prim.Native.Nat.{◌+◌, ◌*◌, ◌≤◌, min}
use mathlib.Core.Path.{◌≡◌, refl, sym, ap, ◌∙◌}
use native.Mathlib.Omega.{arith}
use lib.ListN.{length, get_or, length-set}
use Rattle.table.specs.inner.View.{listed, satellite_of}
use Rattle.table.proofs.Rows.{row_at}
use Rattle.limits.specs.Limits.{satellites_a_card}
use Rattle.refusals.specs.Checked.{good}
use Rattle.card.specs.inner.Answers.{card_gives}
use Rattle.card_mains.specs.Satellites.{satellite_card}
use Rattle.card_constituents.proofs.rows.OfMains.{mains-kept, main-grown, mains-kept-grown, grown-end, grown-stored, grown-count}
use Rattle.card_constituents.proofs.rows.read_satellites.Goals as goal

pub add_satellites-requires : goal.add_satellites-requires
add_satellites-requires c =
    (c.requires.0, omega (arith, c.at_most_three.ensures, c.requires.1, c.requires.2, row_at 0 3 c.args.cards.now c.args.here.mains 2 (omega arith)))

pub returns-in-Ok : goal.returns-in-Ok
returns-in-Ok c =
    let k = min c.args.due satellites_a_card in
    let fits : 3 * c.args.here.mains + 3 ≤ length c.args.cards.now = omega (arith, c.requires.0, c.requires.4) in
    let read : good (listed (satellite_of c.satellite_card.new.angles c.satellite_card.new.ratios) c.args.here.satellites k) ≡ satellite_card c.args.due c.args.line.now =
    ap (card_gives (λ _. listed (satellite_of c.satellite_card.new.angles c.satellite_card.new.ratios) c.args.here.satellites k)) (sym c.in-Ok.is) ∙ c.satellite_card.ensures.satellites_acard_after in record {
      satellites_stored = rw (c.add_satellites.ensures, c.at_most_three.ensures, ← read) ((λ angles. (
        ap good (main-grown c.args.cards.now c.args.here.mains k c.args.here.satellites fits angles c.args.sat.now c.satellite_card.new.angles c.args.ratios.now c.satellite_card.new.ratios c.satellite_card.ensures.as_before.0 c.requires.2),
        mains-kept-grown c.args.cards.now c.args.here.mains k c.args.here.satellites fits angles c.args.sat.now c.satellite_card.new.angles c.args.ratios.now c.satellite_card.new.ratios c.satellite_card.ensures.as_before.0 c.requires.3,
      )));
      grown = rw (c.add_satellites.ensures, c.at_most_three.ensures) (
        (grown-end c.args.cards.now c.args.here.mains k c.args.here.satellites fits c.requires.2, grown-stored c.args.cards.now c.args.here.mains k c.args.here.satellites fits c.args.here.satellites (omega arith) c.requires.3, grown-count c.args.cards.now c.args.here.mains k c.args.here.satellites fits),
        length-set c.args.cards.now (3 * c.args.here.mains + 2) (get_or c.args.cards.now (3 * c.args.here.mains + 2) 0 + k) ∙ c.requires.4,
        c.satellite_card.ensures.as_before.1,
      );
    }

pub returns-in-Err : goal.returns-in-Err
returns-in-Err c =
    let read = ap (card_gives (λ _. listed (satellite_of c.satellite_card.new.angles c.satellite_card.new.ratios) c.args.here.satellites (min c.args.due satellites_a_card))) (sym c.in-Err.is) ∙ c.satellite_card.ensures.satellites_acard_after in record {
      satellites_stored = rw (← read) ((λ angles. (refl, mains-kept c.args.cards.now c.args.ratios.now c.satellite_card.new.ratios angles c.args.sat.now c.satellite_card.new.angles c.args.here.mains c.args.here.satellites c.requires.3 c.satellite_card.ensures.as_before.0)));
      grown = (tt, c.requires.4, c.satellite_card.ensures.as_before.1);
    }
