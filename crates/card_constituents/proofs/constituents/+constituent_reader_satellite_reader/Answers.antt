-- `card_constituents::constituents::constituent_reader` and `satellite_reader` meet their contracts together, by induction on the bytes left.
-- Each call is given what the card's rows hold (`Begun`, `Grown`); what is left to read is a law of part 3, with the branch taken.
use Prim.Native.Nat.{ℕ, ◌+◌}
use mathlib.Core.Path.{◌≡◌, sym, ap, subst, ◌∙◌}
use native.Mathlib.Omega.{arith}
use native.Mathlib.Nat.{add-zero}
use native.Mathlib.Numerals.{add-one-le}
use lib.ListN.{length}
use borrow.Author.Tests.{eq-eqb, ne_eqb, le-leb, lt-leb}
use Rattle.columns.specs.Names.{names_from}
use Rattle.table.specs.inner.View.{main_of}
use Rattle.limits.specs.Limits.{satellites_a_card}
use Rattle.std.specs.Prelude.{Option, Some, None, Result, Ok}
use Rattle.card.specs.declared.faults.Fault.{Fault}
use Rattle.card_constituents.specs.inner.Rows.{mains_in, Begun, Grown}
use Rattle.card_constituents.proofs.constituents.OfMains.{stored-one-more, one_more, counted-begun, counted-grown, mains-end, mains-step, satellites-end, satellites-step}
use Rattle.card_constituents.proofs.constituents.+constituent_reader_satellite_reader.Goals as goal

pub constituent_reader-returns-then-file-at : goal.constituent_reader-returns-then-file-at
constituent_reader-returns-then-file-at t c =
    record {
      mains_after = rw c.ended.ensures (sym (mains-end (names_from c.args.names.now 0 c.args.known) c.args.file.now c.args.here.reached.at c.args.here.reached.line (mains_in c.args.rows.now.cards c.args.rows.now.angles c.args.rows.now.sat c.args.rows.now.ratios c.args.here.mains) c.if-file-at.true));
      within_file = tt;
    }

pub constituent_reader-line_at-line-requires : goal.constituent_reader-line_at-line-requires
constituent_reader-line_at-line-requires t c =
    c.requires.0

pub constituent_reader-next_card-next-requires : goal.constituent_reader-next_card-next-requires
constituent_reader-next_card-next-requires t c =
    (c.if-file-at.false, ap length c.line_at-line.ensures, c.requires.1)

pub constituent_reader-read_main-requires : goal.constituent_reader-read_main-requires
constituent_reader-read_main-requires t c =
    (c.requires.2, c.requires.3, c.requires.4, c.requires.5, c.requires.6.0)

pub constituent_reader-with_more-requires : goal.constituent_reader-with_more-requires
constituent_reader-with_more-requires t c =
    let angles = c.read_main.new.angles in
    let told : c.read_main.result ≡ Ok (Some c.in-Ok-Some.count) = rw c.in-Ok-Some.field-0-is at c.in-Ok-Some.is in
    let begun = subst (λ (step : Result (Option ℕ) Fault). Begun step c.read_main.new.cards c.args.here.mains c.args.here.satellites) told c.read_main.ensures.begun.0 in
    (omega (arith, begun.0, c.next_card-next.ensures.n_value.1), omega (arith, c.requires.4, c.next_card-next.ensures.n_value.2))

pub constituent_reader-constituent_reader-requires : goal.constituent_reader-constituent_reader-requires
constituent_reader-constituent_reader-requires t c =
    let told : c.read_main.result ≡ Ok (Some c.in-Ok-Some.count) = rw c.in-Ok-Some.field-0-is at c.in-Ok-Some.is in
    let begun = subst (λ (step : Result (Option ℕ) Fault). Begun step c.read_main.new.cards c.args.here.mains c.args.here.satellites) told c.read_main.ensures.begun.0 in
    rw (c.with_more.ensures, c.next_card-next.ensures.n_value.0, c.next_card-next.ensures.n_value.1, c.next_card-next.ensures.n_value.2, add-zero c.args.here.satellites) (
      omega (arith, c.decreases, c.next_card-next.ensures.at_lt_at.0, c.next_card-next.ensures.at_lt_at.1),
      (c.next_card-next.ensures.at_lt_at.1, omega (arith, c.requires.1, c.next_card-next.ensures.at_lt_at.0), c.requires.2, add-one-le begun.0, c.requires.4, stored-one-more c.read_main.new.cards c.args.here.mains c.args.here.satellites c.args.here.satellites (omega arith) begun.3 (omega (arith, begun.2)), (c.read_main.ensures.begun.1, c.requires.6.1), counted-begun c.read_main.new.cards c.args.rows.now.cards c.args.rows.now.ratios c.read_main.new.angles c.args.rows.now.angles c.args.rows.now.sat c.args.here.mains c.args.here.satellites c.read_main.ensures.mains_kept begun.4 c.requires.7),
    )

pub constituent_reader-satellite_reader-requires : goal.constituent_reader-satellite_reader-requires
constituent_reader-satellite_reader-requires t c =
    let told : c.read_main.result ≡ Ok (Some c.in-Ok-Some.count) = rw c.in-Ok-Some.field-0-is at c.in-Ok-Some.is in
    let begun = subst (λ (step : Result (Option ℕ) Fault). Begun step c.read_main.new.cards c.args.here.mains c.args.here.satellites) told c.read_main.ensures.begun.0 in
    rw (c.in-Ok-Some.field-0-is, c.next_card-next.ensures.n_value.0, c.next_card-next.ensures.n_value.1, c.next_card-next.ensures.n_value.2) (
      omega (arith, c.decreases, c.next_card-next.ensures.at_lt_at.0, c.next_card-next.ensures.at_lt_at.1),
      (c.next_card-next.ensures.at_lt_at.1, omega (arith, c.requires.1, c.next_card-next.ensures.at_lt_at.0), c.requires.2, begun.0, begun.1, begun.2, begun.3, (c.read_main.ensures.begun.1, c.requires.6.1), counted-begun c.read_main.new.cards c.args.rows.now.cards c.args.rows.now.ratios c.read_main.new.angles c.args.rows.now.angles c.args.rows.now.sat c.args.here.mains c.args.here.satellites c.read_main.ensures.mains_kept begun.4 c.requires.7),
    )

pub constituent_reader-returns-in-Ok-None : goal.constituent_reader-returns-in-Ok-None
constituent_reader-returns-in-Ok-None t c =
    let told : c.read_main.result ≡ Ok None = rw c.in-Ok-None.field-0-is at c.in-Ok-None.is in record {
      mains_after = rw (c.next_card-next.ensures.n_value.0, c.next_card-next.ensures.n_value.1) (sym (rw told at (mains-step (names_from c.args.names.now 0 c.args.known) c.args.file.now c.args.here.reached.at c.next_card-next.result.reached.at c.args.here.reached.line c.line_at-line.result.now c.if-file-at.false c.line_at-line.ensures c.next_card-next.ensures.at_lt_at.2 c.args.here.mains c.args.here.satellites
          c.read_main.new.cards c.args.rows.now.cards c.read_main.new.angles c.args.rows.now.angles c.args.rows.now.sat c.args.rows.now.ratios c.read_main.result c.read_main.ensures.main_stored c.read_main.ensures.mains_kept c.requires.7)));
      within_file = rw (c.next_card-next.ensures.n_value.0, c.next_card-next.ensures.n_value.1) ((c.next_card-next.ensures.at_lt_at.1, omega (arith, c.requires.1, c.next_card-next.ensures.at_lt_at.0)), c.requires.3);
    }

pub constituent_reader-returns-then-count-eq0 : goal.constituent_reader-returns-then-count-eq0
constituent_reader-returns-then-count-eq0 t c =
    let told : c.read_main.result ≡ Ok (Some c.in-Ok-Some.count) = rw c.in-Ok-Some.field-0-is at c.in-Ok-Some.is in
    let none : c.in-Ok-Some.count ≡ 0 = rw c.in-Ok-Some.field-0-is at c.if-count-eq0.true in record {
      mains_after = c.constituent_reader.ensures.mains_after ∙ rw (c.with_more.ensures, c.next_card-next.ensures.n_value.0, c.next_card-next.ensures.n_value.1, one_more (main_of c.read_main.new.cards c.read_main.new.angles c.args.rows.now.sat c.args.rows.now.ratios) (main_of c.args.rows.now.cards c.args.rows.now.angles c.args.rows.now.sat c.args.rows.now.ratios) c.args.here.mains (c.read_main.ensures.mains_kept c.args.rows.now.sat c.args.rows.now.ratios))
          (sym (rw (told, eq-eqb _ 0 none) at (mains-step (names_from c.args.names.now 0 c.args.known) c.args.file.now c.args.here.reached.at c.next_card-next.result.reached.at c.args.here.reached.line c.line_at-line.result.now c.if-file-at.false c.line_at-line.ensures c.next_card-next.ensures.at_lt_at.2 c.args.here.mains c.args.here.satellites
          c.read_main.new.cards c.args.rows.now.cards c.read_main.new.angles c.args.rows.now.angles c.args.rows.now.sat c.args.rows.now.ratios c.read_main.result c.read_main.ensures.main_stored c.read_main.ensures.mains_kept c.requires.7)));
      within_file = c.constituent_reader.ensures.within_file;
    }

pub constituent_reader-returns-else-count-eq0 : goal.constituent_reader-returns-else-count-eq0
constituent_reader-returns-else-count-eq0 t c =
    let told : c.read_main.result ≡ Ok (Some c.in-Ok-Some.count) = rw c.in-Ok-Some.field-0-is at c.in-Ok-Some.is in
    let some : c.in-Ok-Some.count ≡ 0 → ⊥ = rw c.in-Ok-Some.field-0-is at c.if-count-eq0.false in record {
      mains_after = c.satellite_reader.ensures.mains_after ∙ rw (c.in-Ok-Some.field-0-is, c.next_card-next.ensures.n_value.0, c.next_card-next.ensures.n_value.1) (sym (rw (told, ne_eqb _ 0 some) at (mains-step (names_from c.args.names.now 0 c.args.known) c.args.file.now c.args.here.reached.at c.next_card-next.result.reached.at c.args.here.reached.line c.line_at-line.result.now c.if-file-at.false c.line_at-line.ensures c.next_card-next.ensures.at_lt_at.2 c.args.here.mains c.args.here.satellites
          c.read_main.new.cards c.args.rows.now.cards c.read_main.new.angles c.args.rows.now.angles c.args.rows.now.sat c.args.rows.now.ratios c.read_main.result c.read_main.ensures.main_stored c.read_main.ensures.mains_kept c.requires.7)));
      within_file = c.satellite_reader.ensures.within_file;
    }

pub constituent_reader-returns-in-Err : goal.constituent_reader-returns-in-Err
constituent_reader-returns-in-Err t c =
    record {
      mains_after = rw c.refused.ensures (sym (rw c.in-Err.is at (mains-step (names_from c.args.names.now 0 c.args.known) c.args.file.now c.args.here.reached.at c.next_card-next.result.reached.at c.args.here.reached.line c.line_at-line.result.now c.if-file-at.false c.line_at-line.ensures c.next_card-next.ensures.at_lt_at.2 c.args.here.mains c.args.here.satellites
          c.read_main.new.cards c.args.rows.now.cards c.read_main.new.angles c.args.rows.now.angles c.args.rows.now.sat c.args.rows.now.ratios c.read_main.result c.read_main.ensures.main_stored c.read_main.ensures.mains_kept c.requires.7)));
      within_file = tt;
    }

pub satellite_reader-returns-then-file-at : goal.satellite_reader-returns-then-file-at
satellite_reader-returns-then-file-at t c =
    record {
      mains_after = rw c.ended.ensures (sym (satellites-end (names_from c.args.names.now 0 c.args.known) c.args.file.now c.args.here.reached.at c.args.here.reached.line (mains_in c.args.rows.now.cards c.args.rows.now.angles c.args.rows.now.sat c.args.rows.now.ratios c.args.here.mains)
          (main_of c.args.rows.now.cards c.args.rows.now.angles c.args.rows.now.sat c.args.rows.now.ratios c.args.here.mains) c.args.due c.if-file-at.true));
      within_file = tt;
    }

pub satellite_reader-line_at-line-requires : goal.satellite_reader-line_at-line-requires
satellite_reader-line_at-line-requires t c =
    c.requires.0

pub satellite_reader-next_card-next-requires : goal.satellite_reader-next_card-next-requires
satellite_reader-next_card-next-requires t c =
    (c.if-file-at.false, ap length c.line_at-line.ensures, c.requires.1)

pub satellite_reader-read_satellites-requires : goal.satellite_reader-read_satellites-requires
satellite_reader-read_satellites-requires t c =
    (c.requires.3, c.requires.4, c.requires.5, c.requires.6, c.requires.7.0.0, c.requires.7.1)

pub satellite_reader-with_more-requires : goal.satellite_reader-with_more-requires
satellite_reader-with_more-requires t c =
    let a = c.args in
    (omega (arith, c.requires.3, c.next_card-next.ensures.n_value.1), omega (arith, c.requires.4, c.next_card-next.ensures.n_value.2))

pub satellite_reader-constituent_reader-requires : goal.satellite_reader-constituent_reader-requires
satellite_reader-constituent_reader-requires t c =
    let grown = subst (λ (check : Result Unit Fault). Grown check c.read_satellites.new.cards c.args.rows.now.cards c.args.here.mains c.args.here.satellites c.args.due) c.in-Ok.is c.read_satellites.ensures.grown.0 in
    rw (c.with_more.ensures, c.next_card-next.ensures.n_value.0, c.next_card-next.ensures.n_value.1, c.next_card-next.ensures.n_value.2) (
      omega (arith, c.decreases, c.next_card-next.ensures.at_lt_at.0, c.next_card-next.ensures.at_lt_at.1),
      (c.next_card-next.ensures.at_lt_at.1, omega (arith, c.requires.1, c.next_card-next.ensures.at_lt_at.0), c.requires.2, add-one-le c.requires.3, c.requires.4, stored-one-more c.read_satellites.new.cards c.args.here.mains c.args.here.satellites (c.args.here.satellites + c.args.due) (omega arith) grown.1 (omega (arith, grown.0)), ((c.read_satellites.ensures.grown.1, c.requires.7.0.1), c.read_satellites.ensures.grown.2), counted-grown c.read_satellites.new.cards c.args.rows.now.cards c.read_satellites.new.ratios c.args.rows.now.ratios c.args.rows.now.angles c.read_satellites.new.sat c.args.rows.now.sat c.args.here.mains c.args.here.satellites c.args.due (c.read_satellites.ensures.satellites_stored c.args.rows.now.angles).1 (omega (arith, grown.2, c.if-due-le-SATELLITES_A_CARD.true)) c.requires.8),
    )

pub satellite_reader-with_more-more-requires : goal.satellite_reader-with_more-more-requires
satellite_reader-with_more-more-requires t c =
    let a = c.args in
    (omega (arith, c.requires.3, c.next_card-next.ensures.n_value.1), omega (arith, c.requires.4, c.next_card-next.ensures.n_value.2, c.if-due-le-SATELLITES_A_CARD.false))

pub satellite_reader-overflow_sub-due : goal.satellite_reader-overflow_sub-due
satellite_reader-overflow_sub-due t c =
    omega (arith, c.if-due-le-SATELLITES_A_CARD.false)

pub satellite_reader-satellite_reader-requires : goal.satellite_reader-satellite_reader-requires
satellite_reader-satellite_reader-requires t c =
    let grown = subst (λ (check : Result Unit Fault). Grown check c.read_satellites.new.cards c.args.rows.now.cards c.args.here.mains c.args.here.satellites c.args.due) c.in-Ok.is c.read_satellites.ensures.grown.0 in
    rw (c.with_more-more.ensures, c.next_card-next.ensures.n_value.0, c.next_card-next.ensures.n_value.1, c.next_card-next.ensures.n_value.2, add-zero c.args.here.mains) (
      omega (arith, c.decreases, c.next_card-next.ensures.at_lt_at.0, c.next_card-next.ensures.at_lt_at.1),
      (c.next_card-next.ensures.at_lt_at.1, omega (arith, c.requires.1, c.next_card-next.ensures.at_lt_at.0), c.requires.2, c.requires.3, omega (arith, c.requires.4, c.if-due-le-SATELLITES_A_CARD.false), omega (arith, grown.0, c.if-due-le-SATELLITES_A_CARD.false), (λ k h. omega (arith, grown.1 k h)), ((c.read_satellites.ensures.grown.1, c.requires.7.0.1), c.read_satellites.ensures.grown.2), counted-grown c.read_satellites.new.cards c.args.rows.now.cards c.read_satellites.new.ratios c.args.rows.now.ratios c.args.rows.now.angles c.read_satellites.new.sat c.args.rows.now.sat c.args.here.mains c.args.here.satellites satellites_a_card (c.read_satellites.ensures.satellites_stored c.args.rows.now.angles).1 (omega (arith, grown.2, c.if-due-le-SATELLITES_A_CARD.false)) c.requires.8),
    )

pub satellite_reader-returns-then-due-le-SATELLITES_A_CARD : goal.satellite_reader-returns-then-due-le-SATELLITES_A_CARD
satellite_reader-returns-then-due-le-SATELLITES_A_CARD t c =
    let p = c.requires in record {
      mains_after = c.constituent_reader.ensures.mains_after ∙ rw (c.with_more.ensures, c.next_card-next.ensures.n_value.0, c.next_card-next.ensures.n_value.1, one_more (main_of c.read_satellites.new.cards c.args.rows.now.angles c.read_satellites.new.sat c.read_satellites.new.ratios) (main_of c.args.rows.now.cards c.args.rows.now.angles c.args.rows.now.sat c.args.rows.now.ratios) c.args.here.mains (c.read_satellites.ensures.satellites_stored c.args.rows.now.angles).1)
          (sym (rw (c.in-Ok.is, le-leb _ satellites_a_card c.if-due-le-SATELLITES_A_CARD.true) at (satellites-step (names_from c.args.names.now 0 c.args.known) c.args.file.now c.args.here.reached.at c.next_card-next.result.reached.at c.args.here.reached.line c.line_at-line.result.now c.if-file-at.false c.line_at-line.ensures c.next_card-next.ensures.at_lt_at.2 c.args.here.mains
          c.read_satellites.new.cards c.args.rows.now.cards c.args.rows.now.angles c.read_satellites.new.sat c.args.rows.now.sat c.read_satellites.new.ratios c.args.rows.now.ratios c.read_satellites.result c.args.due c.read_satellites.ensures.satellites_stored)));
      within_file = c.constituent_reader.ensures.within_file;
    }

pub satellite_reader-returns-else-due-le-SATELLITES_A_CARD : goal.satellite_reader-returns-else-due-le-SATELLITES_A_CARD
satellite_reader-returns-else-due-le-SATELLITES_A_CARD t c =
    let p = c.requires in record {
      mains_after = c.satellite_reader.ensures.mains_after ∙ rw (c.with_more-more.ensures, c.next_card-next.ensures.n_value.0, c.next_card-next.ensures.n_value.1, add-zero c.args.here.mains) (sym (rw (c.in-Ok.is, lt-leb _ satellites_a_card c.if-due-le-SATELLITES_A_CARD.false) at (satellites-step (names_from c.args.names.now 0 c.args.known) c.args.file.now c.args.here.reached.at c.next_card-next.result.reached.at c.args.here.reached.line c.line_at-line.result.now c.if-file-at.false c.line_at-line.ensures c.next_card-next.ensures.at_lt_at.2 c.args.here.mains
          c.read_satellites.new.cards c.args.rows.now.cards c.args.rows.now.angles c.read_satellites.new.sat c.args.rows.now.sat c.read_satellites.new.ratios c.args.rows.now.ratios c.read_satellites.result c.args.due c.read_satellites.ensures.satellites_stored)));
      within_file = c.satellite_reader.ensures.within_file;
    }

pub satellite_reader-returns-in-Err : goal.satellite_reader-returns-in-Err
satellite_reader-returns-in-Err t c =
    record {
      mains_after = rw c.refused.ensures (sym (rw c.in-Err.is at (satellites-step (names_from c.args.names.now 0 c.args.known) c.args.file.now c.args.here.reached.at c.next_card-next.result.reached.at c.args.here.reached.line c.line_at-line.result.now c.if-file-at.false c.line_at-line.ensures c.next_card-next.ensures.at_lt_at.2 c.args.here.mains
          c.read_satellites.new.cards c.args.rows.now.cards c.args.rows.now.angles c.read_satellites.new.sat c.args.rows.now.sat c.read_satellites.new.ratios c.args.rows.now.ratios c.read_satellites.result c.args.due c.read_satellites.ensures.satellites_stored)));
      within_file = tt;
    }
