-- `card_shallows::shallows::read_shallows` meets its contract. The loop's invariant: the cards from this byte on, after the constituents in the rows,
-- give what part 4 gives. The measure is the bytes left. Rests on the laws of `Rows`.
use borrow.Author.Rules.{rules}
use mathlib.Core.Path.{◌≡◌, refl, ap, ◌∙◌}
use Prim.Native.Nat.{◌*◌, ◌<◌}
use native.Mathlib.Omega.{arith}
use lib.ListN.{length}
use lib.Seq.{sets, length-sets}
use Rattle.std.specs.Prelude.{Some, None, Ok}
use Rattle.columns.specs.Names.{names_from}
use Rattle.table.specs.inner.View.{listed}
use Rattle.limits.specs.Limits.{most_shallows}
use Rattle.card.specs.inner.Places.{places_in}
use Rattle.card_shallows.proofs.shallows.Rows.{shallow-room, shallow-put, shallows-step, shallows-end}
use Rattle.card_shallows.proofs.shallows.read_shallows.Goals as goal

pub loop-read-init : goal.loop-read-init
unfolding listed
loop-read-init c =
    (c.requires.0, omega arith, refl, refl, refl)

pub put_shallow-requires : goal.put_shallow-requires
put_shallow-requires c =
    let names = names_from c.args.table.now.names 0 c.args.table.now.frequencies in
    let mains = places_in 3 c.args.table.now.maincards c.args.table.now.mains in
    let told : c.next_shallow.result ≡ Ok (Some c.in-Ok-Some.row) = rw c.in-Ok-Some.field-0-is at c.in-Ok-Some.is in
    shallow-room names mains c.loop-read.read.cards c.line_at-line.result.now c.loop-read.read.count c.next_shallow.result c.in-Ok-Some.row told c.next_shallow.ensures

pub returns-in-Ok-None-clause-count_value : goal.returns-in-Ok-None-clause-count_value
returns-in-Ok-None-clause-count_value c =
    let names = names_from c.args.table.now.names 0 c.args.table.now.frequencies in
    let mains = places_in 3 c.args.table.now.maincards c.args.table.now.mains in
    let told : c.next_shallow.result ≡ Ok None = rw c.in-Ok-None.field-0-is at c.in-Ok-None.is in
    rw (shallows-step names mains c.args.file.now c.loop-read.read.reached.at c.loop-read.read.reached.line c.loop-read.read.cards c.loop-read.read.coefficients c.loop-read.read.count c.after_line.result c.line_at-line.result.now c.next_shallow.result c.loop-read-test.true c.line_at-line.ensures c.after_line.ensures.2 c.next_shallow.ensures, told) at c.loop-read.invariant.4

pub returns-in-Err-clause-count_value : goal.returns-in-Err-clause-count_value
returns-in-Err-clause-count_value c =
    let names = names_from c.args.table.now.names 0 c.args.table.now.frequencies in
    let mains = places_in 3 c.args.table.now.maincards c.args.table.now.mains in
    rw (shallows-step names mains c.args.file.now c.loop-read.read.reached.at c.loop-read.read.reached.line c.loop-read.read.cards c.loop-read.read.coefficients c.loop-read.read.count c.after_line.result c.line_at-line.result.now c.next_shallow.result c.loop-read-test.true c.line_at-line.ensures c.after_line.ensures.2 c.next_shallow.ensures, c.in-Err.is) at c.loop-read.invariant.4

pub loop-read-preserved : goal.loop-read-preserved
loop-read-preserved c =
    let names = names_from c.args.table.now.names 0 c.args.table.now.frequencies in
    let mains = places_in 3 c.args.table.now.maincards c.args.table.now.mains in
    let row = c.in-Ok-Some.row in
    let told : c.next_shallow.result ≡ Ok (Some row) = rw c.in-Ok-Some.field-0-is at c.in-Ok-Some.is in
    let room : c.loop-read.read.count < most_shallows = shallow-room names mains c.loop-read.read.cards c.line_at-line.result.now c.loop-read.read.count c.next_shallow.result row told c.next_shallow.ensures in
    let put : c.put_shallow.new.cards ≡ sets c.loop-read.read.cards (6 * c.loop-read.read.count) row.card = rw c.in-Ok-Some.field-0-is at c.put_shallow.ensures.cards_after in
    let put' : c.put_shallow.new.coefficients ≡ sets c.loop-read.read.coefficients (4 * c.loop-read.read.count) row.coefficients = rw c.in-Ok-Some.field-0-is at c.put_shallow.ensures.coefficients_after in
    let wide : length row.card ≡ 6 = search rules in
    let wide' : length row.coefficients ≡ 4 = search rules in (
      (omega arith, omega arith),
      omega arith,
      ap length put ∙ length-sets c.loop-read.read.cards (6 * c.loop-read.read.count) row.card ∙ c.loop-read.invariant.2,
      ap length put' ∙ length-sets c.loop-read.read.coefficients (4 * c.loop-read.read.count) row.coefficients ∙ c.loop-read.invariant.3,
      rw (put, put', shallow-put c.loop-read.read.cards c.loop-read.read.coefficients row.card row.coefficients c.loop-read.read.count wide wide' (omega arith) (omega arith))
          (rw (shallows-step names mains c.args.file.now c.loop-read.read.reached.at c.loop-read.read.reached.line c.loop-read.read.cards c.loop-read.read.coefficients c.loop-read.read.count c.after_line.result c.line_at-line.result.now c.next_shallow.result c.loop-read-test.true c.line_at-line.ensures c.after_line.ensures.2 c.next_shallow.ensures, told) at c.loop-read.invariant.4),
    )

pub returns-clause-count_value : goal.returns-clause-count_value
returns-clause-count_value c =
    let names = names_from c.args.table.now.names 0 c.args.table.now.frequencies in
    let mains = places_in 3 c.args.table.now.maincards c.args.table.now.mains in
    rw c.only.ensures (rw (shallows-end names mains c.args.file.now c.loop-read.read.reached.at c.loop-read.read.reached.line c.loop-read.read.cards c.loop-read.read.coefficients c.loop-read.read.count c.loop-read-test.false) at c.loop-read.invariant.4)
