-- `card_frequencies::frequencies::read_frequencies` meets its contract. The loop keeps that reading on from here gives what reading the whole part gives.
-- Rests on the laws of part 1.
use borrow.Author.Rules.{rules}
use native.Mathlib.Omega.{arith}
use mathlib.Core.Path.{◌≡◌, refl, sym, ap, ◌∙◌}
use Rattle.std.specs.Prelude.{Ok}
use Prim.Native.Nat.{◌*◌, ◌<◌}
use lib.ListN.{length}
use lib.Seq.{sets, length-sets}
use Rattle.columns.specs.Columns.{columns}
use Rattle.columns.proofs.Columns.{length-padded}
use Rattle.table.specs.inner.View.{listed}
use Rattle.limits.specs.Limits.{most_frequencies}
use Rattle.card.specs.Formats.{frequency_name}
use Rattle.card_frequencies.specs.inner.Answers.{frequency_on}
use Rattle.card.specs.inner.Lines.{next_gives}
use Rattle.card_frequencies.proofs.frequencies.Rows.{frequency-room, frequency-put, frequencies-end}
use Rattle.card_frequencies.proofs.frequencies.Rows.{frequencies-step}
use Rattle.card_frequencies.proofs.frequencies.read_frequencies.Goals as goal

pub loop-at-init : goal.loop-at-init
unfolding listed
loop-at-init c =
    (omega arith, omega arith, omega arith, refl, refl, refl)

pub after_line-next-requires : goal.after_line-next-requires
after_line-next-requires c =
    (search rules, ap length c.line_at-line.ensures)

pub returns-in-Ok-None : goal.returns-in-Ok-None
returns-in-Ok-None c =
    record {
      count_value = rw (frequencies-step c.args.file.now c.loop-at.at c.loop-at.n c.loop-at.names c.loop-at.speeds c.loop-at.count c.after_line-next.result c.line_at-line.result.now c.frequency_card.result c.loop-at-test.true c.line_at-line.ensures c.after_line-next.ensures.2 c.frequency_card.ensures, c.in-Ok-None.is, c.in-Ok-None.field-0-is) at c.loop-at.invariant.5;
      within_file = ((omega arith, omega arith), c.loop-at.invariant.2);
    }

pub put_name-requires : goal.put_name-requires
put_name-requires c =
    (frequency-room c.loop-at.names c.line_at-line.result.now c.loop-at.count _ (sym c.frequency_card.ensures ∙ ap (next_gives (frequency_on c.line_at-line.result.now)) (c.in-Ok-Some.is ∙ ap Ok c.in-Ok-Some.field-0-is)), omega arith)

pub bounds-speeds-count : goal.bounds-speeds-count
bounds-speeds-count c =
    frequency-room c.loop-at.names c.line_at-line.result.now c.loop-at.count _ (sym c.frequency_card.ensures ∙ ap (next_gives (frequency_on c.line_at-line.result.now)) (c.in-Ok-Some.is ∙ ap Ok c.in-Ok-Some.field-0-is))

pub returns-in-Err : goal.returns-in-Err
returns-in-Err c =
    record {
      count_value = rw (frequencies-step c.args.file.now c.loop-at.at c.loop-at.n c.loop-at.names c.loop-at.speeds c.loop-at.count c.after_line-next.result c.line_at-line.result.now c.frequency_card.result c.loop-at-test.true c.line_at-line.ensures c.after_line-next.ensures.2 c.frequency_card.ensures, c.in-Err.is) at c.loop-at.invariant.5;
      within_file = tt;
    }

pub overflow_add-count : goal.overflow_add-count
overflow_add-count c =
    omega (arith, c.loop-at.invariant.2)

pub loop-at-preserved : goal.loop-at-preserved
loop-at-preserved c =
    let room : c.loop-at.count < most_frequencies = frequency-room c.loop-at.names c.line_at-line.result.now c.loop-at.count _ (sym c.frequency_card.ensures ∙ ap (next_gives (frequency_on c.line_at-line.result.now)) (c.in-Ok-Some.is ∙ ap Ok c.in-Ok-Some.field-0-is)) in
    let put : c.put_name.new.names ≡ sets c.loop-at.names (5 * c.loop-at.count) (columns c.line_at-line.result.now frequency_name 5) = c.put_name.ensures in
    let len : length c.loop-at.names ≡ 5 * most_frequencies = c.loop-at.invariant.3 in (
      omega arith,
      omega arith,
      omega arith,
      ap length put ∙ length-sets c.loop-at.names (5 * c.loop-at.count) (columns c.line_at-line.result.now frequency_name 5) ∙ len,
      search rules,
      rw (put, frequency-put c.loop-at.names c.loop-at.speeds (columns c.line_at-line.result.now frequency_name 5) c.in-Ok-Some.frequency c.loop-at.count (length-padded 32 c.line_at-line.result.now frequency_name 5) (omega arith) (omega arith))
          (rw (frequencies-step c.args.file.now c.loop-at.at c.loop-at.n c.loop-at.names c.loop-at.speeds c.loop-at.count c.after_line-next.result c.line_at-line.result.now c.frequency_card.result c.loop-at-test.true c.line_at-line.ensures c.after_line-next.ensures.2 c.frequency_card.ensures, c.in-Ok-Some.is, c.in-Ok-Some.field-0-is) at c.loop-at.invariant.5),
    )

pub returns : goal.returns
returns c =
    record {
      count_value = rw c.only.ensures (rw (frequencies-end c.args.file.now c.loop-at.at c.loop-at.n c.loop-at.names c.loop-at.speeds c.loop-at.count c.loop-at-test.false) at c.loop-at.invariant.5);
      within_file = tt;
    }
