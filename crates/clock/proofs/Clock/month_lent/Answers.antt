-- `clock::Clock::month_lent` meets its contract: one month has the clock's rows (`OneMonth`). Assumes nothing.
use mathlib.Core.Path.{◌≡◌}
use borrow.Author.Rules.{rules}
use lib.ListN.{length}
use Rattle.limits.specs.Limits.{most_records}
use Rattle.month_prepared.specs.inner.Rows.{IsRow}
use Rattle.clock.proofs.OneMonth.{follows, has_rows, one_end, one-heights, one-slopes}
use Rattle.clock.proofs.Clock.month_lent.Goals as goal

pub returns : goal.returns
returns c =
    let vs : length c.args.self.now.arguments ≡ most_records = search rules in
    let ps : length c.args.self.now.ps ≡ most_records = search rules in
    let qs : length c.args.self.now.qs ≡ most_records = search rules in
    let row : IsRow c.args.self.now.arguments c.args.self.now.ps c.args.self.now.qs = record { arguments = vs; cosines = ps; sines = qs } in
    let months = c.one_month.result in
    let is = c.one_month.ensures in
    record {
      rows = λ sound. record {
        lent = record { table = sound.cosines; following = follows c.args.self.now months is row sound; rows = has_rows c.args.self.now months is row };
        frequencies = rw is.0 sound.month;
      };
      end = one_end c.args.self.now months is row;
      heights = one-heights c.args.self.now months is row;
      slopes = one-slopes c.args.self.now months is row;
    }
