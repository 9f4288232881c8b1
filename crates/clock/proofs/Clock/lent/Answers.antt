-- `clock::Clock::lent` meets its contract: the lists that are lent are the clock's. Assumes nothing.
use mathlib.Core.Path.{◌≡◌, refl}
use borrow.Author.Rules.{rules}
use lib.ListN.{length}
use Rattle.limits.specs.Limits.{most_records}
use Rattle.clock.proofs.Clock.lent.Goals as goal

pub returns : goal.returns
returns c =
    let vs : length c.args.self.now.arguments ≡ most_records = search rules in
    let ps : length c.args.self.now.ps ≡ most_records = search rules in
    let qs : length c.args.self.now.qs ≡ most_records = search rules in
    record {
      lent = λ made tabled. record { table = (made tabled).0; count = (made tabled).1.0; row = record { arguments = vs; cosines = ps; sines = qs } };
      constituents = refl;
    }
