-- `replay::answer_call` meets its contract: a call that sets something leaves a clock that a clock call made, any other leaves the clock as it was. Assumes nothing.
use Rattle.std.proofs.Common.{sym, subst}
use Rattle.clock.specs.View.{Made}
use Rattle.replay.proofs.answer_call.Goals as goal
use Rattle.replay.proofs.answer_call.Goals.{in-Cards, in-Station, in-Date, in-Height, in-Series, in-Turns, in-Year, in-Bookings, in-Hourly}

pub returns : goal.returns
returns g c =
    elim c.match-asked.branch [
      | in-Cards w ↦ subst Made (sym w.clock-is) w.put_after.ensures.1
      | in-Station w ↦ subst Made (sym w.clock-is) w.put_after-in-Station.ensures.1
      | in-Date w ↦ subst Made (sym w.clock-is) w.put_after-in-Date.ensures.1
      | in-Height w ↦ subst Made (sym w.clock-is) c.requires.made
      | in-Series w ↦ subst Made (sym w.clock-is) c.requires.made
      | in-Turns w ↦ subst Made (sym w.clock-is) c.requires.made
      | in-Year w ↦ subst Made (sym w.clock-is) c.requires.made
      | in-Bookings w ↦ subst Made (sym w.clock-is) c.requires.made
      | in-Hourly w ↦ subst Made (sym w.clock-is) c.requires.made
    ]
