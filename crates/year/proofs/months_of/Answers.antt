-- `year::months_of` meets its contract: the minutes of one more month while there are any, and those of twelve make the year's.
use mathlib.Core.Path.{◌≡◌, refl}
use Prim.Native.Nat.{ℕ, ◌+◌, ◌<◌}
use native.Mathlib.Omega.{arith}
use lib.ListN.{get_or}
use Rattle.calendar.specs.Calendar.{month_minutes, months_a_year}
use Rattle.calendar.proofs.Months.{minutes-short}
use Rattle.year.proofs.Minutes.{put_last, year-minutes}
use Rattle.year.proofs.months_of.Goals as goal

pub loop-m-preserved : goal.loop-m-preserved
loop-m-preserved c =
    put_last c.args.year c.loop-m.last-items c.loop-m.m c.month_minutes.result (omega arith) c.loop-m.invariant c.month_minutes.ensures

pub returns : goal.returns
returns c =
    let all : c.loop-m.m ≡ months_a_year = omega arith in
    let are : (m : ℕ) → m < months_a_year → get_or c.loop-m.last-items m 0 ≡ month_minutes c.args.year (m + 1) = rw all at c.loop-m.invariant in
    record {
      is = record { constituents = refl; twelve = refl; lasts = are };
      following = record { some = omega arith; most = omega arith; count = c.requires; lasts = λ m h. rw (are m h) (minutes-short c.args.year (m + 1)) };
      last = year-minutes c.args.year c.loop-m.last-items are;
    }
