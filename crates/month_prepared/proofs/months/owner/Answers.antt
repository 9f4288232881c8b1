-- `month_prepared::months::owner` meets its contract: the minutes of the months passed, and those left, make the minute.
use Prim.Native.Nat.{ℕ, ◌+◌, ◌-◌, ◌≤◌, ◌<◌}
use native.Mathlib.Omega.{arith}
use native.Mathlib.Nat.{zero-add}
use mathlib.Core.Path.{◌≡◌}
use mathlib.Core.List.{List}
use lib.IntN.{ℤ}
use lib.ListN.{get_or}
use Rattle.month_prepared.specs.declared.months.Months.{Months}
use Rattle.month_prepared.specs.inner.Rows.{Following, OwnerPost, last_of, minutes_after}
use Rattle.month_prepared.proofs.Owners.{minutes-next, owner_at}
use Rattle.month_prepared.proofs.months.owner.Goals as goal

module _ (months : Months) (month : ℕ) where
  -- the minutes of one month more
  more : minutes_after months.lasts 0 (month + 1) ≡ minutes_after months.lasts 0 month + get_or months.lasts month 0
  more = let e : 0 + month ≡ month = omega arith in rw e at (minutes-next months.lasts 0 month)

module _ (months : Months) (month left : ℕ) {minute : ℕ} (lies : minutes_after months.lasts 0 month + left ≡ minute) where
  -- the month where the passing ends owns the minute
  owns : month < months.many → Following months → left ≤ get_or months.lasts month 0 → (month + 1 < months.many → left < get_or months.lasts month 0)
      → OwnerPost months minute (record { month = month; minute = left })
  owns there follow within before =
      record {
        there = there;
        within = omega (arith, follow.lasts month there);
        lies = lies;
        before = before;
        owns = λ (arguments lags frequencies : List ℕ) (ps qs : List ℤ). rw lies at (owner_at arguments lags frequencies ps qs months month left there before);
      }

  -- in the last month, no more minutes are left than it has
  last : minute ≤ last_of months → months.many ≡ month + 1 → left ≤ get_or months.lasts month 0
  last within e = omega (arith, more months month, lies, rw e at within)

pub loop-month-init : goal.loop-month-init
unfolding minutes_after
loop-month-init c =
    zero-add c.args.minute

pub loop-month-preserved : goal.loop-month-preserved
loop-month-preserved c =
    omega (arith, more c.args.months c.loop-month.month)

pub returns-then-left-months : goal.returns-then-left-months
returns-then-left-months c =
    owns c.args.months c.loop-month.month c.loop-month.left c.loop-month.invariant (omega (arith, c.requires.0.some)) c.requires.0 (omega arith) (λ h. c.if-left-months.true)

pub returns : goal.returns
returns c =
    let some = c.requires.0.some in
    let e : c.args.months.many ≡ c.loop-month.month + 1 = omega arith in
    let here : c.loop-month.month ≡ c.args.months.many - 1 = omega arith in
    rw (← here)
    (owns c.args.months c.loop-month.month c.loop-month.left c.loop-month.invariant (omega arith) c.requires.0 (last c.args.months c.loop-month.month c.loop-month.left c.loop-month.invariant c.requires.1 e) (λ h. absurd (omega arith)))
