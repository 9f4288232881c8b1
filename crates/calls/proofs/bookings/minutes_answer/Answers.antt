-- `calls::bookings::minutes_answer` meets its contract: the first minute that is outside is the answer. Assumes nothing.
use Prim.Native.Nat.{◌+◌}
use native.Mathlib.Omega.{arith}
use mathlib.Core.Path.{refl, sym, ◌∙◌}
use Rattle.calls.proofs.bookings.Minutes.{minutes-out, minutes-in, minutes-none}
use Rattle.calls.proofs.bookings.minutes_answer.Goals as goal

pub loop-k-init : goal.loop-k-init
loop-k-init c = refl

pub returns-then-minute_outside : goal.returns-then-minute_outside
returns-then-minute_outside c =
    rw c.at.ensures (sym (minutes-out c.args.last c.args.minutes.now c.loop-k.k (c.loop-k.k + 1) (omega arith) (sym c.minute_outside.ensures ∙ c.if-minute_outside.true)) ∙ c.loop-k.invariant)

pub loop-k-preserved : goal.loop-k-preserved
loop-k-preserved c =
    sym (minutes-in c.args.last c.args.minutes.now c.loop-k.k (c.loop-k.k + 1) (omega arith) (sym c.minute_outside.ensures ∙ c.if-minute_outside.false)) ∙ c.loop-k.invariant

pub returns : goal.returns
returns c =
    sym (minutes-none c.args.last c.args.minutes.now c.loop-k.k (c.loop-k.k + 1) (omega arith)) ∙ c.loop-k.invariant
