-- `calls::reasons::series_reason` meets its contract: the start, the step, then the last minute, by the laws of `Past`. Assumes nothing.
use native.Mathlib.Omega.{arith}
use borrow.Author.Tests.{lt-ltb, le-ltb}
use Rattle.calls.specs.Reasons.{series_reason}
use Rattle.calls.proofs.reasons.Past.{in-range, past_is, none-past}
use Rattle.calls.proofs.reasons.series_reason.Goals as goal

pub returns-then-last-start : goal.returns-then-last-start
unfolding series_reason
returns-then-last-start c =
    simp (lt-ltb _ _ c.if-last-start.true)

pub returns-then-step-lt1 : goal.returns-then-step-lt1
unfolding series_reason
returns-then-step-lt1 c =
    simp (le-ltb _ _ c.if-last-start.false, lt-ltb _ _ c.if-step-lt1.true)

pub returns-then-step-gt-STEP : goal.returns-then-step-gt-STEP
unfolding series_reason
returns-then-step-gt-STEP c =
    simp (le-ltb _ _ c.if-last-start.false, le-ltb _ _ c.if-step-lt1.false, lt-ltb _ _ c.if-step-gt-STEP.true)

pub returns-then-places-eq0 : goal.returns-then-places-eq0
returns-then-places-eq0 c =
    rw (in-range c.args.last c.args.start c.args.step c.args.places (omega arith) (omega arith) (omega arith), ← none-past c.args.last c.args.start c.args.step c.args.places (omega arith) c.if-places-eq0.true)

pub returns-then-last-start-2 : goal.returns-then-last-start-2
returns-then-last-start-2 c =
    rw (in-range c.args.last c.args.start c.args.step c.args.places (omega arith) (omega arith) (omega arith), ← past_is c.args.last c.args.start c.args.step c.args.places (omega arith) (omega arith) (omega arith), lt-ltb _ _ c.if-last-start-2.true)

pub returns : goal.returns
returns c =
    rw (in-range c.args.last c.args.start c.args.step c.args.places (omega arith) (omega arith) (omega arith), ← past_is c.args.last c.args.start c.args.step c.args.places (omega arith) (omega arith) (omega arith), le-ltb _ _ c.if-last-start-2.false)
