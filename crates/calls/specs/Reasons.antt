-- 01, 9: "minutes outside the month [..], or step out of range": which of these turns a series down.
-- Assumes nothing.
use Rattle.std.specs.Prelude.{ℕ, cond, ltb, Option, Some, None}
use Rattle.calls.specs.Asked.{last_minute, step_outside}
use Rattle.calls.specs.declared.reasons.Reason.{Reason}
use Rattle.calls.specs.declared.reasons.Reason.TheVariants.{Start, Step, End}

-- the first of the three that does, if one does
unfoldable pub series_reason : ℕ → ℕ → ℕ → ℕ → Option Reason
series_reason last start step places =
    cond (ltb last start) (Some Start) (cond (step_outside step) (Some Step) (cond (ltb last (last_minute start step places)) (Some End) None))
