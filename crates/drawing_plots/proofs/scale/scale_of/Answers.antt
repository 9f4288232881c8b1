-- `drawing_plots::scale::scale_of` meets its contract: the lines around the extent hold it. Assumes nothing.
use native.Mathlib.Omega.{arith}
use borrow.Author.Tests.{lt-ltb, le-ltb}
use Rattle.drawing_plots.proofs.scale.scale_of.Goals as goal

pub returns-then-low-above : goal.returns-then-low-above
returns-then-low-above c =
    record { step = c.round_step-step.ensures; low = c.line_below-low.ensures.is; high = rw (← c.line_above-above.ensures.is, lt-ltb _ _ c.if-low-above.true); holds-low = c.line_below-low.ensures.holds; holds-high = c.line_above-above.ensures.holds; rises = c.if-low-above.true }

pub returns : goal.returns
returns c =
    record { step = c.round_step-step.ensures; low = c.line_below-low.ensures.is; high = rw (← c.line_above-above.ensures.is, le-ltb _ _ c.if-low-above.false); holds-low = c.line_below-low.ensures.holds; holds-high = omega (arith, c.line_above-above.ensures.holds); rises = omega (arith, c.round_step-step.result.some) }
