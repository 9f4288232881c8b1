-- `station::strides::strides_outside` meets its contract: one of the three lengths. Assumes nothing.
use mathlib.Core.Path.{sym, ◌∙◌}
use Rattle.station.specs.Strides.{strides_outside}
use Rattle.station.proofs.strides.strides_outside.Goals as goal

pub returns-then-stride_outside : goal.returns-then-stride_outside
unfolding strides_outside
returns-then-stride_outside c =
    rw (sym c.stride_outside.ensures ∙ c.if-stride_outside.true)

pub returns-then-stride_outside-2 : goal.returns-then-stride_outside-2
unfolding strides_outside
returns-then-stride_outside-2 c =
    rw (sym c.stride_outside.ensures ∙ c.if-stride_outside.false, sym c.stride_outside-2.ensures ∙ c.if-stride_outside-2.true)

pub returns : goal.returns
unfolding strides_outside
returns c =
    rw (c.stride_outside-3.ensures, sym c.stride_outside.ensures ∙ c.if-stride_outside.false, sym c.stride_outside-2.ensures ∙ c.if-stride_outside-2.false)
