-- `station::strides::stride_outside` meets its contract: less than 1, or more than 720. Assumes nothing.
use Rattle.station.specs.Strides.{stride_outside}
use borrow.Author.Tests.{lt-ltb, le-ltb}
use Rattle.station.proofs.strides.stride_outside.Goals as goal

pub returns-then-minutes-lt1 : goal.returns-then-minutes-lt1
unfolding stride_outside
returns-then-minutes-lt1 c =
    rw (lt-ltb _ _ c.if-minutes-lt1.true)

pub returns : goal.returns
unfolding stride_outside
returns c =
    rw (le-ltb _ _ c.if-minutes-lt1.false)
