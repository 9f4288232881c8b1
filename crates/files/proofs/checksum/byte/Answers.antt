-- A bit more of the byte is a step more of the division; past the eighth nothing is left.
use Rattle.files.proofs.checksum.Division.{bits-more, bits_none}
use Rattle.files.proofs.checksum.byte.Goals as goal

pub loop-i-preserved : goal.loop-i-preserved
loop-i-preserved c =
    rw (bits-more c.loop-i.r c.loop-i.rest c.loop-i._i 8 c.loop-i-test.true, ← c.step-r.ensures) at c.loop-i.invariant

pub returns : goal.returns
returns c = rw (bits_none c.loop-i.r c.loop-i.rest c.loop-i._i 8 c.loop-i-test.false) at c.loop-i.invariant
