-- A byte more of the message is a byte more of the division; past the last nothing is left.
use Rattle.files.specs.Crc.{crc}
use Rattle.files.proofs.checksum.Division.{bytes-more, bytes-none}
use Rattle.files.proofs.checksum.crc32.Goals as goal

pub loop-b-preserved : goal.loop-b-preserved
loop-b-preserved c =
    rw (bytes-more c.loop-b.r c.loop-b.b-index c.args.bytes.now c.loop-b-test.true, ← c.byte-r.ensures) at c.loop-b.invariant

pub returns : goal.returns
unfolding crc
returns c = rw (rw (bytes-none c.loop-b.r c.loop-b.b-index c.args.bytes.now c.loop-b-test.false) at c.loop-b.invariant)
