-- Dividing by the bytes left gives what dividing by all of them gives.
use Rattle.std.proofs.Common.{drop, ◌≡◌}
use Rattle.files.specs.Crc.{ones, divided, message_bits}
use Rattle.files.proofs.checksum.crc32.Given as goal

abbrev pub invariant-loop-b : goal.invariant-loop-b
invariant-loop-b l = divided l.r (message_bits (drop l.b-index l.bytes)) ≡ divided ones (message_bits l.bytes)
