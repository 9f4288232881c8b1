-- Dividing by the bits left gives what dividing by all of them gives.
use Rattle.std.proofs.Common.{◌-◌, ◌≡◌}
use Rattle.files.specs.Crc.{bits_of, divided}
use Rattle.files.proofs.checksum.byte.Given as goal

abbrev pub invariant-loop-i : goal.invariant-loop-i
invariant-loop-i l = divided l.r (bits_of (8 - l._i) l.rest) ≡ divided l.register (bits_of 8 l.b)
