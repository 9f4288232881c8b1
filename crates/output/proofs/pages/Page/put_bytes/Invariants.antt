-- Behind the bytes that were put, the last of them stands before the place.
use Rattle.std.proofs.Common.{◌≡◌, ◌-◌, ◌<◌, get_or}
use Rattle.output.proofs.pages.Page.put_bytes.Given as goal

abbrev pub invariant-loop-byte : goal.invariant-loop-byte
invariant-loop-byte g l = 0 < l.byte-index → (0 < l.self.at) × (get_or l.self.bytes (l.self.at - 1) 0 ≡ get_or l.fn.bytes (l.byte-index - 1) 0)
