-- CRC-32 as Ethernet, gzip and zlib have it (IEEE 802.3): the message's bits, each byte's lowest first, are divided bit by bit by the
-- polynomial x^32 + x^26 + x^23 + x^22 + x^16 + x^12 + x^11 + x^10 + x^8 + x^7 + x^5 + x^4 + x^2 + x + 1, whose highest power stands lowest.
-- Assumes nothing.
use Rattle.std.specs.Prelude.{ℕ, zero, suc, ◌-◌, ◌/◌, ◌%◌, List, [], ◌∷◌, ◌++◌, cond, eqb}
use Rattle.std.specs.Int.Bits.{bit_xor}

-- the polynomial without x^32, bit 31 - k for x^k
abbrev pub polynomial : ℕ
polynomial = 0xEDB8_8320

-- a register of ones: all bits of the register set
abbrev pub ones : ℕ
ones = 0xFFFF_FFFF

-- the n lowest bits of a byte, the lowest first
unfoldable pub bits_of : ℕ → ℕ → List ℕ
bits_of zero byte = []
bits_of (suc n) byte = byte % 2 ∷ bits_of n (byte / 2)

-- one bit of the message: the register moves on by a bit; where the bit that leaves it differs from the message's, the polynomial is subtracted
unfoldable pub step : ℕ → ℕ → ℕ
step register bit = cond (eqb (register % 2) bit) (register / 2) (bit_xor (register / 2) polynomial)

-- the register after a row of bits
unfoldable pub divided : ℕ → List ℕ → ℕ
divided register [] = register
divided register (b ∷ bs) = divided (step register b) bs

-- the bits of a message
unfoldable pub message_bits : List ℕ → List ℕ
message_bits [] = []
message_bits (b ∷ bs) = bits_of 8 b ++ message_bits bs

-- "start and final complement": the register starts with ones, and the checksum is what is left, each bit inverted
unfoldable pub crc : List ℕ → ℕ
crc message = ones - divided ones (message_bits message)
