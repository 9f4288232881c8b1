-- The check value of CRC-32: that of the nine bytes "123456789". By computing.
use mathlib.Core.Path.{◌≡◌, refl}
use mathlib.Core.List.{[], ◌∷◌}
use Rattle.files.specs.Crc.{crc, divided, step, bits_of, message_bits}

pub check-value : crc (49 ∷ 50 ∷ 51 ∷ 52 ∷ 53 ∷ 54 ∷ 55 ∷ 56 ∷ 57 ∷ []) ≡ 0xCBF4_3926
unfolding crc divided step bits_of message_bits
check-value = refl
