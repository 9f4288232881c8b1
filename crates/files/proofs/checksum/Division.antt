-- Laws of the division: one bit more of a byte, one byte more of a message.
-- By the clauses of the definitions, and by induction on the bits. Assumes nothing.
use mathlib.Core.Path.{◌≡◌, refl}
use Prim.Native.Nat.{ℕ, suc, ◌+◌, ◌-◌, ◌/◌, ◌%◌, ◌≤◌, ◌<◌}
use mathlib.Core.List.{List, [], ◌∷◌, ◌++◌}
use native.Mathlib.Omega.{arith}
use native.Mathlib.Numerals.{add-one}
use lib.ListN.{length, get_or, drop, drop_of_length-le}
use lib.Seq.{drop-cons}
use Rattle.files.specs.Crc.{bits_of, step, divided, message_bits}

-- the bits of a byte from bit i on
pub bits-more : (r rest i n : ℕ) → i < n → divided r (bits_of (n - i) rest) ≡ divided (step r (rest % 2)) (bits_of (n - (i + 1)) (rest / 2))
unfolding divided bits_of
bits-more r rest i n h = let e : n - i ≡ suc (n - (i + 1)) = omega arith in rw e

pub bits_none : (r rest i n : ℕ) → n ≤ i → divided r (bits_of (n - i) rest) ≡ r
unfolding divided bits_of
bits_none r rest i n h = let e : n - i ≡ 0 = omega arith in rw e

-- one row of bits behind another
divided-both : (r : ℕ) (bs cs : List ℕ) → divided r (bs ++ cs) ≡ divided (divided r bs) cs
unfolding divided
divided-both r [] cs = refl
divided-both r (b ∷ bs) cs = divided-both (step r b) bs cs

-- the bytes of a message from byte i on
pub bytes-more : (r i : ℕ) (message : List ℕ) → i < length message
    → divided r (message_bits (drop i message)) ≡ divided (divided r (bits_of 8 (get_or message i 0))) (message_bits (drop (i + 1) message))
unfolding message_bits
bytes-more r i message h = rw (drop-cons message i 0 h, add-one i) (divided-both r (bits_of 8 (get_or message i 0)) (message_bits (drop (suc i) message)))

pub bytes-none : (r i : ℕ) (message : List ℕ) → length message ≤ i → divided r (message_bits (drop i message)) ≡ r
unfolding message_bits divided
bytes-none r i message h = rw (drop_of_length-le message h)
