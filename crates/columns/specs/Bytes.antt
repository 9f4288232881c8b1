-- Kinds of bytes, and how far a row of bytes keeps to a kind.
use Rattle.std.specs.Prelude.{ℕ, List, [], ◌∷◌, Bool, true, cond, ◌&&◌, leb, length, drop}

-- a byte from low to high
abbrev pub among : ℕ → ℕ → ℕ → Bool
among low high byte = leb low byte && leb byte high

-- the blank is byte 32
abbrev pub blank : ℕ → Bool
blank = among 32 32

-- every byte of the row is of the kind
unfoldable pub every : (ℕ → Bool) → List ℕ → Bool
every kind [] = true
every kind (b ∷ bs) = kind b && every kind bs

-- the bytes of the kind that the row begins with
unfoldable pub leading : (ℕ → Bool) → List ℕ → List ℕ
leading kind [] = []
leading kind (b ∷ bs) = cond (kind b) (b ∷ leading kind bs) []

-- the row behind those
unfoldable pub behind : (ℕ → Bool) → List ℕ → List ℕ
behind kind bs = drop (length (leading kind bs)) bs
