-- 01, The card file: "short lines count as padded with blanks".
use Rattle.std.specs.Prelude.{ℕ, zero, suc, ◌+◌, List, [], ◌∷◌, get_or}

-- n bytes of a row from byte k on, with a filler for those past its end
unfoldable pub padded : ℕ → List ℕ → ℕ → ℕ → List ℕ
padded filler row k zero = []
padded filler row k (suc n) = get_or row k filler ∷ padded filler row (k + 1) n

-- column k of a line, from 0
abbrev pub column : List ℕ → ℕ → ℕ
column line k = get_or line k 32

-- a field: `width` columns of a line from column `from` on
abbrev pub columns : List ℕ → ℕ → ℕ → List ℕ
columns = padded 32
