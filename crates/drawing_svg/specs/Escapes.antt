-- How XML has a character of ASCII as text.
-- Assumes nothing.
use Rattle.std.specs.Prelude.{ℕ, cond, List, [], ◌∷◌, eqb}
use Rattle.drawing_svg.specs.Utf8.{is_from}

-- a character that can be seen, as it is; a question mark for what XML has not
unfoldable pub shown_as : ℕ → ℕ
shown_as byte = cond (is_from 32 126 byte) byte 63

-- &quot; &amp; &lt; &gt; for the four that XML keeps for itself, and one byte for any other
unfoldable pub written_of : ℕ → List ℕ
written_of byte =
    cond (eqb byte 34) (38 ∷ 113 ∷ 117 ∷ 111 ∷ 116 ∷ 59 ∷ [])
    (cond (eqb byte 38) (38 ∷ 97 ∷ 109 ∷ 112 ∷ 59 ∷ [])
    (cond (eqb byte 60) (38 ∷ 108 ∷ 116 ∷ 59 ∷ [])
    (cond (eqb byte 62) (38 ∷ 103 ∷ 116 ∷ 59 ∷ [])
    (shown_as byte ∷ []))))
