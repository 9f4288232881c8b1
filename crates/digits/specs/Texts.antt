-- Texts of a station card: a name or a zone stands left in its columns, with blanks behind it. Assumes nothing.
use Rattle.std.specs.Prelude.{ℕ, List, [], ◌∷◌, Bool, cond, ◌&&◌, ◌||◌}
use Rattle.columns.specs.Bytes.{blank, every}
use Rattle.columns.specs.Names.{same}

-- a text without the blanks at its end: what begins with blanks and has nothing else behind them is left out
unfoldable pub trimmed : List ℕ → List ℕ
trimmed [] = []
trimmed (b ∷ bs) = cond (blank b && every blank bs) [] (b ∷ trimmed bs)

-- the names of Greenwich's time: nothing, GMT, UT and UTC
unfoldable pub names_greenwich : List ℕ → Bool
names_greenwich word =
    same word []
    || same word (71 ∷ 77 ∷ 84 ∷ [])
    || same word (85 ∷ 84 ∷ [])
    || same word (85 ∷ 84 ∷ 67 ∷ [])

-- a zone that is Greenwich's
abbrev pub greenwich : List ℕ → Bool
greenwich zone = names_greenwich (trimmed zone)
