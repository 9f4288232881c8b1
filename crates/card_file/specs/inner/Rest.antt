-- Only inner contracts cite this: the rest of the reading, from each part on: what `read_cards` says behind the parts that were read, whose entries are in a table.
-- Assumes nothing.
use Rattle.std.specs.Prelude.{ℕ, List, [], ◌++◌, length}
use Rattle.table.specs.Table.{Main, Shallow, Table}
use Rattle.card.specs.Formats.{longitude_field, increase_field}
use Rattle.card_frequencies.specs.Frequencies.{names_of}
use Rattle.card_frequencies.specs.Longitudes.{five_from}
use Rattle.card_mains.specs.Mains.{main_places}
use Rattle.card_constituents.specs.Constituents.{mains_from}
use Rattle.card_shallows.specs.Shallows.{shallow_places, shallows_from}
use Rattle.card.specs.Card.{Reading, given}
use Rattle.card_file.specs.Cards.{followed, first_undefined, unless_undefined}

abbrev pub with_shallows : Table → List Shallow → Table
with_shallows t shallows =
    record { frequencies = t.frequencies; longitudes = t.longitudes; increases = t.increases; mains = t.mains; shallows = shallows }

abbrev pub with_mains : Table → List Main → Table
with_mains t mains =
    record { frequencies = t.frequencies; longitudes = t.longitudes; increases = t.increases; mains = mains; shallows = t.shallows }

abbrev pub with_longitudes : Table → List ℕ → List ℕ → Table
with_longitudes t longitudes increases =
    record { frequencies = t.frequencies; longitudes = longitudes; increases = increases; mains = t.mains; shallows = t.shallows }

unfoldable pub shallows_and : Table → List (List ℕ) → ℕ → Reading Table
shallows_and t lines n =
    followed (shallows_from (names_of t.frequencies) (main_places t.mains) lines n []) λ shallows rest m.
    unless_undefined (first_undefined (main_places t.mains ++ shallow_places shallows) 0 (length t.frequencies))
    (given (with_shallows t shallows) rest m)

unfoldable pub mains_and : Table → List (List ℕ) → ℕ → Reading Table
mains_and t lines n =
    followed (mains_from (names_of t.frequencies) lines n []) λ mains rest m. shallows_and (with_mains t mains) rest m

unfoldable pub longitudes_and : Table → List (List ℕ) → ℕ → Reading Table
longitudes_and t lines n =
    followed (five_from longitude_field lines n) λ longitudes rest m.
    followed (five_from increase_field rest m) λ increases rest m. mains_and (with_longitudes t longitudes increases) rest m
