-- 01, "Satellites and weights": the pair of a main and of a shallow-water constituent, by refusal 11.
use Rattle.std.specs.Prelude.{ℕ, List, [], ◌∷◌, map, get_or}
use Rattle.refusals.specs.Checked.{good, ◌>>=◌}
use Rattle.table.specs.Table.{Main, Part, Shallow}
use Rattle.month_satellites.specs.Latitude.{Factors}
use Rattle.month_satellites.specs.Satellites.{Pair, main_pair}
use Rattle.month_pairs.specs.Pairs.{Corrected, checked, times_main, start_pair}

-- 11: ".. for a main when summed"
unfoldable pub main_corrected : Factors → List ℕ → Main → Corrected
main_corrected g longitudes m = checked (main_pair g longitudes m.satellites)

-- ".. and is multiplied by each part's pair"; 11: ".. for a shallow record of its parts' mains too".
-- `mains` are the pairs of all mains. (A position past the last, which no accepted part has, counts as (2^20, 0).)
unfoldable pub times_part : List Corrected → Pair → Part → Corrected
times_part mains P q = times_main P (get_or mains q.main (good start_pair)) q.coefficient

-- ".. in card order"
unfoldable pub times_parts : List Corrected → Pair → List Part → Corrected
times_parts mains P [] = good P
times_parts mains P (q ∷ qs) = do
  Q ← times_part mains P q
  times_parts mains Q qs

-- from (2^20, 0), with the pairs of all mains
unfoldable pub pair_from_parts : List Corrected → Shallow → Corrected
pair_from_parts mains s = times_parts mains start_pair s.parts

abbrev pub shallow_corrected : Factors → List ℕ → List Main → Shallow → Corrected
shallow_corrected g longitudes mains s = pair_from_parts (map (main_corrected g longitudes) mains) s
