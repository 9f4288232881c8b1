-- Only inner contracts cite this: what the code's structs stand for.
use Rattle.std.specs.Prelude.{ℕ, List, [], ◌∷◌}
use Rattle.table.specs.Table.{mark_of, Satellite}
use Rattle.month_satellites.specs.Satellites.{Pair}
use Rattle.month_satellites.specs.declared.satellites.Nodal as nodal
use Rattle.month_satellites.specs.declared.satellites.Satellite as satellite
use Rattle.month_satellites.specs.declared.satellites.Pair as two

-- (p, N', p')
abbrev pub longitudes_of : nodal.Nodal → List ℕ
longitudes_of l = l.perigee ∷ l.node ∷ l.solar ∷ []

abbrev pub the_satellite : satellite.Satellite → Satellite
the_satellite s = record { differences = s.first ∷ s.second ∷ s.third ∷ []; phase = s.phase; ratio = s.ratio; mark = mark_of s.mark }

abbrev pub pair_of : two.Pair → Pair
pair_of p = record { x = p.x; y = p.y }
