-- 01, Arguments and Satellites and weights: V and the pair X, Y of what stands at a place.
use Rattle.std.specs.Prelude.{ℕ, List, pos}
use Rattle.refusals.specs.Checked.{good}
use Rattle.table.specs.Table.{Main}
use Rattle.table.specs.Definitions.{Definition, main, shallow, undefined}
use Rattle.month_arguments.specs.Longitudes.{Longitudes, nodal}
use Rattle.month_arguments.specs.Arguments.{main_argument, shallow_argument}
use Rattle.month_satellites.specs.Latitude.{Factors}
use Rattle.month_pairs.specs.Pairs.{Corrected}
use Rattle.month_pairs.specs.Shallow.{main_corrected, shallow_corrected}

-- V, in ticks. (Nothing where there is no definition.)
unfoldable pub argument_of : Longitudes → List Main → Definition → ℕ
argument_of l mains (main m) = main_argument l m
argument_of l mains (shallow s) = shallow_argument l mains s
argument_of l mains undefined = 0

-- the pair, or none by refusal 11. (Nothing where there is no definition.)
unfoldable pub correction_of : Factors → Longitudes → List Main → Definition → Corrected
correction_of g l mains (main m) = main_corrected g (nodal l) m
correction_of g l mains (shallow s) = shallow_corrected g (nodal l) mains s
correction_of g l mains undefined = good (record { x = pos 0; y = pos 0 })
