-- Only inner contracts cite this: what every main is worked out from besides its rows of the table, and V and the pair of a main by it.
use Rattle.std.specs.Prelude.{ℕ, List, ℤ}
use Rattle.month_arguments.specs.Longitudes.{nodal}
use Rattle.month_arguments.specs.inner.Longitudes.{longitudes_of, Reduced}
use Rattle.month_satellites.specs.inner.Factors.{AreFactors, factors_of}
use Rattle.table.specs.declared.Table.{Table}
use Rattle.month_pairs.specs.Pairs.{Corrected}
use Rattle.month_workings.specs.inner.Kept.{argument_at, corrected_at, Kept}
use Rattle.month_workings.specs.declared.workings.Given.{Given}

-- the latitude factors and the longitudes are in their ranges
pub record IsGiven (given : Given) : Type 0 where
  pub factors : AreFactors given.factors
  pub longitudes : Reduced given.longitudes

-- V of main k of a table
abbrev pub argument_by : Given → Table → ℕ → ℕ
argument_by given t = argument_at (longitudes_of given.longitudes) t.mainangles given.mains

-- the pair of main k of a table, by refusal 11
abbrev pub corrected_by : Given → Table → ℕ → Corrected
corrected_by given t = corrected_at (factors_of given.factors) (nodal (longitudes_of given.longitudes)) t.maincards t.satelliteangles t.satelliteratios given.mains

-- what is kept of the mains is theirs
abbrev pub KeptBy : Given → Table → List ℤ → Type 0
KeptBy given t kept = Kept (argument_by given t) (corrected_by given t) kept
