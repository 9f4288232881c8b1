-- `clock::bare` meets its contract: what it was given, and numbers that are 0. Assumes nothing.
use mathlib.Core.Path.{refl, ap, ◌∙◌}
use Rattle.station.specs.declared.Station.{Station}
use Rattle.clock.specs.View.{view}
use Rattle.clock.proofs.bare.Goals as goal

pub returns : goal.returns
unfolding view
returns c =
    record { cosines = c.cosines.ensures; flag = refl; same = refl; count = refl; last = refl; strides = ap (λ (s : Station). s.strides) c.no_station.ensures ∙ c.usual.ensures; there = refl }
