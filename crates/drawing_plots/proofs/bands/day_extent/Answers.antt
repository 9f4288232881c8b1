-- `drawing_plots::bands::day_extent` meets its contract: the two parts widen the extent one after the other. Assumes nothing.
use Rattle.drawing_plots.proofs.bands.day_extent.Goals as goal

pub returns : goal.returns
returns c =
    record { lowest = cc; highest = cc }
