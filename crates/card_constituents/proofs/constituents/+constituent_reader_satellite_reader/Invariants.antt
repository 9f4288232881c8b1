use Prim.Native.Nat.{◌-◌}
use lib.ListN.{length}
use Rattle.card_constituents.proofs.constituents.+constituent_reader_satellite_reader.Given as goal

abbrev pub decreases-constituent_reader : goal.decreases-constituent_reader
decreases-constituent_reader l = length l.file.now - l.here.reached.at

abbrev pub decreases-satellite_reader : goal.decreases-satellite_reader
decreases-satellite_reader l = length l.file.now - l.here.reached.at
