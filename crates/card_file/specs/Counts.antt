-- What a card file comes to, in the struct that other languages see.
-- Assumes nothing.
use Rattle.std.specs.Prelude.{length}
use Rattle.refusals.specs.Outcome.{Outcome, accepted, refused}
use Rattle.table.specs.Table.{Table}
use Rattle.card_mains.specs.Mains.{satellites_in}
use Rattle.card_file.specs.declared.counts.Counts.{Counts}

-- "At most 160 frequencies [..], 64 mains, 256 satellites, 128 shallow": how many of each an accepted card file has; else the refusal's number and line
abbrev pub counts_of : Outcome Table → Counts
counts_of (accepted t) =
    record {
      number = 0;
      line = 0;
      frequencies = length t.frequencies;
      mains = length t.mains;
      satellites = satellites_in t.mains;
      shallows = length t.shallows;
    }
counts_of (refused number line) = record { number = number; line = line; frequencies = 0; mains = 0; satellites = 0; shallows = 0 }
