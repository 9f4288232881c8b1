use Rattle.limits.specs.Limits.{most_frequencies, most_records}
use mathlib.Core.Path.{◌≡◌}
use mathlib.Core.List.{[]}
use Prim.Native.Nat.{◌+◌, ◌-◌, ◌≤◌, min}
use lib.ListN.{length, drop}
use Rattle.columns.specs.Lines.{lines_of}
use Rattle.columns.specs.Names.{names_from}
use Rattle.station.specs.Records.{records_of}
use Rattle.station_file.specs.Station.{records_on}
use Rattle.station_file.proofs.stationfile.read_records.Given as goal

abbrev pub invariant-loop-at : goal.invariant-loop-at
invariant-loop-at l = (l.at ≤ length l.file) × (l.count ≤ most_records) × (length l.rows.places ≡ most_records) × (length l.rows.amplitudes ≡ most_records) × (length l.rows.phases ≡ most_records)
    × (records_on l.latitude (names_from l.names 0 (min l.frequencies most_frequencies)) (lines_of (drop l.at l.file)) (l.count + 2) (records_of l.rows l.count) ≡ records_on l.latitude (names_from l.names 0 (min l.frequencies most_frequencies)) (lines_of (drop l.first l.file)) 2 [])

abbrev pub decreases-loop-at : goal.decreases-loop-at
decreases-loop-at l = length l.file - l.at
