-- Only inner contracts cite this: what the code's answer stands for.
-- Assumes nothing.
use Rattle.std.specs.Prelude.{◌≤◌, ◌≡◌, Result, Ok, Err, IfOk}
use Rattle.limits.specs.Limits.{most_records}
use Rattle.station.specs.Records.{records_of}
use Rattle.card.specs.declared.lines.Misread.{Misread}
use Rattle.station_file.specs.Station.{StationFile, given, refused}
use Rattle.station_file.specs.declared.stationfile.StationCards.{StationCards}

-- the first `count` records of the rows are the file's own; what is wrong with a refused one is told
abbrev pub file_read : Result StationCards Misread → StationFile
file_read (Ok s) = given s.latitude (records_of s.rows s.count)
file_read (Err e) = refused e.fault e.line

-- what a file gives is told
abbrev pub Told : StationFile → Result StationCards Misread → Type 0
Told file read = (file_read read ≡ file) × IfOk read (λ s. s.count ≤ most_records)
