-- Only inner contracts cite this: what the code's answers on a satellite's fields stand for in 01's terms.
use Rattle.std.specs.Prelude.{take}
use Rattle.table.specs.Table.{mark_of, Satellite}
use Rattle.card_mains.specs.declared.satellitefields.SatelliteRead.{SatelliteRead}

-- a satellite of a card
abbrev pub satellite_read : SatelliteRead → Satellite
satellite_read s = record { differences = take 3 s.differences; phase = s.phase; ratio = s.ratio; mark = mark_of s.mark }
