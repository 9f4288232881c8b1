-- 01, "Satellites and weights": what a station is. "Turned down by the input": how its records are checked, and in which order.
-- Assumes nothing.
use Prim.{Unit}
use Rattle.std.specs.Prelude.{ℕ, ◌+◌, List, [], ◌∷◌, Bool, length, leb, ltb, ℤ, pos, neg_ℤ}
use Rattle.std.specs.Int.Signed.{lt_z}
use Rattle.limits.specs.Limits.{most_amplitude, most_latitude, most_phase, most_records}
use Rattle.refusals.specs.Places.{is_among}
use Rattle.refusals.specs.Outcome.{Outcome, accepted, refuse_if, ◌>>◌}
use Rattle.station.specs.declared.records.Record.{Record}
use Rattle.station.specs.declared.strides.Strides.{Strides}
use Rattle.station.specs.Strides.{strides_outside}

-- "A station is a latitude in signed minutes [..] and at most 146 constituents [..] lent as one row of records: place, amplitude, phase."
-- 02, No. 6: "The station carries three stride lengths in minutes".
pub record Station : Type 0 where
  pub latitude : ℤ
  pub strides : Strides
  pub records : List Record

-- a station by what is lent: the latitude, the strides and the records
abbrev pub station_lent : ℤ → Strides → List Record → Station
station_lent latitude strides records = record { latitude = latitude; strides = strides; records = records }

-- "Amplitude is 0 to 65,535 tenths of a millimetre, phase lag 0 to 35,999 hundredths of a degree."
abbrev pub amplitude_outside : ℕ → Bool
amplitude_outside amplitude = ltb most_amplitude amplitude

abbrev pub phase_outside : ℕ → Bool
phase_outside phase = ltb most_phase phase

-- "each record's place (5, 4), amplitude, phase": the record number k, from 1, after records with the places `earlier`,
-- in a table with so many frequencies. "4 .. place repeated"
unfoldable pub record_outcome : ℕ → List ℕ → ℕ → Record → Outcome Unit
record_outcome frequencies earlier k r =
    refuse_if (leb frequencies r.place) 5 k
    (refuse_if (is_among r.place earlier) 4 k
    (refuse_if (amplitude_outside r.amplitude) 3 k (refuse_if (phase_outside r.phase) 3 k (accepted tt))))

-- the records from number k on, each in its turn
unfoldable pub records_outcome : ℕ → List ℕ → ℕ → List Record → Outcome Unit
records_outcome frequencies earlier k [] = accepted tt
records_outcome frequencies earlier k (r ∷ rs) = do
  record_outcome frequencies earlier k r
  records_outcome frequencies (r.place ∷ earlier) (k + 1) rs

-- "A station checks latitude (place 0), count (place 147, the first record too many), then each record". Latitude is -5,400 to 5,400.
-- 02, No. 6: "35, a stride outside its range, after the latitude and before the count of records"; its place is 0.
unfoldable pub station_outcome : ℕ → Station → Outcome Unit
station_outcome frequencies station =
    refuse_if (lt_z station.latitude (neg_ℤ (pos most_latitude))) 3 0
    (refuse_if (lt_z (pos most_latitude) station.latitude) 3 0
    (refuse_if (strides_outside station.strides) 35 0
    (refuse_if (ltb most_records (length station.records)) 6 (most_records + 1) (records_outcome frequencies [] 1 station.records))))
