-- 01, "Satellites and weights": "lent as one row of records: place, amplitude, phase"; the records lent, and the rows of the code's struct.
-- Assumes nothing.
use Rattle.std.specs.Prelude.{ℕ, zero, suc, ◌+◌, List, [], ◌∷◌, get_or}
use Rattle.station.specs.declared.records.Record.{Record}
use Rattle.station.specs.declared.records.Rows.{Rows}

-- record k of three lists
abbrev pub record_from : List ℕ → List ℕ → List ℕ → ℕ → Record
record_from places amplitudes phases k = record { place = get_or places k 0; amplitude = get_or amplitudes k 0; phase = get_or phases k 0 }

-- the n records from k on
unfoldable pub records_from : List ℕ → List ℕ → List ℕ → ℕ → ℕ → List Record
records_from places amplitudes phases k zero = []
records_from places amplitudes phases k (suc n) =
    record_from places amplitudes phases k ∷ records_from places amplitudes phases (k + 1) n

abbrev pub record_at : Rows → ℕ → Record
record_at rows k = record_from rows.places rows.amplitudes rows.phases k

-- the n records of the rows
abbrev pub records_of : Rows → ℕ → List Record
records_of rows n = records_from rows.places rows.amplitudes rows.phases 0 n
