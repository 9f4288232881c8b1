-- Only inner contracts cite this: the station of the code's struct, and what the code's functions make of it.
-- Assumes nothing.
use Rattle.std.specs.Prelude.{ℕ, zero, suc, ◌+◌, min, List, [], ◌∷◌, get_or, set, replicate, ℤ}
use Rattle.limits.specs.Limits.{most_records}
use Rattle.station.specs.declared.records.Rows.{Rows}
use Rattle.station.specs.Records.{records_from}
use Rattle.station.specs.declared.Station as code
use Rattle.station.specs.declared.strides.Strides.{Strides}
use Rattle.station.specs.Station.{Station}

-- the station of the code's struct
unfoldable pub station_of : code.Station → Station
station_of s = record { latitude = s.latitude; strides = s.strides; records = records_from s.places s.amplitudes s.lags 0 (min s.count most_records) }

-- the places of the first k records, the last one first
unfoldable pub places_before : List ℕ → ℕ → List ℕ
places_before places zero = []
places_before places (suc k) = get_or places k 0 ∷ places_before places k

-- ---- the station that is kept

abbrev pub no_station : ℤ → Strides → code.Station
no_station latitude strides =
    record { latitude = latitude; strides = strides; count = 0; places = replicate most_records 0; amplitudes = replicate most_records 0; lags = replicate most_records 0 }

abbrev pub put_record : code.Station → ℕ → ℕ → ℕ → ℕ → code.Station
put_record s k place amplitude phase =
    record { latitude = s.latitude; strides = s.strides; count = k + 1; places = set s.places k place; amplitudes = set s.amplitudes k amplitude; lags = set s.lags k phase }

-- a station with the first k records of the rows added
unfoldable pub station_upto : code.Station → Rows → ℕ → code.Station
station_upto empty rows zero = empty
station_upto empty rows (suc k) =
    put_record (station_upto empty rows k) k (get_or rows.places k 0) (get_or rows.amplitudes k 0) (get_or rows.phases k 0)
