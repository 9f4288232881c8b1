-- 001, section 3.3: the station file, its cards in order. "Cards go line by line".
-- Assumes nothing.
use Prim.{Unit}
use Rattle.std.specs.Prelude.{ℕ, ◌+◌, List, [], ◌∷◌, ◌++◌, length, ℤ}
use Rattle.columns.specs.Lines.{lines_of}
use Rattle.refusals.specs.Checked.{good, bad}
use Rattle.refusals.specs.Outcome as outcome
use Rattle.refusals.specs.Outcome.{Outcome, accepted}
use Rattle.card.specs.declared.faults.What.TheVariants.{File}
use Rattle.card.specs.declared.faults.Trouble.TheVariants.{NoStationCard}
use Rattle.card.specs.declared.faults.Fault.{Fault}
use Rattle.card.specs.Faults.{fault_number, only}
use Rattle.card.specs.Card.{Card, Next, ends, gives, fails}
use Rattle.station.specs.declared.records.Record.{Record}
use Rattle.station_file.specs.Cards.{station_card, next_record}

-- what a station file comes to: its latitude in minutes and its records, record k on line k + 1; or what is wrong with it, and on which line, from 1
pub data StationFile : Type 0 where
  given : ℤ → List Record → StationFile
  refused : Fault → ℕ → StationFile

-- "A refusal returns its number and a place: card line"
abbrev pub file_outcome : StationFile → Outcome Unit
file_outcome (given latitude records) = accepted tt
file_outcome (refused fault line) = outcome.refused (fault_number fault) line

-- where a card on line n leads: to the end, on with its record, or to the refusal that it earns
abbrev pub onward : Next Record → ℕ → StationFile → (Record → StationFile) → StationFile
onward ends n end next = end
onward (gives r) n end next = next r
onward (fails fault) n end next = refused fault n

-- the constituent cards from line n on, after the records of those before. "The last constituent is followed by a blank card"; the end of the
-- file does as well, and lines behind the blank card are ignored.
unfoldable pub records_on : ℤ → List (List ℕ) → List (List ℕ) → ℕ → List Record → StationFile
records_on latitude names [] n before = given latitude before
records_on latitude names (line ∷ lines) n before =
    onward (next_record names (length before) line) n (given latitude before)
    (λ r. records_on latitude names lines (n + 1) (before ++ (r ∷ [])))

-- behind the station card on line 1
abbrev pub behind_card : Card ℤ → (ℤ → StationFile) → StationFile
behind_card (good latitude) next = next latitude
behind_card (bad fault) next = refused fault 1

-- the lines of a station file; an empty file is 7 at "the line after the last"
unfoldable pub station_lines : List (List ℕ) → List (List ℕ) → StationFile
station_lines names [] = refused (only File NoStationCard) 1
station_lines names (line ∷ lines) = behind_card (station_card line) (λ latitude. records_on latitude names lines 2 [])

-- a station file, from its bytes and the names of the card file's frequencies
unfoldable pub station_file : List (List ℕ) → List ℕ → StationFile
station_file names file = station_lines names (lines_of file)
