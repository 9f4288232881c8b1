-- Only inner contracts cite this: what the code's rows of part 3 stand for in 01's terms.
use Rattle.std.specs.Prelude.{Option, Some, None, Result, Ok, Err, ℕ, ◌+◌, ◌*◌, ◌≤◌, ◌<◌, min, ◌≡◌, List, length, get_or, ℤ}
use Rattle.limits.specs.Limits.{most_mains, most_satellites, satellites_a_card}
use Rattle.table.specs.inner.View.{listed, naturals, main_of}
use Rattle.table.specs.Table.{Main}
use Rattle.card.specs.inner.Answers.{card_gives}
use Rattle.card.specs.inner.Lines.{next_gives}
use Rattle.card.specs.Card.{Next}
use Rattle.card.specs.declared.faults.Fault.{Fault}
use Rattle.card_mains.specs.Mains.{MainCard, satellites_in}
use Rattle.card_mains.specs.inner.Satellites.{SatelliteRoom}
use Rattle.card_constituents.specs.declared.rows.MainRows.{MainRows}
use Rattle.card_constituents.specs.Satellites.{with_card}

-- the arrays of mains have all their rows
abbrev pub MainRoom : List ℕ → List ℤ → Type 0
MainRoom cards angles = (length cards ≡ 3 * most_mains) × (length angles ≡ 7 * most_mains)

abbrev pub Room : MainRows → Type 0
Room rows = MainRoom rows.cards rows.angles × SatelliteRoom rows.sat rows.ratios

-- the satellites of main k: its row has its place, its first satellite, and their count
abbrev pub satellite_count : List ℕ → ℕ → ℕ
satellite_count cards k = get_or (naturals 3 cards k) 2 0

-- where they end
abbrev pub satellites_end : List ℕ → ℕ → ℕ
satellites_end cards k = get_or (naturals 3 cards k) 1 0 + satellite_count cards k

-- no main has a satellite past those stored
abbrev pub Stored : List ℕ → ℕ → ℕ → Type 0
Stored cards mains satellites = (k : ℕ) → k < mains → satellites_end cards k ≤ satellites

-- the mains of the table
abbrev pub mains_in : List ℕ → List ℤ → List ℤ → List ℕ → ℕ → List Main
mains_in cards angles satelliteangles satelliteratios count = listed (main_of cards angles satelliteangles satelliteratios) 0 count

-- the satellites stored are as many as the mains have
abbrev pub Counted : List ℕ → List ℤ → List ℤ → List ℕ → ℕ → ℕ → Type 0
Counted cards angles satelliteangles satelliteratios mains satellites = satellites_in (mains_in cards angles satelliteangles satelliteratios mains) ≡ satellites

-- and so of the rows' struct; the last is the one that stands behind those stored
abbrev pub mains_of : MainRows → ℕ → List Main
mains_of rows count = mains_in rows.cards rows.angles rows.sat rows.ratios count

abbrev pub last_main : MainRows → ℕ → Main
last_main rows mains = main_of rows.cards rows.angles rows.sat rows.ratios mains

abbrev pub StoredCounted : MainRows → ℕ → ℕ → Type 0
StoredCounted rows mains satellites = Counted rows.cards rows.angles rows.sat rows.ratios mains satellites

-- a constituent card, with its main as stored
abbrev pub step_gives : Result (Option ℕ) Fault → Main → Next MainCard
step_gives step m = next_gives (λ count. record { main = m; count = count }) step

-- the constituent card, its main being as stored, whatever the rows of satellites hold
abbrev pub MainStored : Result (Option ℕ) Fault → List ℕ → List ℤ → ℕ → Next MainCard → Type 0
MainStored step cards angles m card = (sat : List ℤ) (ratios : List ℕ) → step_gives step (main_of cards angles sat ratios m) ≡ card

-- the mains stored before, as they were, whatever the rows of satellites hold
abbrev pub MainsKept : List ℕ → List ℤ → List ℕ → List ℤ → ℕ → Type 0
MainsKept cards angles before anglesbefore m = (sat : List ℤ) (ratios : List ℕ) → mains_in cards angles sat ratios m ≡ mains_in before anglesbefore sat ratios m

-- a main that a card gives had room, for its satellites too, and has none so far
abbrev pub Begun : Result (Option ℕ) Fault → List ℕ → ℕ → ℕ → Type 0
Begun (Ok None) cards m satellites = Unit
Begun (Ok (Some count)) cards m satellites = (m < most_mains) × (satellites + count ≤ most_satellites) × (satellites_end cards m ≡ satellites) × Stored cards m satellites × (satellite_count cards m ≡ 0)
Begun (Err fault) cards m satellites = Unit

-- a main with a satellite card more has its satellites behind those of the mains before
abbrev pub Grown : Result Unit Fault → List ℕ → List ℕ → ℕ → ℕ → ℕ → Type 0
Grown (Ok u) cards before m satellites count =
    (satellites_end cards m ≡ satellites + min count satellites_a_card) × Stored cards m satellites × (satellite_count cards m ≡ satellite_count before m + min count satellites_a_card)
Grown (Err fault) cards before m satellites count = Unit

-- the mains of rows of cards and of satellites, over rows of Doodson numbers and phases
abbrev pub mains_over : List ℕ → List ℤ → List ℕ → List ℤ → ℕ → Main
mains_over cards sat ratios angles = main_of cards angles sat ratios

-- main m, its rows being changed, has the satellites of the card; the mains before are as they were
abbrev pub SatellitesStored : Result Unit Fault → (List ℤ → ℕ → Main) → (List ℤ → ℕ → Main) → ℕ → ℕ → List ℕ → Type 0
SatellitesStored check stored before m count line =
    (angles : List ℤ) → (card_gives (λ _. stored angles m) check ≡ with_card (before angles m) count line) × (listed (stored angles) 0 m ≡ listed (before angles) 0 m)
