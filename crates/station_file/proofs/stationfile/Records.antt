-- Laws of the constituent cards: one card on, none left, room for a record, and a record stored as the last.
-- By the clauses of the definitions. Rests on the laws of lines and of rows.
use mathlib.Core.Path.{◌≡◌, refl, ◌∙◌}
use Prim.Native.Nat.{ℕ, zero, suc, ◌+◌, ◌≤◌, ◌<◌}
use mathlib.Core.List.{List, [], ◌∷◌, ◌++◌}
use native.Mathlib.Omega.{arith}
use native.Mathlib.Nat.{zero-add}
use native.Mathlib.Numerals.{add-one}
use lib.IntN.{ℤ}
use lib.ListN.{length, set, drop, length-drop}
use lib.Seq.{get_or-set_same, get_or-set_other}
use Rattle.limits.specs.Limits.{most_records}
use Rattle.columns.specs.Lines.{lines_of, first_line, rest_lines}
use Rattle.columns.proofs.Lines.{lines_next, lines_none}
use Rattle.table.specs.inner.View.{listed}
use Rattle.table.proofs.Rows.{listed_same, listed-one-more}
use Rattle.card.specs.declared.faults.What.TheVariants.{File}
use Rattle.card.specs.declared.faults.Trouble.TheVariants.{TooManyRecords, NoStationCard}
use Rattle.card.specs.Faults.{only}
use Rattle.card.specs.Card.{gives}
use Rattle.card.proofs.lines.Openings.{had-room}
use Rattle.card.proofs.lines.Walk.{lines_end}
use Rattle.station.specs.declared.records.Record.{Record}
use Rattle.station.specs.declared.records.Rows.{Rows}
use Rattle.station.specs.Records.{record_from, records_from}
use Rattle.station.specs.inner.Rows.{put_row}
use Rattle.station.specs.Records.{records_of}
use Rattle.station.proofs.records.Copies.{records-length}
use Rattle.station_file.specs.Cards.{station_card, record_fields, next_record}
use Rattle.std.specs.Prelude.{Option, Result}
use Rattle.card.specs.declared.faults.Fault.{Fault}
use Rattle.card.specs.inner.Lines.{next_gives}
use Rattle.station_file.specs.Station.{given, refused, onward, records_on, behind_card, station_lines, station_file}

-- a card that gives a record had room
pub record-room : (names : List (List ℕ)) (count : ℕ) (line : List ℕ) (r : Record) → gives r ≡ next_record names count line → count < most_records
unfolding next_record
record-room names count line r e = had-room most_records TooManyRecords count line (record_fields names line) r (rw e)

-- the cards from byte `at` on, after the first `count` records of the rows: the card there, or none left
module _ (latitude : ℤ) (names : List (List ℕ)) (file : List ℕ) (at : ℕ) (rows : Rows) (count : ℕ) where
  pub records-here : (line : List ℕ) (r : Result (Option Record) Fault) → at < length file → line ≡ first_line (drop at file) → next_gives (λ r. r) r ≡ next_record names count line
      → records_on latitude names (lines_of (drop at file)) (count + 2) (records_of rows count)
      ≡ onward (next_gives (λ r. r) r) (count + 2) (given latitude (records_of rows count))
      (λ r. records_on latitude names (lines_of (rest_lines (drop at file))) (count + 1 + 2) (records_of rows count ++ (r ∷ [])))
  unfolding records_on
  records-here line r h first card =
      let next : count + 1 + 2 ≡ count + 2 + 1 = omega arith in
      rw (lines_next (drop at file) (omega (arith, length-drop at file)), records-length rows.places rows.amplitudes rows.phases 0 count, card, first, next)

  pub records-end : length file ≤ at → records_on latitude names (lines_of (drop at file)) (count + 2) (records_of rows count) ≡ given latitude (records_of rows count)
  unfolding records_on
  records-end h = rw (lines_end file at h)

-- a file's first line, or none
module _ (names : List (List ℕ)) (file : List ℕ) where
  pub file-here : 0 < length file → station_file names file ≡ behind_card (station_card (first_line file)) (λ latitude. records_on latitude names (lines_of (rest_lines file)) 2 [])
  unfolding station_file station_lines
  file-here h = rw (lines_next file h)

  pub file-empty : length file ≡ 0 → station_file names file ≡ refused (only File NoStationCard) 1
  unfolding station_file station_lines
  file-empty h = rw (lines_none file h)

-- the records of three lists, one by one
records-listed : (ps ms fs : List ℕ) (k n : ℕ) → records_from ps ms fs k n ≡ listed (record_from ps ms fs) k n
unfolding records_from listed
records-listed ps ms fs k zero = refl
records-listed ps ms fs k (suc n) = rw (records-listed ps ms fs (k + 1) n, add-one k)

-- a record stored behind the first k is the last of k + 1
pub records-put : (rows : Rows) (k p a f : ℕ) → k < length rows.places → k < length rows.amplitudes → k < length rows.phases
    → records_of (put_row rows k p a f) (k + 1) ≡ records_of rows k ++ (record { place = p; amplitude = a; phase = f } ∷ [])
records-put rows k p a f hp ha hf =
    let ps = rows.places in
    let ms = rows.amplitudes in
    let fs = rows.phases in
    let new = record_from (set ps k p) (set ms k a) (set fs k f) in
    rw (records-listed (set ps k p) (set ms k a) (set fs k f) 0 (k + 1), records-listed ps ms fs 0 k)
    (listed-one-more new 0 k
    ∙ rw (
      zero-add k,
      get_or-set_same ps k p 0 hp,
      get_or-set_same ms k a 0 ha,
      get_or-set_same fs k f 0 hf,
      listed_same new (record_from ps ms fs) 0 k
          (λ i l h. rw (get_or-set_other ps k i p 0 (λ e. omega arith), get_or-set_other ms k i a 0 (λ e. omega arith), get_or-set_other fs k i f 0 (λ e. omega arith))),
    ))
