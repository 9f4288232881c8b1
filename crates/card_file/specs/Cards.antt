-- 01, The card file: the whole of it. Its four parts in order, then that every frequency is defined.
use Rattle.std.specs.Prelude.{Option, Some, None, ℕ, zero, suc, ◌+◌, List, [], ◌++◌, cond, length}
use Rattle.columns.specs.Lines.{lines_of}
use Rattle.refusals.specs.Outcome as outcome
use Rattle.refusals.specs.Outcome.{Outcome}
use Rattle.table.specs.Table.{Table}
use Rattle.card.specs.declared.faults.What.TheVariants.{Name}
use Rattle.card.specs.declared.faults.Trouble.TheVariants.{NoDefinition}
use Rattle.card.specs.Faults.{only, fault_number}
use Rattle.card.specs.Formats.{longitude_field, increase_field}
use Rattle.refusals.specs.Places.{is_among}
use Rattle.card.specs.Card.{Reading, given, refused}
use Rattle.card_frequencies.specs.Frequencies.{names_of, frequencies_from}
use Rattle.card_frequencies.specs.Longitudes.{five_from}
use Rattle.card_mains.specs.Mains.{main_places}
use Rattle.card_constituents.specs.Constituents.{mains_from}
use Rattle.card_shallows.specs.Shallows.{shallow_places, shallows_from}

-- one part of the file, and then the next
abbrev pub followed : {A B : Type 0} → Reading A → (A → List (List ℕ) → ℕ → Reading B) → Reading B
followed (given a lines n) next = next a lines n
followed (refused fault n) next = refused fault n

-- "Undefined frequency names come last, in their order": the first of n places from k on that is not among those defined
unfoldable pub first_undefined : List ℕ → ℕ → ℕ → Option ℕ
first_undefined defined k zero = None
first_undefined defined k (suc n) = cond (is_among k defined) (first_undefined defined (k + 1) n) (Some k)

-- "5 frequency without definition". A part 1 card has no card before it but of part 1, so place k stands on line k + 1.
abbrev pub unless_undefined : {A : Type 0} → Option ℕ → Reading A → Reading A
unless_undefined None reading = reading
unless_undefined (Some k) reading = refused (only Name NoDefinition) (k + 1)

-- the table of a card file, from its bytes, or what is wrong with a line; "lines after it are ignored"
unfoldable pub read_cards : List ℕ → Reading Table
read_cards file =
    followed (frequencies_from (lines_of file) 1 []) λ frequencies lines n.
    followed (five_from longitude_field lines n) λ longitudes lines n.
    followed (five_from increase_field lines n) λ increases lines n.
    followed (mains_from (names_of frequencies) lines n []) λ mains lines n.
    followed (shallows_from (names_of frequencies) (main_places mains) lines n []) λ shallows lines n.
    unless_undefined (first_undefined (main_places mains ++ shallow_places shallows) 0 (length frequencies))
    (given (record { frequencies = frequencies; longitudes = longitudes; increases = increases; mains = mains; shallows = shallows }) lines n)

-- what it comes to in the terms of every call: the table, or the number of the fault's refusal and its line, from 1
abbrev pub outcome_in : Reading Table → Outcome Table
outcome_in (given table lines n) = outcome.accepted table
outcome_in (refused fault line) = outcome.refused (fault_number fault) line

unfoldable pub cards_outcome : List ℕ → Outcome Table
cards_outcome file = outcome_in (read_cards file)
