-- Only inner contracts cite this: what the reader's answers stand for.
-- Assumes nothing.
use Rattle.std.specs.Prelude.{List, ℕ, Option, Some, None, Result, Ok, Err}
use Rattle.refusals.specs.Outcome.{Outcome, accepted, refused, number_of}
use Rattle.refusals.specs.declared.Refused.{Refused}
use Rattle.table.specs.declared.Table as code
use Rattle.table.specs.Table.{Table}
use Rattle.table.specs.inner.View.{table_of}
use Rattle.card.specs.Card as card
use Rattle.card.specs.Card.{Reading}
use Rattle.card.specs.inner.Lines.{reading_gives}
use Rattle.card.specs.declared.faults.Fault.{Fault}
use Rattle.card.specs.declared.lines.Misread.{Misread}
use Rattle.card_file.specs.declared.reader.Parsed.{Parsed}

-- the table, or what is wrong
abbrev pub parsed_gives : List ℕ → Result Parsed Misread → Reading Table
parsed_gives file p = reading_gives file (λ r. r.reached) (λ r. table_of r.table) p

-- "accepted whole or refused", with the table where it is accepted
abbrev pub outcome_of : Result code.Table Refused → Outcome Table
outcome_of (Ok table) = accepted (table_of table)
outcome_of (Err e) = refused (number_of e.refusal) e.place

-- what is wrong, if anything is
abbrev pub check_of : Reading Table → Option Fault
check_of (card.given table lines n) = None
check_of (card.refused fault n) = Some fault
