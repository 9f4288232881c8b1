-- Only inner contracts cite this: what the code's answers on lines stand for in 01's terms.
use Rattle.std.specs.Prelude.{ℕ, ◌+◌, ◌≤◌, ◌<◌, ◌≡◌, List, length, drop, Option, Some, None, Result, Ok, Err}
use Rattle.columns.specs.Lines.{lines_of, rest_lines}
use Rattle.card.specs.Card.{Next, ends, gives, fails, Reading, given, refused}
use Rattle.card.specs.Card as card
use Rattle.card.specs.declared.faults.Fault.{Fault}
use Rattle.card.specs.declared.lines.Reached.{Reached}
use Rattle.card.specs.declared.lines.Misread.{Misread}
use Rattle.card.specs.declared.lines.Opening.{Opening}
use Rattle.card.specs.declared.lines.Opening.TheVariants as opening

-- behind the line at a byte of the file the next starts at byte r, past its LF, or the file ends there
abbrev pub NextLine : List ℕ → ℕ → ℕ → Type 0
NextLine file at r = (at < r) × (r ≤ length file) × (drop r file ≡ rest_lines (drop at file))

-- how a card begins
abbrev pub opening_gives : Result Opening Fault → card.Opening
opening_gives (Ok opening.Ends) = card.blank_ends
opening_gives (Ok opening.Fields) = card.read_fields
opening_gives (Err fault) = card.fails_first fault

-- what the next card of a part comes to, as `means` has it; none: the part ends
abbrev pub next_gives : {A B : Type 0} → (A → B) → Result (Option A) Fault → Next B
next_gives means (Ok None) = ends
next_gives means (Ok (Some a)) = gives (means a)
next_gives means (Err fault) = fails fault

-- a part of the file: what it gives, and the lines behind the byte that was reached
abbrev pub reading_gives : {R A : Type 0} → List ℕ → (R → Reached) → (R → A) → Result R Misread → Reading A
reading_gives file reached means (Ok r) = given (means r) (lines_of (drop (reached r).at file)) (reached r).line
reading_gives file reached means (Err e) = refused e.fault e.line

-- a line takes a byte at least
abbrev pub WithinFile : List ℕ → Reached → Type 0
WithinFile file reached = (reached.at ≤ length file) × (reached.line ≤ reached.at + 1)
