-- 01: one card. "Cards go line by line, 1 first, then fields left to right, each 2, 3, 4, 5".
use Rattle.std.specs.Prelude.{ℕ, zero, suc, ◌+◌, List, [], ◌∷◌, ◌++◌, cond, leb, ℤ, Option, Some, None, Result, Ok, Err}
use Rattle.columns.specs.Bytes.{blank, every}
use Rattle.columns.specs.Lines.{line_good, blank_card}
use Rattle.columns.specs.Names.{place_of}
use Rattle.columns.specs.Columns.{columns}
use Rattle.fields.specs.declared.FieldError.{FieldError}
use Rattle.fields.specs.Number.{contents_of, ranged}
use Rattle.refusals.specs.Checked.{Checked, good, bad, ◌>>=◌}
use Rattle.refusals.specs.Places.{is_among}
use Rattle.card.specs.declared.faults.What.TheVariants as what
use Rattle.card.specs.declared.faults.Trouble.TheVariants as trouble
use Rattle.card.specs.declared.faults.Trouble.{Trouble}
use Rattle.card.specs.declared.faults.Fault.{Fault}
use Rattle.card.specs.declared.formats.NumberField.{NumberField}
use Rattle.card.specs.Faults.{only, bad_line, trouble_in}
use Rattle.card.specs.Formats.{fault_in}

-- what a card gives, or what it is refused for (the place is its line); `>>=` leads to what stands to the right of it
abbrev pub Card : Type 0 → Type 0
Card = Checked Fault

-- "2 malformed number", "3 number outside its stated range"
abbrev pub field_gives : NumberField → Result ℤ FieldError → Card ℤ
field_gives f (Ok v) = good v
field_gives f (Err error) = bad (fault_in f (trouble_in error))

-- what stands in a field of the line
abbrev pub field_on : List ℕ → NumberField → Result ℤ FieldError
field_on line f = ranged f.low f.high (contents_of f.format (columns line f.from f.width))

-- the number in a field of the line
unfoldable pub number : List ℕ → NumberField → Card ℤ
number line f = field_gives f (field_on line f)

-- n fields in a row, field k the next, after the numbers that stand left of it
unfoldable pub numbers_from : List ℕ → (ℕ → NumberField) → List ℤ → ℕ → ℕ → Card (List ℤ)
numbers_from line f left k zero = good left
numbers_from line f left k (suc n) = do
  v ← number line (f k)
  numbers_from line f (left ++ (v ∷ [])) (k + 1) n

-- the first n fields of a row of them
abbrev pub numbers : List ℕ → (ℕ → NumberField) → ℕ → Card (List ℤ)
numbers line f n = numbers_from line f [] 0 n

abbrev pub unless_found : Option ℕ → List ℕ → Card (List ℕ)
unless_found (Some place) name = bad (only what.Name trouble.Twice)
unless_found None name = good name

-- "4 a constituent's own name blank, or twice in part 1": the name on a frequency card, after those of the cards before it
unfoldable pub new_name : List (List ℕ) → List ℕ → Card (List ℕ)
new_name before name = cond (every blank name) (bad (only what.Name trouble.Blank)) (unless_found (place_of name before) name)

abbrev pub place_found : Option ℕ → Card ℕ
place_found (Some place) = good place
place_found None = bad (only what.Name trouble.NoFrequency)

-- the place of the frequency with a main or shallow constituent's own name: "4 a constituent's own name blank", "5 definition without frequency"
unfoldable pub place_named : List (List ℕ) → List ℕ → Card ℕ
place_named names name = cond (every blank name) (bad (only what.Name trouble.Blank)) (place_found (place_of name names))

-- that place, not defined so far: "4 twice in parts 3 and 4 together". Names stand once in part 1, so a name twice is a place twice,
-- and a name without frequency stands for none: it is 5.
unfoldable pub new_place : List (List ℕ) → List ℕ → List ℕ → Card ℕ
new_place names defined name = do
  place ← place_named names name
  cond (is_among place defined) (bad (only what.Name trouble.Twice)) (good place)

-- what the next card of part 1, 3 or 4 comes to: the part ends, or a card gives something, or fails
pub data Next (A : Type 0) : Type 0 where
  ends : Next A
  gives : A → Next A
  fails : Fault → Next A

-- whether its fields are to be read: "1 first"; "A blank card ends the part"; "a card past 160, 64 or 128 is 6 before its fields"
pub data Opening : Type 0 where
  blank_ends : Opening
  read_fields : Opening
  fails_first : Fault → Opening

-- after `before` cards of at most `most`; one more is `excess`
unfoldable pub opening : ℕ → Trouble → ℕ → List ℕ → Opening
opening most excess before line =
    cond (line_good line)
    (cond (blank_card line) blank_ends (cond (leb most before) (fails_first (only what.Card excess)) read_fields))
    (fails_first (bad_line line))

abbrev pub opened : {A : Type 0} → Opening → Card A → Next A
opened blank_ends card = ends
opened read_fields (good a) = gives a
opened read_fields (bad r) = fails r
opened (fails_first r) card = fails r

-- the next card on the line, after so many of `most`
abbrev pub next_card : {A : Type 0} → ℕ → Trouble → ℕ → List ℕ → Card A → Next A
next_card most excess before line card = opened (opening most excess before line) card

-- a card that must stand here, blank or not: a longitude card or a satellite card
unfoldable pub due_card : {A : Type 0} → List ℕ → Card A → Card A
due_card line card = cond (line_good line) card (bad (bad_line line))

-- what reading a part of the file comes to: what it gives, the lines after it and the number of the first of these; or what is wrong, and the line
pub data Reading (A : Type 0) : Type 0 where
  given : A → List (List ℕ) → ℕ → Reading A
  refused : Fault → ℕ → Reading A

-- "7 file ends inside a part; place: the line after the last": line n, after the last, where more of a part was due
abbrev pub ended : {A : Type 0} → Trouble → ℕ → Reading A
ended part n = refused (only what.File part) n

-- where the card on line n leads: on with what it gives, or to the refusal that it earns
abbrev pub onward : {A B : Type 0} → Card A → ℕ → (A → Reading B) → Reading B
onward (good a) n next = next a
onward (bad r) n next = refused r n

-- the same of the next card of a part, which may end it
abbrev pub onward_or_end : {A B : Type 0} → Next A → ℕ → Reading B → (A → Reading B) → Reading B
onward_or_end ends n end next = end
onward_or_end (gives a) n end next = next a
onward_or_end (fails r) n end next = refused r n
