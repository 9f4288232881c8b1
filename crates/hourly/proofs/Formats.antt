-- Entries that fit the items of a format: they are written in the format's columns, and read back by it.
-- By induction on the items, from the laws of one field. Assumes nothing.
use Prim.{Unit}
use mathlib.Core.Path.{◌≡◌, refl, sym, ◌∙◌}
use Prim.Native.Nat.{ℕ, suc, ◌+◌, ◌^◌, ◌<◌}
use mathlib.Core.List.{List, [], ◌∷◌, ◌++◌}
use lib.IntN.{nat_abs}
use lib.ListN.{length, replicate, length-replicate}
use lib.Seq.{take_at, drop_at}
use Rattle.refusals.specs.Outcome.{accepted}
use Rattle.columns.specs.Bytes.{every}
use Rattle.columns.specs.Columns.{columns}
use Rattle.columns.proofs.Columns.{padded-part, padded-all}
use Rattle.hourly.specs.Card.{Entry, value, gap}
use Rattle.hourly.specs.Format.{Item, I, X, A}
use Rattle.hourly.specs.Writing.{entry_written, written_by}
use Rattle.hourly.specs.Reading.{number_read, height_read, read_by}
use Rattle.hourly.proofs.Widths.{Holds, Printed, printed-append, printed-replicate, number_read_lem, number-printed, height-read, gap-read, gap-printed}

-- ---- what fits

abbrev pub FitsNumber : ℕ → Entry → Type 0
FitsNumber w (value z) = Holds w z
FitsNumber w gap = ⊥

-- a height that is not the nines of a gap, or a gap
abbrev pub FitsHeight : ℕ → Entry → Type 0
FitsHeight w (value z) = Holds w z × (suc (nat_abs z) < 10 ^ w)
FitsHeight w gap = Unit

-- an entry for each field, and it fits there
abbrev pub Fits : List Item → List Entry → Type 0
Fits [] [] = Unit
Fits [] (e ∷ es) = ⊥
Fits (X n ∷ items) es = Fits items es
Fits (I w ∷ items) [] = ⊥
Fits (I w ∷ items) (e ∷ es) = FitsNumber w e × Fits items es
Fits (A w ∷ items) [] = ⊥
Fits (A w ∷ items) (e ∷ es) = FitsHeight w e × Fits items es

-- the columns of a format
abbrev pub columns_of : List Item → ℕ
columns_of [] = 0
columns_of (X n ∷ items) = n + columns_of items
columns_of (I w ∷ items) = w + columns_of items
columns_of (A w ∷ items) = w + columns_of items

-- ---- one field

field-number : (w : ℕ) (e : Entry) → FitsNumber w e → Printed w (entry_written w e) × ((place : ℕ) → number_read place (entry_written w e) ≡ accepted e)
field-number w (value z) h = (number-printed w z h, number_read_lem w z h)
field-number w gap h = absurd h

field-height : (w : ℕ) (e : Entry) → FitsHeight w e → Printed w (entry_written w e) × ((place : ℕ) → height_read place w (entry_written w e) ≡ accepted e)
field-height w (value z) (h, u) = (number-printed w z h, height-read w z h u)
field-height w gap h = (gap-printed w, gap-read w)

-- a field in front of the rest of a line
columns-front : (w : ℕ) (field rest : List ℕ) → length field ≡ w → columns (field ++ rest) 0 w ≡ field
columns-front w field rest e =
    sym (padded-part 32 (field ++ rest) 0 w) ∙ rw (take_at field rest w e, ← e) (padded-all 32 field)

-- ---- a format

pub written-printed : (items : List Item) (es : List Entry) → Fits items es → Printed (columns_of items) (written_by items es)
unfolding written_by every
written-printed [] [] h = record { columns = refl; plain = refl }
written-printed [] (e ∷ es) h = absurd h
written-printed (X n ∷ items) es h = printed-append n (columns_of items) (replicate n 32) (written_by items es) (printed-replicate n 32 refl) (written-printed items es h)
written-printed (I w ∷ items) [] h = absurd h
written-printed (I w ∷ items) (e ∷ es) (h, hs) =
    printed-append w (columns_of items) (entry_written w e) (written_by items es) (field-number w e h).0 (written-printed items es hs)
written-printed (A w ∷ items) [] h = absurd h
written-printed (A w ∷ items) (e ∷ es) (h, hs) =
    printed-append w (columns_of items) (entry_written w e) (written_by items es) (field-height w e h).0 (written-printed items es hs)

pub format_back : (place : ℕ) (items : List Item) (es : List Entry) → Fits items es → read_by place items (written_by items es) ≡ accepted es
unfolding written_by read_by
format_back place [] [] h = refl
format_back place [] (e ∷ es) h = absurd h
format_back place (X n ∷ items) es h = rw (drop_at (replicate n 32) (written_by items es) n (length-replicate n 32)) (format_back place items es h)
format_back place (I w ∷ items) [] h = absurd h
format_back place (I w ∷ items) (e ∷ es) (h, hs) =
    let f = field-number w e h in
    let rest = written_by items es in
    rw (columns-front w (entry_written w e) rest f.0.columns, drop_at (entry_written w e) rest w f.0.columns, f.1 place, format_back place items es hs)
format_back place (A w ∷ items) [] h = absurd h
format_back place (A w ∷ items) (e ∷ es) (h, hs) =
    let f = field-height w e h in
    let rest = written_by items es in
    rw (columns-front w (entry_written w e) rest f.0.columns, drop_at (entry_written w e) rest w f.0.columns, f.1 place, format_back place items es hs)
