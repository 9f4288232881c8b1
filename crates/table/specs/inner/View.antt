-- Only inner contracts cite this: the table that the code's struct stands for: each record of 01's Table is made from one row of each array that holds its numbers.
-- A number past an array's end counts as 0.
use Rattle.std.specs.Prelude.{ℕ, zero, suc, ◌+◌, ◌*◌, List, [], ◌∷◌, get_or, take, ℤ, pos}
use Rattle.table.specs.Table.{Frequency, mark_of, Satellite, Main, Part, Shallow, Table}
use Rattle.table.specs.declared.Table as code

-- entry k, k + 1 and so on, n of them
unfoldable pub listed : {A : Type 0} → (ℕ → A) → ℕ → ℕ → List A
listed entry k zero = []
listed entry k (suc n) = entry k ∷ listed entry (suc k) n

-- row k of an array with rows of some width
unfoldable pub row_of : {A : Type 0} → A → ℕ → List A → ℕ → List A
row_of none width xs k = listed (λ j. get_or xs (width * k + j) none) 0 width

-- rows of whole numbers
abbrev pub naturals : ℕ → List ℕ → ℕ → List ℕ
naturals = row_of 0

-- rows of signed numbers
abbrev pub integers : ℕ → List ℤ → ℕ → List ℤ
integers = row_of (pos 0)

-- frequency k: its name, and its speed
unfoldable pub frequency_of : List ℕ → List ℕ → ℕ → Frequency
frequency_of names speeds k = record { name = naturals 5 names k; frequency = get_or speeds k 0 }

-- satellite k: a row of three differences and the phase, and a row of the ratio and the mark's byte
unfoldable pub satellite_of : List ℤ → List ℕ → ℕ → Satellite
satellite_of angles ratios k =
    record {
      differences = take 3 (integers 4 angles k);
      phase = get_or (integers 4 angles k) 3 (pos 0);
      ratio = get_or (naturals 2 ratios k) 0 0;
      mark = mark_of (get_or (naturals 2 ratios k) 1 0);
    }

-- main k: a row of its place, its first satellite and their count, and a row of six Doodson numbers and the phase
unfoldable pub main_of : List ℕ → List ℤ → List ℤ → List ℕ → ℕ → Main
main_of cards angles satelliteangles satelliteratios k =
    record {
      place = get_or (naturals 3 cards k) 0 0;
      doodson = take 6 (integers 7 angles k);
      phase = get_or (integers 7 angles k) 6 (pos 0);
      satellites = listed (satellite_of satelliteangles satelliteratios) (get_or (naturals 3 cards k) 1 0) (get_or (naturals 3 cards k) 2 0);
    }

-- part j of a shallow constituent, from its row of a place, the count of parts and four mains, and its row of four coefficients
unfoldable pub part_of : List ℕ → List ℤ → ℕ → Part
part_of card coefficients j = record { coefficient = get_or coefficients j (pos 0); main = get_or card (2 + j) 0 }

-- shallow constituent k
unfoldable pub shallow_of : List ℕ → List ℤ → ℕ → Shallow
shallow_of cards coefficients k =
    record {
      place = get_or (naturals 6 cards k) 0 0;
      parts = listed (part_of (naturals 6 cards k) (integers 4 coefficients k)) 0 (get_or (naturals 6 cards k) 1 0);
    }

-- the table of a struct
unfoldable pub table_of : code.Table → Table
table_of t =
    record {
      frequencies = listed (frequency_of t.names t.speeds) 0 t.frequencies;
      longitudes = t.longitudes;
      increases = t.increases;
      mains = listed (main_of t.maincards t.mainangles t.satelliteangles t.satelliteratios) 0 t.mains;
      shallows = listed (shallow_of t.shallowcards t.coefficients) 0 t.shallows;
    }
