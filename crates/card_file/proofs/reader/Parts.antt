-- Parts 3 and 4 as their readers are asked for them, by the rows of names and places, are those of the document's table. Assumes nothing.
use mathlib.Core.Path.{◌≡◌, sym, ap, ap₂}
use Prim.Native.Nat.{ℕ}
use mathlib.Core.List.{List, [], ◌++◌}
use Rattle.columns.specs.Names.{names_from}
use lib.IntN.{ℤ}
use lib.ListN.{length}
use Rattle.table.proofs.Rows.{listed-length}
use Rattle.card_file.specs.Cards.{first_undefined}
use Rattle.table.specs.inner.View.{table_of, listed, frequency_of, shallow_of}
use Rattle.table.specs.declared.Table.{Table}
use Rattle.card_frequencies.specs.Frequencies.{names_of}
use Rattle.card_mains.specs.Mains.{main_places}
use Rattle.card_constituents.specs.Constituents.{mains_from}
use Rattle.card_shallows.specs.Shallows.{shallow_places, shallows_from}
use Rattle.card.specs.inner.Places.{places_in}
use Rattle.table.proofs.Names.{names-of}
use Rattle.card_constituents.proofs.constituents.OfMains as mains
use Rattle.card_shallows.proofs.shallows.Rows as shallows

names_in_lem : (t : Table) → names_of (table_of t).frequencies ≡ names_from t.names 0 t.frequencies
unfolding table_of
names_in_lem t = names-of t.names t.speeds 0 t.frequencies

frequencies-count : (t : Table) → length (table_of t).frequencies ≡ t.frequencies
unfolding table_of
frequencies-count t = listed-length (frequency_of t.names t.speeds) 0 t.frequencies

main-places : (t : Table) → main_places (table_of t).mains ≡ places_in 3 t.maincards t.mains
unfolding table_of
main-places t = mains.places_of t.maincards t.mainangles t.satelliteangles t.satelliteratios 0 t.mains

pub part-3 : (t : Table) (lines : List (List ℕ)) (n : ℕ)
    → mains_from (names_from t.names 0 t.frequencies) lines n [] ≡ mains_from (names_of (table_of t).frequencies) lines n []
part-3 t lines n = ap (λ (names : List (List ℕ)). mains_from names lines n []) (sym (names_in_lem t))

pub part-4 : (t : Table) (lines : List (List ℕ)) (n : ℕ)
    → shallows_from (names_from t.names 0 t.frequencies) (places_in 3 t.maincards t.mains) lines n []
    ≡ shallows_from (names_of (table_of t).frequencies) (main_places (table_of t).mains) lines n []
part-4 t lines n = ap₂ (λ (names : List (List ℕ)) (places : List ℕ). shallows_from names places lines n []) (sym (names_in_lem t)) (sym (main-places t))

-- the places of all definitions
pub defined-places : (t : Table) (cards : List ℕ) (coefficients : List ℤ) (count : ℕ)
    → places_in 3 t.maincards t.mains ++ places_in 6 cards count ≡ main_places (table_of t).mains ++ shallow_places (listed (shallow_of cards coefficients) 0 count)
defined-places t cards coefficients count = ap₂ ◌++◌ (sym (main-places t)) (sym (shallows.places_of cards coefficients 0 count))

-- the end of the reading: the first place that the code finds undefined is the document's
pub last-check : (t : Table) (cards : List ℕ) (coefficients : List ℤ) (count : ℕ)
    → first_undefined (places_in 3 t.maincards t.mains ++ places_in 6 cards count) 0 t.frequencies
    ≡ first_undefined (main_places (table_of t).mains ++ shallow_places (listed (shallow_of cards coefficients) 0 count)) 0 (length (table_of t).frequencies)
last-check t cards coefficients count = rw (frequencies-count t, ← defined-places t cards coefficients count)
