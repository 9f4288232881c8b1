-- What is found by the first rows of a place is what stands there. From `Search`.
use mathlib.Core.Path.{◌≡◌, refl, sym, ap, ap₂, ◌∙◌}
use mathlib.Core.Bool.{Bool, true, false, cond}
use mathlib.Core.List.{List}
use Prim.Native.Nat.{ℕ, ◌<◌}
use borrow.Author.Tests.{ltb-true}
use lib.Dec.{ltb}
use lib.IntN.{ℤ}
use lib.ListN.{get_or}
use Rattle.limits.specs.Limits.{places_in_a_byte}
use Rattle.std.specs.Prelude.{Option, Some, None}
use Rattle.table.specs.Table.{Main, Shallow}
use Rattle.table.specs.inner.View.{listed, main_of, shallow_of}
use Rattle.table.specs.Definitions.{Definition, main, shallow, undefined, definition_at}
use Rattle.table.specs.inner.Found.{place_in, first_row, FirstRows, found_by}
use Rattle.table.specs.declared.definitions.Defined.{Defined}
use Rattle.table.specs.declared.definitions.Defined.TheVariants as found
use Rattle.table.proofs.definitions.Search.{first_found}

-- the definition that a row stands for
abbrev pub definition_of : (ℕ → Main) → (ℕ → Shallow) → Option Defined → Definition
definition_of main_row shallow_row (Some (found.Main k)) = main (main_row k)
definition_of main_row shallow_row (Some (found.Shallow k)) = shallow (shallow_row k)
definition_of main_row shallow_row None = undefined

-- a main's row is one of so many
abbrev pub IsRow : ℕ → Option Defined → Type 0
IsRow mains (Some (found.Main k)) = k < mains
IsRow mains (Some (found.Shallow k)) = Unit
IsRow mains None = Unit

module _ (maincards : List ℕ) (mains : ℕ) (shallowcards : List ℕ) (shallows place : ℕ) where
  abbrev first_main : ℕ
  first_main = first_row (place_in 3 maincards) place 0 mains

  abbrev first_shallow : ℕ
  first_shallow = first_row (place_in 6 shallowcards) place 0 shallows

  -- what is found at a place of the cards
  abbrev pub found_at : Option Defined
  found_at = found_by first_main mains first_shallow shallows

  pub by-first-rows : {mainrows shallowrows : List ℕ} → FirstRows (place_in 3 maincards) mains mainrows → FirstRows (place_in 6 shallowcards) shallows shallowrows → place < places_in_a_byte
      → found_by (get_or mainrows place 0) mains (get_or shallowrows place 0) shallows ≡ found_at
  by-first-rows m s h = ap₂ (λ (a b : ℕ). found_by a mains b shallows) (m.each place h) (s.each place h)

  pub found-row : IsRow mains found_at
  found-row = by (ltb first_main mains) (ltb first_shallow shallows) refl
    where
      by : (t u : Bool) → ltb first_main mains ≡ t → IsRow mains (cond t (Some (found.Main first_main)) (cond u (Some (found.Shallow first_shallow)) None))
      by true u e = ltb-true first_main mains e
      by false true e = tt
      by false false e = tt

  -- whatever the other numbers of the rows are
  module _ (mainangles satelliteangles : List ℤ) (satelliteratios : List ℕ) (coefficients : List ℤ) where
    abbrev main_row : ℕ → Main
    main_row = main_of maincards mainangles satelliteangles satelliteratios

    abbrev shallow_row : ℕ → Shallow
    shallow_row = shallow_of shallowcards coefficients

    pub found-is : definition_of main_row shallow_row found_at ≡ definition_at (listed main_row 0 mains) (listed shallow_row 0 shallows) place
    unfolding definition_at main_of shallow_of
    found-is =
        by (ltb first_main mains) (ltb first_shallow shallows)
        ∙ sym (first_found (λ m. m.place) place main _ main_row mains first_main refl
        ∙ ap (cond (ltb first_main mains) (main (main_row first_main))) (first_found (λ s. s.place) place shallow undefined shallow_row shallows first_shallow refl))
      where
        by : (t u : Bool) → definition_of main_row shallow_row (cond t (Some (found.Main first_main)) (cond u (Some (found.Shallow first_shallow)) None)) ≡ cond t (main (main_row first_main)) (cond u (shallow (shallow_row first_shallow)) undefined)
        by true u = refl
        by false true = refl
        by false false = refl
