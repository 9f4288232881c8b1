-- Only inner contracts cite this: the lists that rows of the code's table stand for, and a constituent from what is kept of the mains.
use Rattle.std.specs.Prelude.{Option, Some, None, ℕ, ◌+◌, ◌<◌, ◌≡◌, List, ℤ, pos, get_or}
use Rattle.table.specs.Table.{Main, Shallow}
use Rattle.table.specs.inner.View.{listed, naturals, main_of, shallow_of}
use Rattle.table.specs.Definitions.{definition_at}
use Rattle.table.specs.declared.definitions.Defined.{Defined}
use Rattle.table.specs.declared.definitions.Defined.TheVariants as found
use Rattle.month_arguments.specs.Longitudes.{Longitudes}
use Rattle.month_arguments.specs.Arguments as arguments
use Rattle.month_arguments.specs.inner.Rows.{arguments_in}
use Rattle.month_satellites.specs.Latitude.{Factors}
use Rattle.refusals.specs.Checked.{good}
use Rattle.month_pairs.specs.Pairs.{Corrected, start_pair}
use Rattle.month_pairs.specs.inner.Ranges.{Small}
use Rattle.month_pairs.specs.inner.Corrected.{corrected_of}
use Rattle.month_pairs.specs.Shallow as shallow
use Rattle.month_pairs.specs.inner.Rows.{pairs_of}
use Rattle.month_workings.specs.inner.Kept.{Has, Kept}
use Rattle.month_workings.specs.Worked.{argument_of, correction_of}
use Rattle.month_workings.specs.declared.worked.Worked.{Worked}

abbrev pub mains_of : List ℕ → List ℤ → List ℤ → List ℕ → ℕ → List Main
mains_of cards angles satelliteangles satelliteratios n = listed (main_of cards angles satelliteangles satelliteratios) 0 n

abbrev pub shallows_of : List ℕ → List ℤ → ℕ → List Shallow
shallows_of cards coefficients n = listed (shallow_of cards coefficients) 0 n

-- the mains that a constituent needs are worked out
abbrev pub HasMains : List ℕ → Option Defined → List ℤ → Type 0
HasMains shallowcards (Some (found.Main k)) kept = Has kept k
HasMains shallowcards (Some (found.Shallow k)) kept = (j : ℕ) → j < get_or (naturals 6 shallowcards k) 1 0 → Has kept (get_or (naturals 6 shallowcards k) (2 + j) 0)
HasMains shallowcards None kept = Unit

pub record Ready (argument : ℕ → ℕ) (corrected : ℕ → Corrected) (shallowcards : List ℕ) (r : Option Defined) (all : List ℤ) : Type 0 where
  pub kept : Kept argument corrected all
  pub has : HasMains shallowcards r all

-- V of a constituent, from the mains' V
abbrev pub argument_from : List ℕ → List ℕ → List ℤ → Option Defined → ℕ
argument_from vs shallowcards coefficients (Some (found.Main k)) = get_or vs k 0
argument_from vs shallowcards coefficients (Some (found.Shallow k)) = arguments.argument_from_parts vs (shallow_of shallowcards coefficients k)
argument_from vs shallowcards coefficients None = 0

-- its pair, from the mains' pairs
abbrev pub pair_from : List Corrected → List ℕ → List ℤ → Option Defined → Corrected
pair_from pairs shallowcards coefficients (Some (found.Main k)) = get_or pairs k (good start_pair)
pair_from pairs shallowcards coefficients (Some (found.Shallow k)) = shallow.pair_from_parts pairs (shallow_of shallowcards coefficients k)
pair_from pairs shallowcards coefficients None = good (record { x = pos 0; y = pos 0 })

pub record FromMains (kept : List ℤ) (shallowcards : List ℕ) (coefficients : List ℤ) (r : Option Defined) (w : Worked) : Type 0 where
  pub argument : w.argument ≡ argument_from (arguments_in kept) shallowcards coefficients r
  pub correction : corrected_of w.corrected ≡ pair_from (pairs_of kept) shallowcards coefficients r
  pub small : Small w.corrected

-- what a record's constituent needs of the table: V, and the pair or refusal 11, of what stands at its place
pub record IsWorked (g : Factors) (l : Longitudes) (mains : List Main) (shallows : List Shallow) (place : ℕ) (r : Worked) : Type 0 where
  pub argument : r.argument ≡ argument_of l mains (definition_at mains shallows place)
  pub correction : corrected_of r.corrected ≡ correction_of g l mains (definition_at mains shallows place)
  pub small : Small r.corrected
