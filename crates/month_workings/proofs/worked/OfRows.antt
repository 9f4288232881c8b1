-- What stands at a place, worked out from the mains that are kept: its V and its pair are those of the definition. From the laws of rows of
-- `arguments`, `nodal` and `workings`.
use mathlib.Core.Path.{◌≡◌, refl, sym, ap, subst, ◌∙◌}
use mathlib.Core.List.{List}
use Prim.Native.Nat.{ℕ}
use lib.IntN.{ℤ}
use Rattle.std.specs.Prelude.{Option, Some, None}
use Rattle.table.specs.inner.View.{listed, naturals, main_of, shallow_of}
use Rattle.table.proofs.entries.Beyond.{entry_at}
use Rattle.table.specs.Definitions.{Definition}
use Rattle.table.proofs.definitions.OfRows.{definition_of, IsRow, found_at, found-row, found-is}
use Rattle.table.specs.declared.definitions.Defined.{Defined}
use Rattle.table.specs.declared.definitions.Defined.TheVariants as found
use Rattle.month_arguments.specs.Longitudes.{Longitudes, nodal}
use Rattle.month_arguments.specs.Arguments as arguments
use Rattle.month_arguments.specs.inner.Rows.{row_argument, arguments_in}
use Rattle.month_arguments.proofs.arguments.Views.{main-row, mains-rows}
use Rattle.month_satellites.specs.Latitude.{Factors}
use Rattle.refusals.specs.Checked.{good}
use Rattle.month_pairs.specs.Pairs.{Corrected, start_pair}
use Rattle.month_pairs.specs.Shallow as pairs
use Rattle.month_pairs.specs.inner.Rows.{row_corrected, pairs_of}
use Rattle.month_pairs.proofs.nodal.OfTable.{main-of-row, mains-of-rows}
use Rattle.month_workings.specs.inner.Kept.{argument_at, corrected_at, Kept, WithMain, WithParts}
use Rattle.month_workings.proofs.workings.Agree.{shallow-argument-is, shallow-pair-is}
use Rattle.month_workings.specs.Worked.{argument_of, correction_of}
use Rattle.month_workings.specs.inner.View.{mains_of, shallows_of, Ready, argument_from, pair_from, FromMains, IsWorked}
use Rattle.month_workings.specs.declared.worked.Worked.{Worked}

module _ (g : Factors) (l : Longitudes) (maincards : List ℕ) (mainangles satelliteangles : List ℤ) (satelliteratios : List ℕ) (mains : ℕ) (shallowcards : List ℕ) (coefficients : List ℤ) (kept : List ℤ) where
  -- V and the pair of what a row stands for
  abbrev meant : Option Defined → Definition
  meant = definition_of (main_of maincards mainangles satelliteangles satelliteratios) (shallow_of shallowcards coefficients)

  abbrev IsReady : Option Defined → Type 0
  IsReady r = Ready (argument_at l mainangles mains) (corrected_at g (nodal l) maincards satelliteangles satelliteratios mains) shallowcards r kept

  argument_is : (r : Option Defined) → IsRow mains r → IsReady r → argument_from (arguments_in kept) shallowcards coefficients r ≡ argument_of l (mains_of maincards mainangles satelliteangles satelliteratios mains) (meant r)
  unfolding argument_of
  argument_is (Some (found.Main k)) h w =
      w.kept.arguments k w.has ∙ sym (entry_at 0 (row_argument l mainangles) mains k h) ∙ main-row l maincards mainangles satelliteangles satelliteratios k
  argument_is (Some (found.Shallow k)) h w =
      shallow-argument-is (listed (row_argument l mainangles) 0 mains) (listed (row_corrected g (nodal l) maincards satelliteangles satelliteratios) 0 mains) shallowcards coefficients k kept (record { kept = w.kept; has = w.has })
      ∙ ap (λ all. arguments.argument_from_parts all (shallow_of shallowcards coefficients k)) (sym (mains-rows l maincards mainangles satelliteangles satelliteratios mains))
  argument_is None h w = refl

  correction-is : (r : Option Defined) → IsRow mains r → IsReady r → pair_from (pairs_of kept) shallowcards coefficients r ≡ correction_of g l (mains_of maincards mainangles satelliteangles satelliteratios mains) (meant r)
  unfolding correction_of
  correction-is (Some (found.Main k)) h w =
      w.kept.pairs k w.has ∙ sym (entry_at (good start_pair) (row_corrected g (nodal l) maincards satelliteangles satelliteratios) mains k h)
      ∙ sym (main-of-row g (nodal l) maincards mainangles satelliteangles satelliteratios k)
  correction-is (Some (found.Shallow k)) h w =
      shallow-pair-is (listed (row_argument l mainangles) 0 mains) (listed (row_corrected g (nodal l) maincards satelliteangles satelliteratios) 0 mains) shallowcards coefficients k kept (record { kept = w.kept; has = w.has })
      ∙ ap (λ all. pairs.pair_from_parts all (shallow_of shallowcards coefficients k)) (sym (mains-of-rows g (nodal l) maincards mainangles satelliteangles satelliteratios mains))
  correction-is None h w = refl

  -- and so of what is found at a place
  pub worked-out : (shallows place : ℕ) (r : Option Defined) (w : Worked) → r ≡ found_at maincards mains shallowcards shallows place → IsReady r → FromMains kept shallowcards coefficients r w
      → IsWorked g l (mains_of maincards mainangles satelliteangles satelliteratios mains) (shallows_of shallowcards coefficients shallows) place w
  worked-out shallows place r w f ready is =
      let d = ap meant f ∙ found-is maincards mains shallowcards shallows place mainangles satelliteangles satelliteratios coefficients in
      let row : IsRow mains r = subst (IsRow mains) (sym f) (found-row maincards mains shallowcards shallows place) in
      record {
        argument = is.argument ∙ argument_is r row ready ∙ ap (argument_of l (mains_of maincards mainangles satelliteangles satelliteratios mains)) d;
        correction = is.correction ∙ correction-is r row ready ∙ ap (correction_of g l (mains_of maincards mainangles satelliteangles satelliteratios mains)) d;
        small = is.small;
      }

-- the mains of what is found are worked out, in each case
module _ (argument : ℕ → ℕ) (corrected : ℕ → Corrected) (shallowcards : List ℕ) (r : Option Defined) (before kept : List ℤ) where
  pub ready-main : (k : ℕ) → r ≡ Some (found.Main k) → WithMain argument corrected k before kept → Ready argument corrected shallowcards r kept
  ready-main k e w = subst (λ f. Ready argument corrected shallowcards f kept) (sym e) (record { kept = w.kept; has = w.has })

  pub ready-shallow : (k : ℕ) → r ≡ Some (found.Shallow k) → WithParts argument corrected (naturals 6 shallowcards k) kept → Ready argument corrected shallowcards r kept
  ready-shallow k e w = subst (λ f. Ready argument corrected shallowcards f kept) (sym e) (record { kept = w.kept; has = w.has })

  pub ready-nothing : r ≡ None → Kept argument corrected kept → Ready argument corrected shallowcards r kept
  ready-nothing e w = subst (λ f. Ready argument corrected shallowcards f kept) (sym e) (record { kept = w; has = tt })
