-- Laws of a card of five numbers: where it stands in the file, and its numbers read as signed and back.
-- By the clauses of the definitions, and the laws of lines. Assumes nothing.
use mathlib.Core.Path.{◌≡◌, refl, ◌∙◌}
use Prim.Native.Nat.{ℕ, ◌+◌, ◌≤◌, ◌<◌}
use mathlib.Core.List.{List, map, map-map, map-id}
use lib.ListN.{length}
use lib.IntN.{pos, nat_abs}
use native.Mathlib.Omega.{arith}
use Rattle.card.specs.declared.faults.Trouble.TheVariants.{EndedInLongitudes}
use Rattle.card.specs.declared.formats.NumberField.{NumberField}
use lib.ListN.{drop, length-drop}
use Rattle.columns.specs.Lines.{lines_of, first_line, rest_lines}
use Rattle.columns.proofs.Lines.{lines_next}
use Rattle.card.specs.Card.{due_card, given, ended, onward}
use Rattle.card_frequencies.specs.Longitudes.{five_card, five_from}
use Rattle.card.specs.declared.formats.FiveCard.{FiveCard}
use Rattle.card.specs.declared.formats.FiveCard.TheVariants.{Longitudes, Increases}
use Rattle.card.specs.Formats.{five_field}
use Rattle.card.specs.inner.Fields.{IsNatural}
use Rattle.card.proofs.lines.Walk.{lines_end}

-- a card of five numbers at byte `at`, or none left
module _ (field : ℕ → NumberField) (file : List ℕ) (at n : ℕ) where
  pub five-here : (line : List ℕ) → at < length file → line ≡ first_line (drop at file)
      → five_from field (lines_of (drop at file)) n ≡ onward (due_card line (five_card field line)) n (λ values. given values (lines_of (rest_lines (drop at file))) (n + 1))
  unfolding five_from
  five-here line h first = rw (lines_next (drop at file) (omega (arith, length-drop at file)), first)

  pub five-end : length file ≤ at → five_from field (lines_of (drop at file)) n ≡ ended EndedInLongitudes n
  unfolding five_from
  five-end h = rw (lines_end file at h)

-- its numbers are not below 0
pub five-natural : (card : FiveCard) (k : ℕ) → IsNatural (five_field card k)
five-natural Longitudes k = refl
five-natural Increases k = refl

-- numbers that are not below 0, read as signed and back
pub map-nat_abs-pos : (vs : List ℕ) → map nat_abs (map pos vs) ≡ vs
map-nat_abs-pos vs = map-map nat_abs pos vs ∙ map-id vs
