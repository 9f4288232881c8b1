-- A card that gives a main had room for it and for its satellites. By cases on its fields. Assumes nothing.
use mathlib.Core.Path.{◌≡◌, refl}
use Prim.Native.Nat.{ℕ, ◌+◌, ◌≤◌, ◌<◌}
use mathlib.Core.List.{List, []}
use mathlib.Core.Bool.{Bool, true, false, cond}
use native.Mathlib.Omega.{arith}
use lib.Dec.{ltb}
use borrow.Author.Tests.{ltb-false}
use lib.IntN.{ℤ, nat_abs}
use lib.ListN.{length}
use Rattle.columns.specs.Columns.{columns}
use Rattle.card.proofs.lines.Openings.{had-room, opened-good}
use Rattle.limits.specs.Limits.{most_mains, most_satellites}
use Rattle.refusals.specs.Checked.{good, bad, ◌>>=◌}
use Rattle.card.specs.declared.faults.What.TheVariants as what
use Rattle.card.specs.declared.faults.Trouble.TheVariants.{TooManyMains, TooManySatellites}
use Rattle.card.specs.Faults.{only}
use Rattle.card.specs.Card.{Card, gives, opening, new_place, number, numbers}
use Rattle.card.specs.Formats.{main_name, doodson_field, main_phase_field, satellite_count_field}
use Rattle.card_mains.specs.Mains.{MainCard, main_made, main_numbers, main_card, next_main}

-- a card that gives a main had room for it and for its satellites
bind-good : {A B : Type 0} (P : B → Type 0) (m : Card A) (f : A → Card B) (b : B) → ((a : A) → f a ≡ good b → P b) → (m >>= f) ≡ good b → P b
bind-good P (good a) f b h e = h a e
bind-good P (bad r) f b h e = let z : ◌≡◌ {A = ℕ} 0 1 = cc in absurd (omega arith)

made-fits : (place : ℕ) (doodson : List ℤ) (phase count : ℤ) (s : ℕ) (c : MainCard) → main_made place doodson phase count s ≡ good c → s + c.count ≤ most_satellites
unfolding main_made
made-fits place doodson phase count s c e = go (ltb most_satellites (s + nat_abs count)) refl e
  where
    go : (t : Bool) → ltb most_satellites (s + nat_abs count) ≡ t
        → cond t (bad (only what.Card TooManySatellites)) (good (record { main = record { place = place; doodson = doodson; phase = phase; satellites = [] }; count = nat_abs count })) ≡ good c → s + c.count ≤ most_satellites
    go true h q = let z : ◌≡◌ {A = ℕ} 0 1 = cc in absurd (omega arith)
    go false h q = let n : nat_abs count ≡ c.count = cc in omega (arith, ltb-false most_satellites (s + nat_abs count) h)

pub main-room : (names : List (List ℕ)) (places : List ℕ) (s : ℕ) (line : List ℕ) (c : MainCard) → next_main names places s line ≡ gives c → (length places < most_mains) × (s + c.count ≤ most_satellites)
unfolding next_main main_card main_numbers
main-room names places s line c e = (
  had-room most_mains TooManyMains (length places) line (main_card names places s line) c e,
  bind-good (λ (c : MainCard). s + c.count ≤ most_satellites) (new_place names places (columns line main_name 5)) _ c
      (λ place. bind-good (λ (c : MainCard). s + c.count ≤ most_satellites) (numbers line doodson_field 6) _ c
      (λ doodson. bind-good (λ (c : MainCard). s + c.count ≤ most_satellites) (number line main_phase_field) _ c
      (λ phase. bind-good (λ (c : MainCard). s + c.count ≤ most_satellites) (number line satellite_count_field) _ c
      (λ count. made-fits place doodson phase count s c))))
      (opened-good (opening most_mains TooManyMains (length places) line) (main_card names places s line) c e),
)
