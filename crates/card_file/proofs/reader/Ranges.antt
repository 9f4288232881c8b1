-- The frequencies of an accepted card file are in range: each was read from a field with that range. By the cards of part 1, one after
-- another, and since no later part changes them. Assumes nothing.
use mathlib.Core.Path.{◌≡◌, refl, sym, subst}
use Prim.Native.Nat.{ℕ, zero, suc, ◌+◌, ◌≤◌}
use mathlib.Core.List.{List, [], ◌∷◌, ◌++◌}
use native.Mathlib.Omega.{arith}
use lib.ListN.{length, get_or}
use lib.IntN.{ℤ, nat_abs}
use Rattle.columns.specs.Columns.{columns}
use Rattle.std.specs.Prelude.{Option, Some, None, Result, Ok, Err}
use Rattle.fields.specs.declared.FieldError.{FieldError}
use Rattle.table.specs.Table.{Frequency, Table}
use Rattle.columns.specs.Lines.{lines_of}
use Rattle.card.specs.Formats.{frequency_name, frequency_field, longitude_field, increase_field}
use Rattle.limits.specs.Limits.{most_frequency, most_frequencies}
use Rattle.refusals.specs.Checked.{good, bad, ◌>>=◌}
use Rattle.card.specs.declared.faults.Trouble.TheVariants.{TooManyFrequencies}
use Rattle.card.specs.Card.{Card, field_on, number, new_name, field_gives, Next, ends, gives, fails, Opening, blank_ends, read_fields, fails_first, opening, opened, Reading, given, refused, onward_or_end}
use Rattle.card_frequencies.specs.Frequencies.{names_of, frequency_card, next_frequency, frequencies_from}
use Rattle.card_file.specs.Cards.{followed, first_undefined, unless_undefined, read_cards, outcome_in, cards_outcome}
use Rattle.refusals.specs.Outcome.{accepted}
use Rattle.card_frequencies.specs.Longitudes.{five_from}
use Rattle.card_mains.specs.Mains.{main_places}
use Rattle.card_constituents.specs.Constituents.{mains_from}
use Rattle.card_shallows.specs.Shallows.{shallow_places, shallows_from}
use Rattle.fields.proofs.Ranges.{natural-is}

-- every entry of a list is at most `most`
abbrev Low : ℕ → List Frequency → Type 0
Low most fs = (none : Frequency) → none.frequency ≡ 0 → (k : ℕ) → (get_or fs k none).frequency ≤ most

low-more : (most : ℕ) (fs : List Frequency) (f : Frequency) → Low most fs → f.frequency ≤ most → Low most (fs ++ (f ∷ []))
low-more most [] f low h none z zero = h
low-more most [] f low h none z (suc k) = rw z (omega arith)
low-more most (g ∷ fs) f low h none z zero = low none z zero
low-more most (g ∷ fs) f low h none z (suc k) = low-more most fs f (λ n e j. low n e (suc j)) h none z k

-- a number read from the field of a frequency
read_low : (line : List ℕ) (v : ℤ) → number line frequency_field ≡ good v → nat_abs v ≤ most_frequency
unfolding number
read_low line v e = by (field_on line frequency_field) refl e
  where
    by : (x : Result ℤ FieldError) → field_on line frequency_field ≡ x → field_gives frequency_field x ≡ good v → nat_abs v ≤ most_frequency
    by (Ok w) r q = let w-is : w ≡ v = cc in (natural-is frequency_field.low frequency_field.high v _ refl (rw w-is at (sym r))).1
    by (Err error) r q = let z : ◌≡◌ {A = ℕ} 0 1 = cc in absurd (omega arith)

-- a frequency card's number
card-low : (names : List (List ℕ)) (line : List ℕ) (f : Frequency) → frequency_card names line ≡ good f → f.frequency ≤ most_frequency
unfolding frequency_card
card-low names line f e = by (new_name names (columns line frequency_name 5)) (number line frequency_field) refl e
  where
    by : (a : Card (List ℕ)) (b : Card ℤ) → number line frequency_field ≡ b
        → (a >>= λ name. b >>= λ v. good (record { name = name; frequency = nat_abs v })) ≡ good f → f.frequency ≤ most_frequency
    by (good name) (good v) r q = let is : nat_abs v ≡ f.frequency = cc in omega (arith, read_low line v r)
    by (good name) (bad n) r q = let z : ◌≡◌ {A = ℕ} 0 1 = cc in absurd (omega arith)
    by (bad n) b r q = let z : ◌≡◌ {A = ℕ} 0 1 = cc in absurd (omega arith)

next_low : (names : List (List ℕ)) (line : List ℕ) (f : Frequency) → next_frequency names line ≡ gives f → f.frequency ≤ most_frequency
unfolding next_frequency
next_low names line f e = by (opening most_frequencies TooManyFrequencies (length names) line) (frequency_card names line) refl e
  where
    by : (o : Opening) (c : Card Frequency) → frequency_card names line ≡ c → opened o c ≡ gives f → f.frequency ≤ most_frequency
    by read_fields (good g) r q = let is : g ≡ f = cc in card-low names line f (rw is at r)
    by read_fields (bad n) r q = let z : ◌≡◌ {A = ℕ} 0 1 = cc in absurd (omega arith)
    by blank_ends c r q = let z : ◌≡◌ {A = ℕ} 0 1 = cc in absurd (omega arith)
    by (fails_first n) c r q = let z : ◌≡◌ {A = ℕ} 0 1 = cc in absurd (omega arith)

-- all of part 1
part_low : (lines : List (List ℕ)) (n : ℕ) (before fs : List Frequency) (rest : List (List ℕ)) (m : ℕ) → Low most_frequency before
    → frequencies_from lines n before ≡ given fs rest m → Low most_frequency fs
unfolding frequencies_from
part_low [] n before fs rest m low e = let z : ◌≡◌ {A = ℕ} 0 1 = cc in absurd (omega arith)
part_low (line ∷ lines) n before fs rest m low e =
    by (λ f l q. part_low lines (n + 1) (before ++ (f ∷ [])) fs rest m l q) (next_frequency (names_of before) line) refl e
  where
    by : ((f : Frequency) → Low most_frequency (before ++ (f ∷ [])) → frequencies_from lines (n + 1) (before ++ (f ∷ [])) ≡ given fs rest m → Low most_frequency fs)
        → (x : Next Frequency) → next_frequency (names_of before) line ≡ x
        → onward_or_end x n (given before lines (n + 1)) (λ f. frequencies_from lines (n + 1) (before ++ (f ∷ []))) ≡ given fs rest m → Low most_frequency fs
    by more ends r q = let is : before ≡ fs = cc in subst (Low most_frequency) is low
    by more (gives f) r q = more f (low-more most_frequency before f low (next_low (names_of before) line f r)) q
    by more (fails k) r q = let z : ◌≡◌ {A = ℕ} 0 1 = cc in absurd (omega arith)

-- ---- no later part changes the frequencies

-- a part that was followed to a table was given
followed-through : {A : Type 0} (P : Table → Type 0) (r : Reading A) (next : A → List (List ℕ) → ℕ → Reading Table) (t : Table) (rest : List (List ℕ)) (m : ℕ)
    → ((a : A) (lines : List (List ℕ)) (n : ℕ) → r ≡ given a lines n → next a lines n ≡ given t rest m → P t) → followed r next ≡ given t rest m → P t
followed-through P (given a lines n) next t rest m h e = h a lines n refl e
followed-through P (refused fault n) next t rest m h e = let z : ◌≡◌ {A = ℕ} 0 1 = cc in absurd (omega arith)

defined-is : (found : Option ℕ) (lines : List (List ℕ)) (n : ℕ) (whole t : Table) (rest : List (List ℕ)) (m : ℕ) → unless_undefined found (given whole lines n) ≡ given t rest m → whole ≡ t
defined-is None lines n whole t rest m e = cc
defined-is (Some k) lines n whole t rest m e = let z : ◌≡◌ {A = ℕ} 0 1 = cc in absurd (omega arith)

abbrev LowIn : Table → Type 0
LowIn t = Low most_frequency t.frequencies

pub given-in-range : (file : List ℕ) (t : Table) (rest : List (List ℕ)) (m : ℕ) (none : Frequency) → none.frequency ≡ 0 → read_cards file ≡ given t rest m → (k : ℕ) → (get_or t.frequencies k none).frequency ≤ most_frequency
unfolding read_cards
given-in-range file t rest m none z e k =
    followed-through LowIn (frequencies_from (lines_of file) 1 []) _ t rest m (λ fs lines n r q.
    followed-through LowIn (five_from longitude_field lines n) _ t rest m (λ ls lines₂ n₂ r₂ q₂.
    followed-through LowIn (five_from increase_field lines₂ n₂) _ t rest m (λ is lines₃ n₃ r₃ q₃.
    followed-through LowIn (mains_from (names_of fs) lines₃ n₃ []) _ t rest m (λ ms lines₄ n₄ r₄ q₄.
    followed-through LowIn (shallows_from (names_of fs) (main_places ms) lines₄ n₄ []) _ t rest m (λ ss lines₅ n₅ r₅ q₅.
    subst LowIn (defined-is (first_undefined (main_places ms ++ shallow_places ss) 0 (length fs)) lines₅ n₅ (record { frequencies = fs; longitudes = ls; increases = is; mains = ms; shallows = ss }) t rest m q₅)
    (part_low (lines_of file) 1 [] fs lines n (λ n₀ z₀ j. rw z₀ (omega arith)) r)) q₄) q₃) q₂) q) e none z k

pub accepted-in-range : (file : List ℕ) (t : Table) (none : Frequency) → none.frequency ≡ 0 → cards_outcome file ≡ accepted t → (k : ℕ) → (get_or t.frequencies k none).frequency ≤ most_frequency
unfolding cards_outcome
accepted-in-range file t none z e k = by (read_cards file) refl e
  where
    by : (r : Reading Table) → read_cards file ≡ r → outcome_in r ≡ accepted t → (get_or t.frequencies k none).frequency ≤ most_frequency
    by (given u rest m) r q = let u-is : u ≡ t = cc in given-in-range file t rest m none z (rw u-is at r) k
    by (refused fault n) r q = let z : ◌≡◌ {A = ℕ} 0 1 = cc in absurd (omega arith)
