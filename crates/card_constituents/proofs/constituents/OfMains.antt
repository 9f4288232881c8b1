-- Laws of part 3: what is left to read once a card's rows are stored.
-- By the laws of lines and of rows of the table. Assumes nothing.
use mathlib.Core.Path.{◌≡◌, refl, ap, ◌∙◌}
use Prim.Native.Nat.{ℕ, zero, suc, ◌+◌, ◌-◌, ◌*◌, ◌≤◌, ◌<◌}
use mathlib.Core.List.{List, [], ◌∷◌, ◌++◌}
use mathlib.Core.Bool.{Bool, true, false, cond}
use native.Mathlib.Omega.{arith}
use native.Mathlib.Nat.{zero-add, add-zero}
use native.Mathlib.Numerals.{lt_of_le_of_ne}
use lib.Dec.{leb, eqb}
use borrow.Author.Tests.{eqb-true, eqb-false}
use lib.IntN.{ℤ}
use lib.ListN.{length, get_or, drop}
use Rattle.columns.specs.Lines.{lines_of, first_line, rest_lines}
use Rattle.table.specs.Table.{Main}
use Rattle.limits.specs.Limits.{satellites_a_card}
use Rattle.table.specs.inner.View.{listed, row_of, naturals, satellite_of, main_of}
use Rattle.table.proofs.Rows.{listed-one-more, listed-length}
use Rattle.card.proofs.lines.Walk.{lines-here, lines_end}
use Rattle.card.specs.declared.faults.What.TheVariants.{File}
use Rattle.card.specs.declared.faults.Trouble.TheVariants.{EndedInMains}
use Rattle.card.specs.Faults.{only}
use Rattle.card.specs.Card.{given, refused, onward, onward_or_end}
use Rattle.std.specs.Prelude.{Option, Result}
use Rattle.card.specs.declared.faults.Fault.{Fault}
use Rattle.card.specs.inner.Answers.{card_gives}
use Rattle.card.specs.inner.Places.{places_in}
use Rattle.card_mains.specs.Mains.{next_main, main_places, satellites_in}
use Rattle.card_constituents.specs.inner.Rows.{satellite_count, satellites_end, Stored, mains_in, Counted, step_gives, MainStored, MainsKept, mains_over, SatellitesStored}
use Rattle.card_constituents.specs.Constituents.{mains_from, satellites_from}

-- one main more, whose satellites are stored too
pub stored-one-more : (cards : List ℕ) (m s s' : ℕ) → s ≤ s' → Stored cards m s → satellites_end cards m ≤ s' → Stored cards (m + 1) s'
stored-one-more cards m s s' b stored end k h = go (eqb k m) refl
  where
    go : (t : Bool) → eqb k m ≡ t → satellites_end cards k ≤ s'
    go true e = rw (eqb-true k m e) end
    go false e = omega (arith, stored k (lt_of_le_of_ne (omega arith) (eqb-false k m e)))

-- the mains with one more behind those that were kept
pub one_more : (f g : ℕ → Main) (m : ℕ) → listed f 0 m ≡ listed g 0 m → listed f 0 (m + 1) ≡ listed g 0 m ++ (f m ∷ [])
one_more f g m kept = listed-one-more f 0 m ∙ rw (zero-add m, kept)

-- their satellites
satellites-one-more : (ms : List Main) (m : Main) → satellites_in (ms ++ (m ∷ [])) ≡ satellites_in ms + length m.satellites
unfolding satellites_in
satellites-one-more [] m = omega arith
satellites-one-more (x ∷ xs) m = rw (satellites-one-more xs m) (omega arith)

counted-one-more : (cards before ratios ratiosbefore : List ℕ) (angles anglesbefore sat satbefore : List ℤ) (m : ℕ) → mains_in cards angles sat ratios m ≡ mains_in before anglesbefore satbefore ratiosbefore m
    → satellites_in (mains_in cards angles sat ratios (m + 1)) ≡ satellites_in (mains_in before anglesbefore satbefore ratiosbefore m) + satellite_count cards m
unfolding main_of
counted-one-more cards before ratios ratiosbefore angles anglesbefore sat satbefore m kept =
    ap satellites_in (one_more (main_of cards angles sat ratios) (main_of before anglesbefore satbefore ratiosbefore) m kept)
    ∙ satellites-one-more (mains_in before anglesbefore satbefore ratiosbefore m) (main_of cards angles sat ratios m)
    ∙ rw (listed-length (satellite_of sat ratios) (get_or (naturals 3 cards m) 1 0) (satellite_count cards m))

-- a main begun adds none, and a satellite card those that stand on it
pub counted-begun : (cards before ratios : List ℕ) (angles anglesbefore sat : List ℤ) (m s : ℕ) → MainsKept cards angles before anglesbefore m → satellite_count cards m ≡ 0
    → Counted before anglesbefore sat ratios m s → Counted cards angles sat ratios (m + 1) s
counted-begun cards before ratios angles anglesbefore sat m s kept none counted =
    omega (arith, counted-one-more cards before ratios ratios angles anglesbefore sat sat m (kept sat ratios), none, counted)

pub counted-grown : (cards before ratios ratiosbefore : List ℕ) (angles sat satbefore : List ℤ) (m s t : ℕ) → mains_in cards angles sat ratios m ≡ mains_in before angles satbefore ratiosbefore m
    → satellite_count cards m ≡ satellite_count before m + t → Counted before angles satbefore ratiosbefore (m + 1) s → Counted cards angles sat ratios (m + 1) (s + t)
counted-grown cards before ratios ratiosbefore angles sat satbefore m s t kept grown counted =
    omega (arith, counted-one-more cards before ratios ratiosbefore angles angles sat satbefore m kept, counted-one-more before before ratiosbefore ratiosbefore angles angles satbefore satbefore m refl, grown, counted)

-- the places of the mains
pub places_of : (cards : List ℕ) (angles sat : List ℤ) (ratios : List ℕ) (k n : ℕ) → main_places (listed (main_of cards angles sat ratios) k n) ≡ listed (λ i. get_or cards (3 * i) 0) k n
unfolding listed main_of row_of
places_of cards angles sat ratios k zero = refl
places_of cards angles sat ratios k (suc n) = rw (add-zero (3 * k), places_of cards angles sat ratios (suc k) n)

module _ (names : List (List ℕ)) (file : List ℕ) (at n : ℕ) (mains : List Main) where
  -- no line is left
  pub mains-end : length file ≤ at → mains_from names (lines_of (drop at file)) n mains ≡ refused (only File EndedInMains) n
  unfolding mains_from satellites_from
  mains-end h = rw (lines_end file at h)

  pub satellites-end : (main : Main) (count : ℕ) → length file ≤ at → satellites_from names (lines_of (drop at file)) n mains main count ≡ refused (only File EndedInMains) n
  unfolding mains_from satellites_from
  satellites-end main count h = rw (lines_end file at h)

-- the line at byte `at` was read, and the next starts at byte `next`
module _ (names : List (List ℕ)) (file : List ℕ) (at next n : ℕ) (line : List ℕ) (h : at < length file) (first : line ≡ first_line (drop at file)) (rest : drop next file ≡ rest_lines (drop at file)) (m : ℕ) where
  -- a constituent card
  pub mains-step : (s : ℕ) (cards before : List ℕ) (angles anglesbefore sat : List ℤ) (ratios : List ℕ) (step : Result (Option ℕ) Fault)
      → MainStored step cards angles m (next_main names (places_in 3 before m) s line) → MainsKept cards angles before anglesbefore m → Counted before anglesbefore sat ratios m s
      → mains_from names (lines_of (drop at file)) n (mains_in before anglesbefore sat ratios m)
      ≡ onward_or_end (step_gives step (main_of cards angles sat ratios m)) n (given (mains_in cards angles sat ratios m) (lines_of (drop next file)) (n + 1))
      (λ c. cond (eqb c.count 0)
      (mains_from names (lines_of (drop next file)) (n + 1) (mains_in before anglesbefore sat ratios m ++ (c.main ∷ [])))
      (satellites_from names (lines_of (drop next file)) (n + 1) (mains_in cards angles sat ratios m) c.main c.count))
  unfolding mains_from satellites_from
  mains-step s cards before angles anglesbefore sat ratios step stored kept counted =
      rw (lines-here file at next line h first rest, places_of before anglesbefore sat ratios 0 m, counted, stored sat ratios, kept sat ratios)

  -- a satellite card
  pub satellites-step : (cards before : List ℕ) (angles sat satbefore : List ℤ) (ratios ratiosbefore : List ℕ) (check : Result Unit Fault) (count : ℕ)
      → SatellitesStored check (mains_over cards sat ratios) (mains_over before satbefore ratiosbefore) m count line
      → satellites_from names (lines_of (drop at file)) n (mains_in before angles satbefore ratiosbefore m) (main_of before angles satbefore ratiosbefore m) count
      ≡ onward (card_gives (λ _. main_of cards angles sat ratios m) check) n
      (λ more. cond (leb count satellites_a_card)
      (mains_from names (lines_of (drop next file)) (n + 1) (mains_in before angles satbefore ratiosbefore m ++ (more ∷ [])))
      (satellites_from names (lines_of (drop next file)) (n + 1) (mains_in cards angles sat ratios m) more (count - satellites_a_card)))
  unfolding mains_from satellites_from
  satellites-step cards before angles sat satbefore ratios ratiosbefore check count stored =
      rw (lines-here file at next line h first rest, (stored angles).0, (stored angles).1)
