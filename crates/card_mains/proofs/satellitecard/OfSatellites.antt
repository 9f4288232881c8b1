-- Laws of satellites: a satellite stored gives its entry and keeps those before it, and a card with one more or none left.
-- By the laws of rows of the table. Assumes nothing.
use mathlib.Core.Path.{◌≡◌, refl, ◌∙◌}
use Prim.Native.Nat.{ℕ, suc, ◌+◌, ◌-◌, ◌*◌, ◌≤◌, ◌<◌}
use mathlib.Core.List.{List, [], ◌∷◌, ◌++◌}
use native.Mathlib.Omega.{arith}
use lib.IntN.{ℤ, pos}
use lib.ListN.{length, set, length-append}
use lib.Seq.{sets, take_at, get_or_at}
use Rattle.table.specs.Table.{mark_of, Satellite}
use Rattle.table.specs.inner.View.{listed, satellite_of}
use Rattle.table.proofs.Rows.{listed_same, listed-one-more, row_put, row_kept}
use Rattle.refusals.specs.Checked.{good, ◌>>=◌}
use Rattle.card_mains.specs.Satellite.{satellite}
use Rattle.card_mains.specs.Satellites.{satellites_on}
use Rattle.card_mains.specs.inner.Satellites.{AsBefore}
use Rattle.table.proofs.Rows.{ends_with}

-- satellite k stored
module _ (angles : List ℤ) (ratios : List ℕ) (k : ℕ) (ds : List ℤ) (p : ℤ) (ratio mark : ℕ) (three : length ds ≡ 3) where
  pub satellite-put : 4 * k + 4 ≤ length angles → 2 * k + 2 ≤ length ratios
      → satellite_of (set (sets angles (4 * k) ds) (4 * k + 3) p) (sets ratios (2 * k) (ratio ∷ mark ∷ [])) k ≡ record { differences = ds; phase = p; ratio = ratio; mark = mark_of mark }
  unfolding satellite_of
  satellite-put a b =
      let four : length (ds ++ (p ∷ [])) ≡ 4 = rw (length-append ds (p ∷ []), three) in
      rw (
        ends_with angles (4 * k) ds p 3 three,
        row_put (pos 0) 4 angles k (ds ++ (p ∷ [])) four a,
        row_put 0 2 ratios k (ratio ∷ mark ∷ []) refl b,
        take_at ds (p ∷ []) 3 three,
        get_or_at ds p [] (pos 0) 3 three,
      )

  pub satellite-kept : AsBefore (satellite_of (set (sets angles (4 * k) ds) (4 * k + 3) p) (sets ratios (2 * k) (ratio ∷ mark ∷ []))) (satellite_of angles ratios) k
  unfolding satellite_of
  satellite-kept i h =
      let four : length (ds ++ (p ∷ [])) ≡ 4 = rw (length-append ds (p ∷ []), three) in
      rw (ends_with angles (4 * k) ds p 3 three, row_kept (pos 0) 4 angles k (ds ++ (p ∷ [])) four i h, row_kept 0 2 ratios k (ratio ∷ mark ∷ []) refl i h)

-- a satellite more, behind those from `first` on
pub satellites-grow : (f g : ℕ → Satellite) (first n : ℕ) (s : Satellite) → AsBefore f g (first + n) → f (first + n) ≡ s → listed f first (n + 1) ≡ listed g first n ++ (s ∷ [])
satellites-grow f g first n s kept new = listed-one-more f first n ∙ rw (new, listed_same f g first n (λ i a b. kept i b))

-- the satellites of a card, satellite j next: one more, or none left
pub satellites-more : (line : List ℕ) (left : List Satellite) (j n : ℕ) → j < n
    → satellites_on line left j (n - j) ≡ (satellite line j >>= λ s. satellites_on line (left ++ (s ∷ [])) (j + 1) (n - (j + 1)))
unfolding satellites_on
satellites-more line left j n h = let e : n - j ≡ suc (n - (j + 1)) = omega arith in rw e

pub satellites-none : (line : List ℕ) (left : List Satellite) (j n : ℕ) → n ≤ j → satellites_on line left j (n - j) ≡ good left
unfolding satellites_on
satellites-none line left j n h = let e : n - j ≡ 0 = omega arith in rw e
