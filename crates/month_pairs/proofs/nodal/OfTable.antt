-- The pairs by rows of the code's arrays are those of 01's table. By the definitions, and entry by entry.
use mathlib.Core.Path.{◌≡◌, refl}
use mathlib.Core.List.{List, map}
use Prim.Native.Nat.{ℕ}
use lib.IntN.{ℤ}
use Rattle.table.specs.inner.View.{listed, main_of}
use Rattle.table.proofs.entries.Beyond.{listed-map}
use Rattle.month_satellites.specs.Latitude.{Factors}
use Rattle.month_pairs.specs.Shallow.{main_corrected}
use Rattle.month_pairs.specs.inner.Rows.{row_satellites, row_corrected}

module _ (g : Factors) (longitudes : List ℕ) (cards : List ℕ) (angles satelliteangles : List ℤ) (ratios : List ℕ) where
  -- a main's row
  pub main-of-row : (k : ℕ) → main_corrected g longitudes (main_of cards angles satelliteangles ratios k) ≡ row_corrected g longitudes cards satelliteangles ratios k
  unfolding main_corrected main_of row_corrected row_satellites
  main-of-row k = refl

  -- all mains
  pub mains-of-rows : (n : ℕ) → map (main_corrected g longitudes) (listed (main_of cards angles satelliteangles ratios) 0 n) ≡ listed (row_corrected g longitudes cards satelliteangles ratios) 0 n
  unfolding main_corrected main_of row_corrected row_satellites
  mains-of-rows n = listed-map (main_corrected g longitudes) (main_of cards angles satelliteangles ratios) 0 n
