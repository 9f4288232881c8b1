-- V of a row of the code's table is V of the constituent that the row stands for. By the definitions of the view.
use mathlib.Core.Path.{◌≡◌, refl}
use mathlib.Core.List.{List, map}
use Prim.Native.Nat.{ℕ}
use lib.IntN.{ℤ}
use Rattle.table.specs.inner.View.{listed, main_of}
use Rattle.table.proofs.entries.Beyond.{listed-map}
use Rattle.month_arguments.specs.Longitudes.{Longitudes}
use Rattle.month_arguments.specs.Arguments.{main_argument}
use Rattle.month_arguments.specs.inner.Rows.{row_argument}

module _ (l : Longitudes) (maincards : List ℕ) (angles satelliteangles : List ℤ) (satelliteratios : List ℕ) where
  pub main-row : (k : ℕ) → row_argument l angles k ≡ main_argument l (main_of maincards angles satelliteangles satelliteratios k)
  unfolding row_argument main_of
  main-row k = refl

  pub mains-rows : (n : ℕ) → map (main_argument l) (listed (main_of maincards angles satelliteangles satelliteratios) 0 n) ≡ listed (row_argument l angles) 0 n
  unfolding row_argument main_of
  mains-rows n = listed-map (main_argument l) (main_of maincards angles satelliteangles satelliteratios) 0 n
