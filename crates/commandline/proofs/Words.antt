-- The columns of a row from a byte on, as many as it has left, are the row behind that byte. Rests on the laws of `padded`. Assumes nothing.
use Prim.Native.Nat.{ℕ, ◌-◌}
use mathlib.Core.List.{List}
use mathlib.Core.Path.{◌≡◌, sym, ◌∙◌}
use native.Mathlib.Omega.{arith}
use lib.ListN.{length, take, drop, length-drop}
use lib.Seq.{take_all}
use Rattle.columns.specs.Columns.{padded}
use Rattle.columns.proofs.Columns.{padded-part, padded-all}

pub row_from : (s : List ℕ) (at : ℕ) → padded 32 s at (length s - at) ≡ drop at s
row_from s at =
    let l = length-drop at s in
    let whole : take (length s - at) (drop at s) ≡ drop at s = take_all (length s - at) (drop at s) (omega (arith, l)) in
    sym (padded-part 32 s at (length s - at)) ∙ rw whole (rw (← l) (padded-all 32 (drop at s)))
