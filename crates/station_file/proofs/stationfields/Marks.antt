-- The blank by its byte alone.
use mathlib.Core.Path.{◌≡◌, refl}
use Prim.Native.Nat.{ℕ}
use mathlib.Core.Bool.{Bool, true, false, ◌&&◌}
use lib.Dec.{eqb, leb}
use borrow.Author.Tests.{eqb-true, eqb-false, leb-true}
use native.Mathlib.Omega.{arith}
use Rattle.columns.specs.Bytes.{blank}

pub blank-is : (b : ℕ) → eqb b 32 ≡ blank b
blank-is b = go (eqb b 32) (leb 32 b) (leb b 32) refl refl refl
  where
    go : (t l h : Bool) → eqb b 32 ≡ t → leb 32 b ≡ l → leb b 32 ≡ h → t ≡ (l && h)
    go true l h e p q = rw (← p, ← q, eqb-true b 32 e)
    go false true true e p q = absurd (eqb-false b 32 e (omega (arith, leb-true 32 b p, leb-true b 32 q)))
    go false true false e p q = refl
    go false false h e p q = refl
