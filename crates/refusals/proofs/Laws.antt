-- What is refused is not accepted. Assumes nothing.
use mathlib.Core.Path.{◌≡◌}
use Prim.Native.Nat.{ℕ}
use native.Mathlib.Omega.{arith}
use Rattle.refusals.specs.Outcome.{accepted, refused}

pub not-both : {A B : Type 0} {number place : ℕ} {a : A} → refused number place ≡ accepted a → B
not-both e = let z : ◌≡◌ {A = ℕ} 0 1 = cc in absurd (omega arith)
