-- The nearest centimetre by way of half centimetres: a floor of a floor is the floor by the product, and 50 more is one half centimetre more.
-- Assumes nothing.
use mathlib.Core.Path.{◌≡◌, sym, ap, ◌∙◌, subst}
use Prim.Native.Nat.{ℕ, ◌+◌, ◌*◌, ◌^◌, ◌≤◌, ◌<◌}
use native.Mathlib.Nat.{div-div-eq-div-mul, le_trans}
use lib.Dec.{lit<, lit≤}
use lib.IntN.{ℤ, pos, negsuc, nat_abs, ◌+ℤ◌}
use mir.Syntax.{w64}
use lib.Signed.{mag}
use mir.Val.{SFits}
use mir.ValLaws.{to_z-of_z}
use Rattle.angles.specs.Floor.{floor_div}
use Rattle.angles.proofs.Floors.{floor-shift, floor-size}
use Rattle.angles.proofs.Known.{Known, read, read-narrow, plus, plainly}
use Rattle.angles.proofs.Machine.{held}
use Rattle.hourly.specs.Month.{centimetres}

-- what fits the machine's number is read back from it
pub read_back : (z : ℤ) → mag z < 2 ^ 63 → held z ≡ z
read_back z h = to_z-of_z w64 z (record { sfits = h })

floor-twice : (z : ℤ) (m n : ℕ) → floor_div (floor_div z m) n ≡ floor_div z (m * n)
floor-twice (pos a) m n = ap pos (div-div-eq-div-mul a m n)
floor-twice (negsuc a) m n = ap negsuc (div-div-eq-div-mul a m n)

pub nearest : (h : ℤ) → floor_div (floor_div h 50 +ℤ pos 1) 2 ≡ centimetres h
nearest h = ap (λ (z : ℤ). floor_div z 2) (sym (floor-shift 50 (lit< tt) h (pos 1))) ∙ floor-twice (h +ℤ pos 50) 50 2

-- the half centimetres, one more, as the machine has them
pub half-centimetres : (h r : ℤ) → SFits w64 h → r ≡ floor_div h 50 → Known (held r +ℤ pos 1) (floor_div h 50 +ℤ pos 1) (2 ^ 58 + 1)
half-centimetres h r f e =
    let size : nat_abs h ≤ 2 ^ 58 * 50 = le_trans (read-narrow w64 h f).size (lit≤ tt) in
    let small : nat_abs (floor_div h 50) ≤ 2 ^ 58 = floor-size 50 (lit< tt) h (2 ^ 58) size in
    let small-too : nat_abs r ≤ 2 ^ 58 = subst (λ (z : ℤ). nat_abs z ≤ 2 ^ 58) (sym e) small in
    let there : Known (held r) (floor_div h 50) (2 ^ 58) = record { is = (read r small-too (lit< tt)).is ∙ e; size = small } in
    plus there (plainly (pos 1) {A = 1} (lit≤ tt))
