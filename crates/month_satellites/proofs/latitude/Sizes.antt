-- Sizes that `angles` does not state: of a difference of naturals, of a pair's products, and of what `floor_div` gives, carried on as `Known`.
use mathlib.Core.Path.{◌≡◌, ◌∙◌, ap}
use Prim.Native.Nat.{ℕ, zero, suc, ◌*◌, ◌^◌, ◌≤◌, ◌<◌}
use native.Mathlib.Nat.{le_trans}
use native.Mathlib.Omega.{arith}
use lib.IntN.{ℤ, pos, nat_abs, ◌-ℤ◌, ◌*ℤ◌}
use lib.Dec.{lit<}
use mir.Syntax.{Width}
use mir.Val.{SFits, to_z, of_z}
use mir.ValLaws.{to_z-of_z}
use Rattle.angles.specs.Floor.{floor_div}
use Rattle.angles.proofs.Ints.{by_order}
use Rattle.angles.proofs.Floors.{floor-size}
use Rattle.angles.proofs.Machine.{held}
use Rattle.angles.proofs.Known.{Known, read, times}

-- neither of two naturals passes n, nor does their difference
pub apart-size : (a b n : ℕ) → a ≤ n → b ≤ n → nat_abs (pos a -ℤ pos b) ≤ n
apart-size a zero n h k = omega arith
apart-size a (suc b) n h k = by_order (λ z. nat_abs z ≤ n) a (suc b) (λ l. omega arith) (λ l. omega arith)

-- what is known of a number by another name
pub named : {x a b : ℤ} {A : ℕ} → Known x a A → a ≡ b → Known x b A
named {x} {a} {b} {A} k e = record { is = k.is ∙ e; size = rw e at k.size }

-- the product of two numbers of pairs
pub pair-product : (a b : ℤ) → nat_abs a ≤ 2 ^ 22 → nat_abs b ≤ 2 ^ 22 → Known (held a *ℤ held b) (a *ℤ b) (2 ^ 44)
pair-product a b h k = times (read a h (lit< tt)) (read b k (lit< tt))

-- the size of a number of another width, widened to 64 bits
pub size-widened : (w : Width) (n : ℤ) (k : ℕ) {A : ℕ} → A < 2 ^ 63 → SFits w n → nat_abs n ≤ A → k ≡ nat_abs (held (to_z w (of_z w n))) → k ≡ nat_abs n
size-widened w n k l f h e = e ∙ ap nat_abs (ap held (to_z-of_z w n f) ∙ (read n h l).is)

-- what a call gave: the floor of what was known
pub floored : {r x a : ℤ} {A : ℕ} (m n : ℕ) → r ≡ floor_div x n → Known x a A → zero < n → A ≤ m * n → Known r (floor_div a n) m
floored {r} {x} {a} m n e k some l =
    record { is = e ∙ ap (λ (z : ℤ). floor_div z n) k.is; size = floor-size n some a m (le_trans k.size l) }
