-- A chain of signed operations in i64: what a register holds and how large it can be, carried from step to step.
-- `Known x a A`: the term x of a need is the number a, and a's size is at most A. For (p * c - q * s) >> 30, with `h1` and `h2` the sizes:
--     first = times (read p h1 (lit< tt)) (read c h2 (lit< tt))              -- Known (held p *ℤ held c) (p *ℤ c) (2 ^ 31 * 2 ^ 30)
--     both = minus (kept first (lit< tt)) (kept second (lit< tt))            -- Known (held (..) -ℤ held (..)) (p *ℤ c -ℤ q *ℤ s) (..)
--     sub-result c = fits both (lit< tt)                                     -- each bound, a numeral, is held to 2^63
--     returns c = kept (shifted (kept both (lit< tt)) (2 ^ 30) (2 ^ 32) (lit< tt) (lit≤ tt)) (lit< tt) .is
-- Rests on `Ints`, `Floors`, `Machine`. Assumes nothing.
use mathlib.Core.Path.{◌≡◌, refl, sym, ◌∙◌, ap, ap₂, subst}
use Prim.Native.Nat.{ℕ, zero, ◌+◌, ◌*◌, ◌^◌, ◌≤◌, ◌<◌}
use native.Mathlib.Nat.{le_trans, le_of_eq, mul-le-mul, lt_of_le_of_lt, add-le-add}
use lib.IntN.{ℤ, pos, neg_ℤ, nat_abs, ◌+ℤ◌, ◌-ℤ◌, ◌*ℤ◌, +ℤ_idl}
use lib.Signed.{shr_z, nat_abs-le}
use mir.Syntax.{Width, w64}
use mir.Val.{hbits, SFits, to_z, of_z}
use mir.ValLaws.{to_z-of_z}
use Rattle.angles.specs.Floor.{floor_div}
use Rattle.angles.proofs.Ints.{triangle, triangle-sub, nat_abs_mul, nat_abs-neg}
use Rattle.angles.proofs.Floors.{shift-is-floor, floor-size}
use Rattle.angles.proofs.Machine.{held, fits_below, fits-as, through, signed_is}

pub record Known (x a : ℤ) (A : ℕ) : Type 0 where
  pub is : x ≡ a
  pub size : nat_abs a ≤ A

-- a numeral, or any number as it is
pub plainly : (a : ℤ) {A : ℕ} → nat_abs a ≤ A → Known a a A
plainly a h = record { is = refl; size = h }

-- a parameter, a field or a result, read back from its register
pub read : (a : ℤ) {A : ℕ} → nat_abs a ≤ A → A < 2 ^ 63 → Known (held a) a A
read a h l = record { is = through refl (fits_below a (lt_of_le_of_lt h l)); size = h }

-- of any width, by the width alone
pub read-narrow : (w : Width) (a : ℤ) → SFits w a → Known (to_z w (of_z w a)) a (2 ^ hbits w)
read-narrow w a f = record { is = to_z-of_z w a f; size = nat_abs-le a f.sfits }

-- a natural number as i64
pub cast : (m : ℕ) {A : ℕ} → m ≤ A → A < 2 ^ 63 → Known (to_z w64 m) (pos m) A
cast m h l = record { is = signed_is m (lt_of_le_of_lt h l); size = h }

-- a smaller bound, known otherwise
pub bounded : {x a : ℤ} {A B : ℕ} → Known x a A → nat_abs a ≤ B → Known x a B
bounded k h = record { is = k.is; size = h }

pub fits : {x a : ℤ} {A : ℕ} → Known x a A → A < 2 ^ 63 → SFits w64 x
fits {x} {a} k l = fits-as k.is (fits_below a (lt_of_le_of_lt k.size l))

-- written to a register and read back
pub kept : {x a : ℤ} {A : ℕ} → Known x a A → A < 2 ^ 63 → Known (held x) a A
kept {x} {a} k l = record { is = through k.is (fits_below a (lt_of_le_of_lt k.size l)); size = k.size }

-- from what is known of x itself, as a callee's promises, and back
pub known : {x a : ℤ} {A : ℕ} → x ≡ a → nat_abs x ≤ A → Known x a A
known {x} {a} {A} e h = record { is = e; size = subst (λ (z : ℤ). nat_abs z ≤ A) e h }

pub says : {x a : ℤ} {A : ℕ} → Known x a A → (x ≡ a) × (nat_abs x ≤ A)
says {x} {a} {A} k = (k.is, subst (λ (z : ℤ). nat_abs z ≤ A) (sym k.is) k.size)

-- -x
pub negated : {x a : ℤ} {A : ℕ} → Known x a A → Known (pos 0 -ℤ x) (neg_ℤ a) A
negated {x} {a} k =
    record { is = ap (λ (z : ℤ). pos 0 -ℤ z) k.is ∙ +ℤ_idl (neg_ℤ a); size = le_trans (le_of_eq (nat_abs-neg a)) k.size }

module _ {x y a b : ℤ} {A B : ℕ} (p : Known x a A) (q : Known y b B) where
  pub plus : Known (x +ℤ y) (a +ℤ b) (A + B)
  plus = record { is = ap₂ ◌+ℤ◌ p.is q.is; size = le_trans (triangle a b) (add-le-add p.size q.size) }

  pub minus : Known (x -ℤ y) (a -ℤ b) (A + B)
  minus = record { is = ap₂ ◌-ℤ◌ p.is q.is; size = le_trans (triangle-sub a b) (add-le-add p.size q.size) }

  pub times : Known (x *ℤ y) (a *ℤ b) (A * B)
  times = record { is = ap₂ ◌*ℤ◌ p.is q.is; size = le_trans (le_of_eq (nat_abs_mul a b)) (mul-le-mul p.size q.size) }

-- x >> k, with n = 2^k
pub shifted : {x a : ℤ} {A : ℕ} → Known x a A → (n m : ℕ) → zero < n → A ≤ m * n → Known (shr_z x n) (floor_div a n) m
shifted {x} {a} k n m some l =
    record { is = ap (λ (z : ℤ). shr_z z n) k.is ∙ shift-is-floor a n; size = floor-size n some a m (le_trans k.size l) }
