-- The two sums of the cosine's series are sums of powers, so their chords are known, up to a quarter turn.
-- Rests on `Chord`. Assumes nothing.
use mathlib.Core.Path.{◌≡◌, subst, fun_ext}
use Prim.Native.Nat.{ℕ, zero, suc, ◌+◌, ◌-◌, ◌*◌, ◌/◌, ◌^◌}
use native.Mathlib.Nat.{pow-zero, pow-suc}
use native.Mathlib.Omega.{arith}
use Rattle.cosine.specs.Fraction.{quarter, factorial, arc, unit, term, added, taken}
use Rattle.cosine.proofs.Chord.{Chorded, bend, power, scaled, summed}

mul-pow : (a b n : ℕ) → (a * b) ^ n ≡ a ^ n * b ^ n
mul-pow a b zero = simp pow-zero
mul-pow a b (suc n) = simp (pow-suc, mul-pow a b n) (omega arith)

-- term n t is `share n` times t ^ n
unfoldable pub share : ℕ → ℕ
share n = factorial 16 / factorial n * unit ^ (16 - n) * arc 1 ^ n

arc-is : (t : ℕ) → arc t ≡ arc 1 * t
unfolding arc
arc-is t = omega arith

term_is : (n t : ℕ) → share n * t ^ n ≡ term n t
unfolding term share
term_is n t = rw (arc-is t, mul-pow (arc 1) t n) (omega arith)

pub term-chorded : (n : ℕ) → Chorded quarter (term n) (share n * bend quarter n)
term-chorded n =
    subst (λ (f : ℕ → ℕ). Chorded quarter f (share n * bend quarter n)) (fun_ext (term_is n)) (scaled (share n) (power quarter n))

unfoldable pub weight : ℕ → ℕ
weight n = share n * bend quarter n

unfoldable pub added_bend : ℕ
added_bend = weight 0 + weight 4 + weight 8 + weight 12 + weight 16

unfoldable pub taken_bend : ℕ
taken_bend = weight 2 + weight 6 + weight 10 + weight 14

weighted : (n : ℕ) → Chorded quarter (term n) (weight n)
unfolding weight
weighted n = term-chorded n

pub added-chorded : Chorded quarter added added_bend
unfolding added added_bend
added-chorded = summed (summed (summed (summed (weighted 0) (weighted 4)) (weighted 8)) (weighted 12)) (weighted 16)

pub taken-chorded : Chorded quarter taken taken_bend
unfolding taken taken_bend
taken-chorded = summed (summed (summed (weighted 2) (weighted 6)) (weighted 10)) (weighted 14)
