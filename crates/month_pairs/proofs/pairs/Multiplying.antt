-- The multiplications by one pair, one by one: what is left of them after each. By the definition's own clauses.
use mathlib.Core.Path.{◌≡◌}
use Prim.Native.Nat.{ℕ, suc, ◌+◌, ◌-◌, ◌≤◌, ◌<◌}
use native.Mathlib.Omega.{arith}
use Rattle.month_satellites.specs.Satellites.{Pair}
use Rattle.refusals.specs.Checked.{good, ◌>>=◌}
use Rattle.month_pairs.specs.Pairs.{Corrected, checked, times_pair, times_often}

-- so many times by one pair, k of them done
pub often-next : (k n : ℕ) (P p : Pair) (c : Corrected) → k < n → c ≡ checked (times_pair P p) → c >>= (λ Q. times_often (n - (k + 1)) Q p) ≡ times_often (n - k) P p
unfolding times_often
often-next k n P p c h e = let d : n - k ≡ suc (n - (k + 1)) = omega arith in rw (e, d)

pub often-none : (k n : ℕ) (P p : Pair) → n ≤ k → good P ≡ times_often (n - k) P p
unfolding times_often
often-none k n P p h = let d : n - k ≡ 0 = omega arith in rw d
