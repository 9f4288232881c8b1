-- Laws of the check that every frequency is defined: one place more, or none left.
-- By the clauses of the definition. Assumes nothing.
use mathlib.Core.Path.{◌≡◌}
use mathlib.Core.List.{List}
use mathlib.Core.Bool.{Bool, true, false, cond}
use Prim.Native.Nat.{ℕ, zero, suc, ◌+◌, ◌-◌, ◌≤◌, ◌<◌}
use native.Mathlib.Omega.{arith}
use Rattle.std.specs.Prelude.{Some, None}
use Rattle.refusals.specs.Places.{is_among}
use Rattle.card_file.specs.Cards.{first_undefined}

module _ (defined : List ℕ) (k n : ℕ) where
  pub defined_more : k < n → first_undefined defined k (n - k) ≡ cond (is_among k defined) (first_undefined defined (k + 1) (n - (k + 1))) (Some k)
  unfolding first_undefined
  defined_more h = let e : n - k ≡ suc (n - (k + 1)) = omega arith in rw e

  pub defined-none : n ≤ k → first_undefined defined k (n - k) ≡ None
  unfolding first_undefined
  defined-none h = let e : n - k ≡ 0 = omega arith in rw e

-- a place that is found is one of those asked
pub undefined-within : (defined : List ℕ) (k n place : ℕ) → first_undefined defined k n ≡ Some place → place < k + n
unfolding first_undefined
undefined-within defined k zero place e = let z : ◌≡◌ {A = ℕ} 0 1 = cc in absurd (omega arith)
undefined-within defined k (suc n) place e = go (is_among k defined) e (λ h. undefined-within defined (k + 1) n place h)
  where
    go : (t : Bool) → cond t (first_undefined defined (k + 1) n) (Some k) ≡ Some place → (first_undefined defined (k + 1) n ≡ Some place → place < k + 1 + n) → place < k + suc n
    go true q later = omega (arith, later q)
    go false q later = let p : k ≡ place = cc in omega arith
