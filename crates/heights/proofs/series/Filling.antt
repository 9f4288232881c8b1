-- An array that is filled from the front: one place more, and the places not reached yet. By what `set` does at its place and elsewhere.
-- Assumes nothing.
use Prim.Native.Nat.{ℕ, ◌+◌, ◌≤◌, ◌<◌}
use native.Mathlib.Omega.{arith}
use mathlib.Core.Path.{◌≡◌, ◌∙◌}
use mathlib.Core.List.{List}
use borrow.Author.Count.{below_more}
use lib.ListN.{length, get_or, set}
use lib.Seq.{get_or-set_same, get_or-set_other}

module _ {A : Type 0} (none : A) (xs : List A) (i : ℕ) (v : A) where
  pub filled_more : (f : ℕ → A) → i < length xs → ((k : ℕ) → k < i → get_or xs k none ≡ f k) → v ≡ f i → (k : ℕ) → k < i + 1 → get_or (set xs i v) k none ≡ f k
  filled_more f h all e =
      below_more (λ k. get_or (set xs i v) k none ≡ f k) i (λ k l. get_or-set_other xs i k v none (λ s. omega arith) ∙ all k l) (get_or-set_same xs i v none h ∙ e)

  pub unreached : (f : ℕ → A) → ((k : ℕ) → i ≤ k → get_or xs k none ≡ f k) → (k : ℕ) → i + 1 ≤ k → get_or (set xs i v) k none ≡ f k
  unreached f all k l = get_or-set_other xs i k v none (λ s. omega arith) ∙ all k (omega arith)
