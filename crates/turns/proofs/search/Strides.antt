-- Striding: what one stride adds to the turns, and that more strides than minutes change nothing.
-- By induction on the strides: each goes on by a minute or more (`Cuts`: the later end lies past the stride's start). Assumes nothing.
use mathlib.Core.Path.{◌≡◌, refl, ap}
use mathlib.Core.Bool.{true, false}
use mathlib.Core.List.{List, [], ◌∷◌}
use Prim.Native.Nat.{ℕ, zero, suc, ◌+◌, ◌-◌, ◌≤◌, ◌<◌}
use native.Mathlib.Nat.{le_refl}
use native.Mathlib.Omega.{arith}
use borrow.Author.Tests.{ltb-false, lt-ltb, le-ltb}
use lib.Dec.{ltb}
use lib.IntN.{ℤ, nat_abs}
use lib.ListN.{length}
use Rattle.turns.specs.Sense.{differ}
use Rattle.turns.specs.Cuts.{later_end, smaller}
use Rattle.turns.proofs.bisection.Cuts.{by-test, same-else, end-within}
use Rattle.turns.specs.Search.{Turn, turn_in, turns_from, turns_of}

-- the turn between two minutes up to the last is not past it
pub smaller-within : (slope : ℕ → ℤ) (last minute : ℕ) → minute < last → smaller slope minute ≤ last
smaller-within slope last minute h =
    by-test (λ m. m ≤ last) (ltb (nat_abs (slope (minute + 1))) (nat_abs (slope minute))) (minute + 1) minute (λ e. omega arith) (λ e. omega arith)

module _ (slope : ℕ → ℤ) (stride : ℕ) (some : 0 < stride) (last : ℕ) where
  -- ---- more strides than minutes

  pub strides-enough : (m n minute : ℕ) → last - minute ≤ m → last - minute ≤ n → turns_from slope stride last m minute ≡ turns_from slope stride last n minute
  unfolding turns_from
  strides-enough zero zero minute h k = refl
  strides-enough zero (suc n) minute h k = rw (lt-ltb last (minute + stride) (omega arith))
  strides-enough (suc m) zero minute h k = rw (lt-ltb last (minute + stride) (omega arith))
  strides-enough (suc m) (suc n) minute h k =
      same-else (ltb last (minute + stride)) [] _ _
      (λ e. let l = ltb-false last (minute + stride) e in
      let w = end-within slope minute stride some in
      rw (strides-enough m n (later_end slope minute stride) (omega arith) (omega arith), strides-enough m n (minute + stride) (omega arith) (omega arith)))

  -- ---- no more turns than minutes

  turns-few-in : (n minute : ℕ) → length (turns_from slope stride last n minute) ≤ n
  unfolding turns_from
  turns-few-in zero minute = le_refl 0
  turns-few-in (suc n) minute =
      let one = turns-few-in n (later_end slope minute stride) in
      let same = turns-few-in n (minute + stride) in
      by-test (λ ts. length ts ≤ suc n) (ltb last (minute + stride)) [] _ (λ e. omega arith)
      (λ e. by-test (λ ts. length ts ≤ suc n) (differ (slope minute) (slope (minute + stride))) (turn_in slope minute stride ∷ turns_from slope stride last n (later_end slope minute stride)) (turns_from slope stride last n (minute + stride)) (λ d. omega arith) (λ d. omega arith))

  pub turns-few : (minute : ℕ) → length (turns_of slope stride minute last) ≤ last
  turns-few minute = let few = turns-few-in (last - minute) minute in omega arith

  -- ---- one stride

  turns-none-in : (n minute : ℕ) → last < minute + stride → turns_from slope stride last n minute ≡ []
  unfolding turns_from
  turns-none-in zero minute h = refl
  turns-none-in (suc n) minute h = rw (lt-ltb last (minute + stride) h)

  pub turns-none : (minute : ℕ) → last < minute + stride → turns_of slope stride minute last ≡ []
  turns-none minute h = turns-none-in (last - minute) minute h

  pub turns_same : (minute : ℕ) → minute + stride ≤ last → differ (slope minute) (slope (minute + stride)) ≡ false → turns_of slope stride minute last ≡ turns_of slope stride (minute + stride) last
  unfolding turns_from
  turns_same minute h e =
      let more : last - minute ≡ suc (last - minute - 1) = omega arith in
      rw (more, le-ltb last (minute + stride) h, e) (strides-enough (last - minute - 1) (last - (minute + stride)) (minute + stride) (omega arith) (le_refl (last - (minute + stride))))

  pub turns-one : (minute : ℕ) → minute + stride ≤ last → differ (slope minute) (slope (minute + stride)) ≡ true → turns_of slope stride minute last ≡ turn_in slope minute stride ∷ turns_of slope stride (later_end slope minute stride) last
  unfolding turns_from
  turns-one minute h e =
      let more : last - minute ≡ suc (last - minute - 1) = omega arith in
      let w = end-within slope minute stride some in
      rw (more, le-ltb last (minute + stride) h, e) (ap (λ (ts : List Turn). turn_in slope minute stride ∷ ts) (strides-enough (last - minute - 1) (last - later_end slope minute stride) (later_end slope minute stride) (omega arith) (le_refl (last - later_end slope minute stride))))
