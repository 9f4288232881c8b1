-- `refusal_words::with_zeros` meets its contract: the zeros, with the words pasted over them one by one. Assumes nothing.
use mathlib.Core.Path.{◌≡◌, refl, sym, ap, ◌∙◌}
use Prim.Native.Nat.{ℕ, zero, suc, ◌+◌, ◌-◌, ◌≤◌, ◌<◌}
use mathlib.Core.List.{List, ◌++◌}
use native.Mathlib.Omega.{arith}
use native.Mathlib.Numerals.{add-one}
use lib.ListN.{length, get_or, set, replicate, drop, length-replicate}
use lib.Seq.{paste-suc, take-length}
use Rattle.refusal_words.specs.Words.{zeros_behind}
use Rattle.refusal_words.proofs.with_zeros.Invariants.{over}
use Rattle.refusal_words.proofs.with_zeros.Goals as goal

over-more : (n : ℕ) (words : List ℕ) (k : ℕ) → k < length words → length words ≤ n → set (over n words k) k (get_or words k 0) ≡ over n words (k + 1)
over-more n words k h m =
    let z : 0 + k ≡ k = omega arith in
    let l : 0 + k < length (replicate {A = ℕ} n 0) = omega (arith, length-replicate {A = ℕ} n 0) in
    let e : set (over n words k) (0 + k) (get_or words k 0) ≡ over n words (suc k) = paste-suc (replicate n 0) 0 words k 0 l h in
    ap (λ (i : ℕ). set (over n words k) i (get_or words k 0)) (sym z) ∙ (e ∙ ap (over n words) (sym (add-one k)))

zeros-left : (n k : ℕ) → drop {A = ℕ} k (replicate n 0) ≡ replicate (n - k) 0
zeros-left n zero = let e : n - 0 ≡ n = omega arith in rw e
zeros-left zero (suc k) = let e : 0 - suc k ≡ 0 = omega arith in rw e
zeros-left (suc n) (suc k) = let e : suc n - suc k ≡ n - k = omega arith in rw e (zeros-left n k)

over-all : (n : ℕ) (words : List ℕ) → over n words (length words) ≡ words ++ replicate (n - length words) 0
over-all n words = let z : 0 + length words ≡ length words = omega arith in rw (z, take-length words, zeros-left n (length words))

pub loop-k-init : goal.loop-k-init
loop-k-init c = refl

pub loop-k-preserved : goal.loop-k-preserved
loop-k-preserved c = rw c.loop-k.invariant (over-more 64 c.args.words.now c.loop-k.k c.loop-k-test.true c.requires)

pub returns : goal.returns
unfolding zeros_behind
returns c =
    let e : c.loop-k.k ≡ length c.args.words.now = omega arith in
    c.loop-k.invariant ∙ rw e (over-all 64 c.args.words.now)
