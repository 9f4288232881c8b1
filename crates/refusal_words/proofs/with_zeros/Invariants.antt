-- `refusal_words::with_zeros`: the first k words are over the zeros.
use mathlib.Core.Path.{◌≡◌}
use Prim.Native.Nat.{ℕ}
use mathlib.Core.List.{List}
use lib.ListN.{replicate}
use lib.Seq.{paste}
use Rattle.refusal_words.proofs.with_zeros.Given as goal

-- n zeros, with the first k words over them
abbrev pub over : ℕ → List ℕ → ℕ → List ℕ
over n words k = paste (replicate n 0) 0 words k

abbrev pub invariant-loop-k : goal.invariant-loop-k
invariant-loop-k l = l.text ≡ over 64 l.words l.k
