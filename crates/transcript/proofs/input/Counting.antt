-- The line feeds in a part of the buffer, counted in the part. By induction on its bytes. Assumes nothing.
use Rattle.std.proofs.Common.{◌≡◌, ℕ, zero, suc, ◌+◌, ◌≤◌, ◌<◌, ◌==◌, Bool, true, false, cond, List, length, take, drop, slice_index, count_by, refl, ◌∙◌, arith}
use Rattle.std.proofs.lemmas.List.Sums.{sum_by-cons}
use Rattle.std.proofs.Math.Seq.{drop-cons}
use Rattle.transcript.specs.inner.Window.{one_if, feeds_from}

one-more : (t : Bool) (m n : ℕ) → m ≡ n → cond t 1 0 + m ≡ one_if t + n
one-more true m n e = omega arith
one-more false m n e = omega arith

pub feeds-part : (s : List ℕ) (k n : ℕ) → k + n ≤ length s → count_by (λ b. b == 10) (take n (drop k s)) ≡ feeds_from s k n
unfolding feeds_from
feeds-part s k zero h = refl
feeds-part s k (suc n) h =
    let i : k < length s = omega arith in
    let e : k + 1 ≡ suc k = omega arith in
    rw (drop-cons s k 0 i, e) (sum_by-cons _ (slice_index s k) (take n (drop (suc k) s)) ∙ one-more (slice_index s k == 10) _ _ (feeds-part s (suc k) n (omega arith)))
