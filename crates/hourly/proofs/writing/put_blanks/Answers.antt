-- `hourly::writing::put_blanks` meets its contract: the part that is filled holds the blanks. Assumes nothing.
use mathlib.Core.Path.{◌≡◌, sym, ap, ◌∙◌}
use mathlib.Core.List.{List, ◌++◌}
use Prim.Native.Nat.{ℕ, ◌+◌, ◌-◌, ◌≤◌}
use native.Mathlib.Omega.{arith}
use borrow.Rule.Slice.PartMut.{put_mid}
use lib.ListN.{length, take, drop, replicate, length-drop, length-replicate, drop_of_length-le}
use lib.Seq.{sets, sets-eq, take-length, length-take-le}
use Rattle.std.proofs.Common.{append-nil}
use Rattle.std.proofs.lemmas.List.Edits.{fill_none, fill_more}
use Rattle.std.proofs.lemmas.Slice.{put_mid-paste}
use Rattle.hourly.proofs.writing.put_blanks.Goals as goal

module _ (out : List ℕ) (at count n : ℕ) (there : at + count ≤ length out) (e : n ≡ count) where
  slice-length : length (take n (drop at out)) ≡ count
  slice-length = rw e (length-take-le count (drop at out) (omega (arith, length-drop at out)))

  -- the bytes of the part, when all of it is filled
  all-blank : (part : List ℕ) (k : ℕ) → k ≡ count → part ≡ replicate k 32 ++ drop k (take n (drop at out)) → part ≡ replicate count 32
  all-blank part k all h = h ∙ rw (all, drop_of_length-le (take n (drop at out)) {i = count} (omega (arith, slice-length))) (append-nil _)

  filled : (part : List ℕ) → part ≡ replicate count 32 → put_mid at n out part ≡ sets out at (replicate count 32)
  filled part h =
      let blanks = replicate count 32 in
      let all : take count blanks ≡ blanks = ap (λ (k : ℕ). take k blanks) (sym (length-replicate {A = ℕ} count 32)) ∙ take-length blanks in
      rw (sets-eq blanks out at (omega (arith, length-replicate {A = ℕ} count 32)), length-replicate {A = ℕ} count 32)
      (put_mid-paste at n out part blanks count h (sym e) (sym (length-replicate {A = ℕ} count 32)) ∙ rw all)

pub loop-byte-init : goal.loop-byte-init
loop-byte-init c = fill_none _ 32

pub loop-byte-preserved : goal.loop-byte-preserved
loop-byte-preserved c =
    let slice = take (c.args.at + c.args.count - c.args.at) (drop c.args.at c.args.out.now) in
    rw c.loop-byte.invariant (fill_more c.loop-byte.byte-index 32 slice c.loop-byte-test.true)

pub returns : goal.returns
returns c =
    let n = c.args.at + c.args.count - c.args.at in
    let many : n ≡ c.args.count = omega arith in
    let all : c.loop-byte.byte-index ≡ c.args.count = omega (arith, slice-length c.args.out.now c.args.at c.args.count n c.requires many) in
    filled c.args.out.now c.args.at c.args.count n c.requires many c.loop-byte.byte-items
    (all-blank c.args.out.now c.args.at c.args.count n c.requires many c.loop-byte.byte-items c.loop-byte.byte-index all c.loop-byte.invariant)
