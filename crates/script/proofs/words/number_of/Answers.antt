-- `script::words::number_of` meets its contract. The loop's invariant: the value and the digits left make the word's number. Assumes nothing.
use native.Mathlib.Omega.{arith}
use borrow.Author.Tests.{le-leb, lt-leb}
use Rattle.script.specs.Words.{number, number_after}
use Rattle.script.proofs.words.Words.{drop-next, drop-none, number-some, number-empty}
use Rattle.script.proofs.words.number_of.Goals as goal

pub returns-then-word-eq0 : goal.returns-then-word-eq0
unfolding number
returns-then-word-eq0 c =
    rw (number-empty c.args.most c.args.word.now c.if-word-eq0.true)

pub loop-b-init : goal.loop-b-init
loop-b-init c =
    (omega arith, number-some c.args.most c.args.word.now (omega arith))

pub returns-then-byte-lt48 : goal.returns-then-byte-lt48
unfolding number_after
returns-then-byte-lt48 c =
    rw (drop-next _ _ c.loop-b-test.true, lt-leb _ _ c.if-byte-lt48.true) at c.loop-b.invariant.1

pub returns-then-byte-gt57 : goal.returns-then-byte-gt57
unfolding number_after
returns-then-byte-gt57 c =
    rw (drop-next _ _ c.loop-b-test.true, le-leb _ _ c.if-byte-lt48.false, lt-leb _ _ c.if-byte-gt57.true) at c.loop-b.invariant.1

pub returns-then-most-next : goal.returns-then-most-next
unfolding number_after
returns-then-most-next c =
    rw (drop-next _ _ c.loop-b-test.true, le-leb _ _ c.if-byte-lt48.false, le-leb _ _ c.if-byte-gt57.false, ← c.digit.ensures.value, lt-leb _ _ c.if-most-next.true) at c.loop-b.invariant.1

pub loop-b-preserved : goal.loop-b-preserved
unfolding number_after
loop-b-preserved c =
    (omega arith, rw (drop-next _ _ c.loop-b-test.true, le-leb _ _ c.if-byte-lt48.false, le-leb _ _ c.if-byte-gt57.false, ← c.digit.ensures.value, le-leb _ _ c.if-most-next.false) at c.loop-b.invariant.1)

pub returns : goal.returns
unfolding number_after
returns c =
    rw (drop-none _ _ c.loop-b-test.false) at c.loop-b.invariant.1
