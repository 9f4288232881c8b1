-- `card::places::main_at` meets its contract. The loop keeps that what is found among the rows left is what is found among all.
use native.Mathlib.Nat.{sub-zero}
use borrow.Author.Tests.{eq-eqb, ne_eqb}
use Rattle.card.proofs.places.Defined.{main-more, main-none}
use Rattle.card.proofs.places.main_at.Goals as goal

pub loop-k-init : goal.loop-k-init
loop-k-init c =
    rw (sub-zero c.args.count)

pub returns-then-place-at : goal.returns-then-place-at
returns-then-place-at c =
    rw (main-more c.args.place 3 c.args.cards.now c.loop-k.k c.args.count c.args.j c.loop-k-test.true, ← c.at.ensures, eq-eqb _ _ c.if-place-at.true) at c.loop-k.invariant

pub loop-k-preserved : goal.loop-k-preserved
loop-k-preserved c =
    rw (main-more c.args.place 3 c.args.cards.now c.loop-k.k c.args.count c.args.j c.loop-k-test.true, ← c.at.ensures, ne_eqb _ _ c.if-place-at.false) at c.loop-k.invariant

pub returns : goal.returns
returns c =
    rw c.not_main.ensures (rw (main-none c.args.place 3 c.args.cards.now c.loop-k.k c.args.count c.args.j c.loop-k-test.false) at c.loop-k.invariant)
