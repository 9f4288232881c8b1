-- `card_mains::mains::main_made` meets its contract: the one test of the definition.
use borrow.Author.Tests.{lt-ltb, le-ltb}
use mir.Syntax.{w8}
use mir.ValLaws.{to_z-of_z}
use Rattle.card_mains.specs.Mains.{main_made}
use Rattle.card_mains.proofs.mains.main_made.Goals as goal

pub returns-then-satellites-count-gt-SATELLITES : goal.returns-then-satellites-count-gt-SATELLITES
unfolding main_made
returns-then-satellites-count-gt-SATELLITES c =
    rw (c.only.ensures, lt-ltb _ _ c.if-satellites-count-gt-SATELLITES.true)

pub returns : goal.returns
unfolding main_made
returns c =
    rw (le-ltb _ _ c.if-satellites-count-gt-SATELLITES.false, to_z-of_z w8 c.args.phase c.ranges.phase)
