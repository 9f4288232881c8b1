-- `swings::swing` meets its contract: a case for each test. Assumes nothing.
use native.Mathlib.Omega.{arith}
use borrow.Author.Tests.{lt-ltb, le-ltb}
use Rattle.swings.specs.Swings.{swing}
use mir.Syntax.{w64}
use mir.ValLaws.{to_z-of_z}
use Rattle.swings.proofs.swing.Goals as goal

pub returns-then-count-lt2 : goal.returns-then-count-lt2
unfolding swing
returns-then-count-lt2 c =
    record {
      is = rw (lt-ltb _ _ c.if-count-lt2.true);
      small = omega arith;
    }

pub returns-then-i-lt1 : goal.returns-then-i-lt1
unfolding swing
returns-then-i-lt1 c =
    let is = rw (to_z-of_z w64 c.height_at.result (record { sfits = c.height_at.type_inv }), to_z-of_z w64 c.height_at-then-i-lt1.result (record { sfits = c.height_at-then-i-lt1.type_inv })) at c.apart.ensures.is in record {
      is = rw (le-ltb _ _ c.if-count-lt2.false, lt-ltb _ _ c.if-i-lt1.true) (rw (← c.height_at.ensures, ← c.height_at-then-i-lt1.ensures) is);
      small = c.apart.ensures.small;
    }

pub returns : goal.returns
unfolding swing
returns c =
    let is = rw (to_z-of_z w64 c.height_at-2.result (record { sfits = c.height_at-2.type_inv }), to_z-of_z w64 c.height_at-3.result (record { sfits = c.height_at-3.type_inv })) at c.apart-2.ensures.is in record {
      is = rw (le-ltb _ _ c.if-count-lt2.false, le-ltb _ _ c.if-i-lt1.false) (rw (← c.height_at-2.ensures, ← c.height_at-3.ensures) is);
      small = c.apart-2.ensures.small;
    }
