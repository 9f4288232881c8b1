-- `daybook::booking::day_of` meets its contract: two digits are at least 48, so that no difference wraps. Assumes nothing.
use Prim.Native.Nat.{ℕ, ◌≤◌}
use mathlib.Core.Path.{◌≡◌, refl, sym, ◌∙◌}
use mathlib.Core.Bool.{Bool, true, false, ◌&&◌}
use mathlib.Core.List.{List}
use native.Mathlib.Omega.{arith}
use lib.Dec.{leb}
use borrow.Author.Tests.{leb-true}
use Rattle.columns.specs.Bytes.{among, every}
use Rattle.columns.specs.Columns.{column, columns, padded}
use Rattle.daybook.specs.Booking.{day_of}
use Rattle.daybook.proofs.booking.day_of.Goals as goal

-- two bytes, each from 48 to 57
two_digits_lem : (line : List ℕ) → every (among 48 57) (columns line 0 2) ≡ true → (48 ≤ column line 0) × (48 ≤ column line 1)
unfolding every padded
two_digits_lem line e = go _ _ _ _ refl refl e
  where
    go : (s t u v : Bool) → leb 48 (column line 0) ≡ s → leb 48 (column line 1) ≡ u → ((s && t) && ((u && v) && true)) ≡ true → (48 ≤ column line 0) × (48 ≤ column line 1)
    go true true true v a b h = (leb-true _ _ a, leb-true _ _ b)
    go true true false v a b h = absurd (let z : ◌≡◌ {A = ℕ} 0 1 = cc in omega arith)
    go true false u v a b h = absurd (let z : ◌≡◌ {A = ℕ} 0 1 = cc in omega arith)
    go false t u v a b h = absurd (let z : ◌≡◌ {A = ℕ} 0 1 = cc in omega arith)

pub digit-requires : goal.digit-requires
digit-requires c =
    let digits = two_digits_lem c.args.line.now (sym c.all_among.ensures ∙ c.if-all_among.true) in
    omega (arith, digits, c.column.ensures)

pub digit-requires-then-all_among : goal.digit-requires-then-all_among
digit-requires-then-all_among c =
    let digits = two_digits_lem c.args.line.now (sym c.all_among.ensures ∙ c.if-all_among.true) in
    omega (arith, digits, c.column-then-all_among.ensures)

pub returns-then-all_among : goal.returns-then-all_among
unfolding day_of
returns-then-all_among c =
    rw (← c.all_among.ensures, c.if-all_among.true, ← c.column.ensures, ← c.column-then-all_among.ensures, c.digit.ensures, c.digit-then-all_among.ensures)

pub returns : goal.returns
unfolding day_of
returns c =
    rw (← c.all_among.ensures, c.if-all_among.false)
