-- `card_shallows::parts::parts_on` meets its contract. The loop's invariant: the parts left on the card, after those in the rows, give all of them.
-- The measure is how many are left. Rests on the laws of a card's parts.
use borrow.Author.Rules.{rules}
use mathlib.Core.Path.{◌≡◌, refl, ◌∙◌}
use Prim.Native.Nat.{◌+◌, ◌<◌}
use native.Mathlib.Omega.{arith}
use native.Mathlib.Nat.{sub-zero}
use lib.IntN.{nat_abs}
use lib.ListN.{length}
use lib.Seq.{get_or-set_other}
use mir.Syntax.{w8, w64}
use mir.Val.{SFits}
use mir.ValLaws.{to_z-of_z}
use mir.Facts.{sfits_widen}
use Rattle.columns.specs.Names.{names_from}
use Rattle.table.specs.inner.View.{listed, part_of}
use Rattle.card.specs.inner.Places.{places_in}
use Rattle.card_shallows.proofs.parts.PartLaws.{parts_more, parts_none, read-sizes, part-put}
use Rattle.card_shallows.proofs.parts.parts_on.Goals as goal

pub loop-j-init : goal.loop-j-init
unfolding listed
loop-j-init c =
    (omega arith, omega arith, refl, refl, refl, refl, rw (sub-zero c.args.count))

pub overflow_cast-p : goal.overflow_cast-p
overflow_cast-p c =
    let f : SFits w8 c.in-Ok.p.coefficient = search rules in
    rw (to_z-of_z w8 c.in-Ok.p.coefficient f) (sfits_widen tt f)

pub overflow_add-sizes : goal.overflow_add-sizes
overflow_add-sizes c =
    let names = names_from c.args.table.now.names 0 c.args.table.now.frequencies in
    let mains = places_in 3 c.args.table.now.maincards c.args.table.now.mains in
    let f : SFits w8 c.in-Ok.p.coefficient = search rules in
    let g : SFits w64 c.in-Ok.p.coefficient = sfits_widen tt f in
    let size : c.size-sizes.result ≡ nat_abs c.in-Ok.p.coefficient = rw (to_z-of_z w8 c.in-Ok.p.coefficient f, to_z-of_z w64 c.in-Ok.p.coefficient g) at c.size-sizes.ensures in
    let within = read-sizes names mains c.args.line.now c.loop-j.sizes c.loop-j.j c.part.result c.in-Ok.p c.in-Ok.is c.part.ensures in
    omega arith

pub loop-j-preserved : goal.loop-j-preserved
loop-j-preserved c =
    let names = names_from c.args.table.now.names 0 c.args.table.now.frequencies in
    let mains = places_in 3 c.args.table.now.maincards c.args.table.now.mains in
    let f : SFits w8 c.in-Ok.p.coefficient = search rules in
    let g : SFits w64 c.in-Ok.p.coefficient = sfits_widen tt f in
    let size : c.size-sizes.result ≡ nat_abs c.in-Ok.p.coefficient = rw (to_z-of_z w8 c.in-Ok.p.coefficient f, to_z-of_z w64 c.in-Ok.p.coefficient g) at c.size-sizes.ensures in
    let within = read-sizes names mains c.args.line.now c.loop-j.sizes c.loop-j.j c.part.result c.in-Ok.p c.in-Ok.is c.part.ensures in
    let wide : 2 + c.loop-j.j < length c.loop-j.card = omega arith in
    let long : c.loop-j.j < length c.loop-j.coefficients = omega arith in (
      omega arith,
      omega arith,
      search rules,
      search rules,
      get_or-set_other c.loop-j.card (2 + c.loop-j.j) 0 c.in-Ok.p.main 0 (λ e. omega arith) ∙ c.loop-j.invariant.4,
      get_or-set_other c.loop-j.card (2 + c.loop-j.j) 1 c.in-Ok.p.main 0 (λ e. omega arith) ∙ c.loop-j.invariant.5,
      rw (to_z-of_z w8 c.in-Ok.p.coefficient f, part-put c.loop-j.card c.loop-j.coefficients c.in-Ok.p.coefficient c.in-Ok.p.main c.loop-j.j wide long, size)
          (rw (parts_more names mains c.args.line.now (listed (part_of c.loop-j.card c.loop-j.coefficients) 0 c.loop-j.j) c.loop-j.sizes c.loop-j.j c.args.count c.loop-j-test.true, ← c.part.ensures, c.in-Ok.is) at c.loop-j.invariant.6),
    )

pub returns-in-Err : goal.returns-in-Err
returns-in-Err c =
    let names = names_from c.args.table.now.names 0 c.args.table.now.frequencies in
    let mains = places_in 3 c.args.table.now.maincards c.args.table.now.mains in
    let e = rw (parts_more names mains c.args.line.now (listed (part_of c.loop-j.card c.loop-j.coefficients) 0 c.loop-j.j) c.loop-j.sizes c.loop-j.j c.args.count c.loop-j-test.true, ← c.part.ensures, c.in-Err.is) at c.loop-j.invariant.6 in
    rw (← e)

pub returns : goal.returns
returns c =
    let names = names_from c.args.table.now.names 0 c.args.table.now.frequencies in
    let mains = places_in 3 c.args.table.now.maincards c.args.table.now.mains in
    let all : c.args.count ≡ c.loop-j.j = omega arith in
    let e = rw (parts_none names mains c.args.line.now (listed (part_of c.loop-j.card c.loop-j.coefficients) 0 c.loop-j.j) c.loop-j.sizes c.loop-j.j c.args.count c.loop-j-test.false) at c.loop-j.invariant.6 in
    rw (← e, c.loop-j.invariant.4, c.loop-j.invariant.5 ∙ all)
