-- `card_frequencies::longitudes::five_card` meets its contract. The loop keeps that reading on from field k gives what reading the whole card gives.
use borrow.Author.Rules.{rules}
use native.Mathlib.Omega.{arith}
use mathlib.Core.Path.{refl}
use mathlib.Core.List.{map}
use Prim.Native.Nat.{◌≤◌, ◌<◌}
use lib.ListN.{length, take}
use lib.Seq.{take_all}
use lib.IntN.{pos}
use Rattle.card.specs.Formats.{five_field}
use Rattle.card_frequencies.specs.Longitudes.{five_card}
use Rattle.card.proofs.Ranges.{numbers_more, numbers-none, take-stored}
use Rattle.card_frequencies.proofs.longitudes.Fives.{map-nat_abs-pos, five-natural}
use mathlib.Core.List.{map-append, ◌∷◌, []}
use Rattle.card_frequencies.proofs.longitudes.five_card.Goals as goal

pub loop-k-init : goal.loop-k-init
loop-k-init c =
    (omega arith, refl, refl)

pub natural_field-requires : goal.natural_field-requires
natural_field-requires c =
    rw c.five_field.ensures (five-natural c.args.card c.loop-k.k)

pub loop-k-preserved : goal.loop-k-preserved
loop-k-preserved c =
    let h : c.loop-k.k < length c.loop-k.values = omega arith in
    (omega arith, search rules, rw (take-stored c.loop-k.values c.loop-k.k c.in-Ok.value h, map-append pos (take c.loop-k.k c.loop-k.values) (c.in-Ok.value ∷ [])) (rw (numbers_more c.args.line.now (five_field c.args.card) (map pos (take c.loop-k.k c.loop-k.values)) c.loop-k.k 5 c.loop-k-test.true, ← c.five_field.ensures, ← c.natural_field.ensures.result_value, c.in-Ok.is) at c.loop-k.invariant.2))

pub returns-in-Err : goal.returns-in-Err
unfolding five_card
returns-in-Err c =
    let e = rw (numbers_more c.args.line.now (five_field c.args.card) (map pos (take c.loop-k.k c.loop-k.values)) c.loop-k.k 5 c.loop-k-test.true, ← c.five_field.ensures, ← c.natural_field.ensures.result_value, c.in-Err.is) at c.loop-k.invariant.2 in
    rw (← e)

pub returns : goal.returns
unfolding five_card
returns c =
    let n : length c.loop-k.values ≤ c.loop-k.k = omega arith in
    let e = rw (numbers-none c.args.line.now (five_field c.args.card) (map pos (take c.loop-k.k c.loop-k.values)) c.loop-k.k 5 c.loop-k-test.false, take_all c.loop-k.k c.loop-k.values n) at c.loop-k.invariant.2 in
    rw (← e, map-nat_abs-pos c.loop-k.values)
