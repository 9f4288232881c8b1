-- `card::places::place_named` meets its contract: the returned part, padded, is the name, and a place found is below the count, so it fits.
use borrow.Author.Rules.{rules}
use mathlib.Core.Path.{sym, ◌∙◌}
use Prim.Native.Nat.{◌<◌}
use Rattle.card.specs.Card.{place_named}
use Rattle.card.proofs.places.Defined.{place-within}
use Rattle.card.proofs.places.place_named.Goals as goal

pub returns-then-name_blank : goal.returns-then-name_blank
unfolding place_named
returns-then-name_blank c =
    rw (c.only.ensures, ← c.name_part-name.ensures.result_value_2, ← c.name_blank.ensures, c.if-name_blank.true)

pub overflow_cast-result : goal.overflow_cast-result
overflow_cast-result c =
    let h : c.in-Some.place < c.args.count = place-within _ c.args.names.now c.args.count _ (sym c.find_name.ensures ∙ c.in-Some.is) in
    search rules

pub returns-in-Some : goal.returns-in-Some
unfolding place_named
returns-in-Some c =
    rw (← c.name_part-name.ensures.result_value_2, ← c.name_blank.ensures, c.if-name_blank.false, ← c.find_name.ensures, c.in-Some.is)

pub returns-in-None : goal.returns-in-None
unfolding place_named
returns-in-None c =
    rw (c.only-in-None.ensures, ← c.name_part-name.ensures.result_value_2, ← c.name_blank.ensures, c.if-name_blank.false, ← c.find_name.ensures, c.in-None.is)
