-- `card::places::main_named` meets its contract: the place of the name first, then the main with that place.
use borrow.Author.Rules.{rules}
use mathlib.Core.Path.{sym, ◌∙◌}
use Prim.Native.Nat.{◌<◌}
use Rattle.card.specs.Places.{main_named}
use Rattle.card.proofs.places.Defined.{place-within}
use Rattle.card.proofs.places.main_named.Goals as goal

pub overflow_cast-place : goal.overflow_cast-place
overflow_cast-place c =
    let h : c.in-Some.place < c.args.frequencies = place-within _ c.args.names.now c.args.frequencies _ (sym c.find_name.ensures ∙ c.in-Some.is) in
    search rules

pub returns-in-Some : goal.returns-in-Some
unfolding main_named
returns-in-Some c =
    rw (← c.part_name.ensures, ← c.name_part.ensures.result_value_2, ← c.find_name.ensures, c.in-Some.is) c.main_at.ensures

pub returns-in-None : goal.returns-in-None
unfolding main_named
returns-in-None c =
    rw (c.not_main.ensures, ← c.part_name.ensures, ← c.name_part.ensures.result_value_2, ← c.find_name.ensures, c.in-None.is)
