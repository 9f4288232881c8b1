-- `turns::turns` meets its contract: refused where a buffer is short, otherwise all that was found is written (`Front`). Assumes nothing.
use borrow.Author.Rules.{rules}
use Prim.Native.Nat.{ℕ}
use native.Mathlib.Omega.{arith}
use mathlib.Core.Path.{◌≡◌, ap, ◌∙◌}
use mathlib.Core.List.{List}
use Rattle.turns.specs.Search.{turns_of, minutes_of}
use Rattle.turns.specs.Written.{from_front}
use Rattle.turns.specs.inner.Lists.{slopes_in, heights_in}
use Rattle.turns.proofs.Front.{all-kept, kept-front, front-minutes, front-count, few-minutes, few-heights, all-given}
use Rattle.turns.proofs.search.Kept.{minutes-upto}
use Rattle.turns.proofs.turns.Goals as goal
use Rattle.turns.proofs.turns.Goals.{then-many-le-KEPT, else-many-le-KEPT}

pub returns-then-minutes-many : goal.returns-then-minutes-many
returns-then-minutes-many c =
    let height = heights_in c.args.lent in
    let slope = slopes_in c.args.lent in
    let turns = turns_of slope c.args.reach.stride c.args.reach.first c.args.reach.last in
    few-minutes height turns c.args.minutes.now c.args.heights.now (omega (arith, c.find_turns-found.ensures.count))

pub returns-then-heights-many : goal.returns-then-heights-many
returns-then-heights-many c =
    let height = heights_in c.args.lent in
    let slope = slopes_in c.args.lent in
    let turns = turns_of slope c.args.reach.stride c.args.reach.first c.args.reach.last in
    few-heights height turns c.args.minutes.now c.args.heights.now (omega (arith, c.find_turns-found.ensures.count)) (omega (arith, c.find_turns-found.ensures.count))

-- copied or found again, all minutes stand in front
pub put_heights-requires-clause-upto : goal.put_heights-requires-clause-upto
put_heights-requires-clause-upto c =
    let slope = slopes_in c.args.lent in
    let turns = turns_of slope c.args.reach.stride c.args.reach.first c.args.reach.last in
    let written : c.if-many-le-KEPT.minutes ≡ from_front (minutes_of turns) c.args.minutes.now =
    elim c.if-many-le-KEPT.branch [
      | then-many-le-KEPT w ↦ w.minutes-is ∙ (w.put_minutes.ensures ∙ ap (λ (ks : List ℕ). from_front ks c.args.minutes.now) (kept-front c.find_turns-found.ensures (search rules)))
      | else-many-le-KEPT w ↦ w.minutes-is ∙ all-kept w.find_turns.ensures (omega (arith, c.find_turns-found.ensures.count, w.find_turns.ensures.count))
    ] in
    let front = front-minutes turns c.args.minutes.now written c.find_turns-found.ensures.count in
    let count = front-count turns c.args.minutes.now written c.find_turns-found.ensures.count in
    (minutes-upto slope c.args.reach.stride c.requires.reaches.some c.args.reach.last c.args.reach.first c.requires.reaches.within front, omega arith)

pub returns : goal.returns
returns c =
    let height = heights_in c.args.lent in
    let slope = slopes_in c.args.lent in
    let turns = turns_of slope c.args.reach.stride c.args.reach.first c.args.reach.last in
    let written : c.if-many-le-KEPT.minutes ≡ from_front (minutes_of turns) c.args.minutes.now =
    elim c.if-many-le-KEPT.branch [
      | then-many-le-KEPT w ↦ w.minutes-is ∙ (w.put_minutes.ensures ∙ ap (λ (ks : List ℕ). from_front ks c.args.minutes.now) (kept-front c.find_turns-found.ensures (search rules)))
      | else-many-le-KEPT w ↦ w.minutes-is ∙ all-kept w.find_turns.ensures (omega (arith, c.find_turns-found.ensures.count, w.find_turns.ensures.count))
    ] in
    let front = front-minutes turns c.args.minutes.now written c.find_turns-found.ensures.count in
    all-given height turns c.args.minutes.now c.args.heights.now c.find_turns-found.ensures.count c.find_turns-found.ensures.high front written c.put_heights.ensures (omega arith) (omega arith)
