-- `month_arguments::astronomy::longitude_on` meets its contract: card one counts modulo a cycle, days times card two modulo T / 216.
use mathlib.Core.Path.{ap, ◌∙◌, ◌≡◌}
use Prim.Native.Nat.{ℕ, ◌+◌, ◌*◌, ◌%◌, ◌<◌}
use native.Mathlib.Nat.{le_refl}
use native.Mathlib.Omega.{arith}
use lib.Dec.{lit<}
use lib.IntN.{ℤ, nat_abs, pos, ◌+ℤ◌, ◌*ℤ◌}
use lib.ListN.{get_or}
use mir.Syntax.{w64}
use mir.Val.{to_z, of_z}
use Rattle.angles.specs.Ticks.{turn, ten_billionth}
use Rattle.angles.specs.Floor.{mod_turn}
use Rattle.angles.proofs.Known.{Known, plainly, read, cast, fits, kept, plus, times}
use Rattle.month_arguments.proofs.astronomy.Reduced.{cycle, span, longitude-reduced}
use mir.ValLaws.{to_z-of_z}
use lib.Signed.{rem_z}
use Rattle.month_arguments.proofs.astronomy.longitude_on.Goals as goal

-- 216 times the drift, and the sum with the start
module _ (r : ℤ) (short : nat_abs r < span) (card : ℕ) where
  product : Known (pos 216 *ℤ to_z w64 (of_z w64 r)) (pos 216 *ℤ r) (216 * span)
  product = times (plainly (pos 216) (le_refl 216)) (read r {A = span} (omega arith) (lit< tt))

  sum : Known (to_z w64 (ten_billionth * (card % cycle)) +ℤ to_z w64 (of_z w64 (pos 216 *ℤ to_z w64 (of_z w64 r)))) (pos (ten_billionth * (card % cycle)) +ℤ pos 216 *ℤ r) (turn + 216 * span)
  sum = plus (cast (ten_billionth * (card % cycle)) {A = turn} (omega arith) (lit< tt)) (kept product (lit< tt))

pub overflow_mul-drift : goal.overflow_mul-drift
overflow_mul-drift c =
    fits (product c.drift.result c.drift.ensures.result_bound 0) (lit< tt)

pub overflow_add-start : goal.overflow_add-start
overflow_add-start c =
    fits (sum c.drift.result c.drift.ensures.result_bound (get_or c.args.cards.now c.args.k 0)) (lit< tt)

pub returns : goal.returns
returns c =
    let d : c.drift.result ≡ rem_z (c.args.days *ℤ pos (get_or c.args.increases.now c.args.k 0 % span)) (pos span) = rw (to_z-of_z w64 c.args.days c.ranges.days) at c.drift.ensures.value in
    c.mod_turn.ensures.value
    ∙ ap mod_turn (kept (sum c.drift.result c.drift.ensures.result_bound (get_or c.args.cards.now c.args.k 0)) (lit< tt)).is
    ∙ ap (λ (z : ℤ). mod_turn (pos (ten_billionth * (get_or c.args.cards.now c.args.k 0 % cycle)) +ℤ pos 216 *ℤ z)) d
    ∙ longitude-reduced c.args.days (get_or c.args.cards.now c.args.k 0) (get_or c.args.increases.now c.args.k 0)
