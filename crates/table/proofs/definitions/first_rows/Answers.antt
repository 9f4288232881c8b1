-- `table::definitions::first_rows` meets its contract. The invariant: what is kept is of the rows from this one on (`FirstRows`).
use mathlib.Core.Path.{◌≡◌, refl, subst, ◌∙◌}
use Prim.Native.Nat.{ℕ, ◌+◌, ◌-◌, ◌≤◌, ◌<◌}
use native.Mathlib.Omega.{arith}
use lib.ListN.{length-set}
use Rattle.table.specs.inner.Found.{place_in}
use Rattle.table.proofs.definitions.FirstRows.{From, from-none, row-set, row-past}
use Rattle.table.proofs.definitions.first_rows.Goals as goal

pub loop-row-init : goal.loop-row-init
loop-row-init c =
    (refl, from-none (place_in c.args.width c.args.cards.now) c.args.rows)

pub loop-row-preserved-then-place-lt-PLACES : goal.loop-row-preserved-then-place-lt-PLACES
loop-row-preserved-then-place-lt-PLACES c =
    let f = place_in c.args.width c.args.cards.now in
    let more : c.loop-row.row - 1 < c.args.rows = omega arith in
    let e : c.loop-row.row ≡ c.loop-row.row - 1 + 1 = omega arith in
    rw c.entry_at.ensures (
      length-set c.loop-row.first (f (c.loop-row.row - 1)) (c.loop-row.row - 1) ∙ c.loop-row.invariant.0,
      row-set f c.args.rows c.loop-row.first (c.loop-row.row - 1) more (subst (λ (r : ℕ). From f c.args.rows r c.loop-row.first) e c.loop-row.invariant.1) c.loop-row.invariant.0 (subst (λ (p : ℕ). p < 256) c.entry_at.ensures c.if-place-lt-PLACES.true),
    )

pub loop-row-preserved : goal.loop-row-preserved
loop-row-preserved c =
    let f = place_in c.args.width c.args.cards.now in
    let more : c.loop-row.row - 1 < c.args.rows = omega arith in
    let e : c.loop-row.row ≡ c.loop-row.row - 1 + 1 = omega arith in (
      c.loop-row.invariant.0,
      row-past f c.args.rows c.loop-row.first (c.loop-row.row - 1) more (subst (λ (r : ℕ). From f c.args.rows r c.loop-row.first) e c.loop-row.invariant.1) (subst (λ (p : ℕ). 256 ≤ p) c.entry_at.ensures c.if-place-lt-PLACES.false),
    )
