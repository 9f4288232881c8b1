-- `turns::put_minutes` meets its contract: what is written and what is left to write give the whole (`Front`). Assumes nothing.
use Prim.Native.Nat.{ℕ}
use mathlib.Core.Path.{refl, sym, ◌∙◌}
use mathlib.Core.List.{map-id}
use Rattle.turns.proofs.Front.{store-more, store-none, stored}
use Rattle.turns.proofs.put_minutes.Goals as goal

pub loop-i-init : goal.loop-i-init
loop-i-init c = refl

pub loop-i-preserved : goal.loop-i-preserved
loop-i-preserved c =
    store-more (λ (m : ℕ). m) c.args.kept.now c.loop-i.minutes c.loop-i.i c.loop-i-test.true ∙ c.loop-i.invariant

pub returns : goal.returns
returns c =
    sym (store-none (λ (m : ℕ). m) c.args.kept.now c.loop-i.minutes c.loop-i.i c.loop-i-test.false)
    ∙ (c.loop-i.invariant ∙ (stored (λ (m : ℕ). m) c.args.kept.now c.args.minutes.now c.requires ∙ simp map-id))
