-- `hourly::centimetres::heights_answer` meets its contract: no hour before k is outside. Assumes nothing.
use mathlib.Core.Path.{◌≡◌, sym, ap, ◌∙◌}
use mathlib.Core.Bool.{Bool, false}
use Prim.Native.Nat.{ℕ, ◌<◌, ◌^◌}
use native.Mathlib.Omega.{arith}
use borrow.Author.Count.{below_none, below_more}
use lib.IntN.{ℤ, pos}
use lib.ListN.{length, get_or}
use lib.Signed.{mag}
use Rattle.angles.proofs.Machine.{held}
use Rattle.refusals.proofs.Laws.{not-both}
use Rattle.hourly.specs.Card.{value}
use Rattle.hourly.specs.Month.{centimetres, outside}
use Rattle.hourly.proofs.centimetres.Nearest.{read_back}
use Rattle.hourly.proofs.centimetres.Asked.{all-accepted, first-refused}
use Rattle.hourly.proofs.centimetres.heights_answer.Goals as goal

-- what the two calls say of the hour
told : (h r : ℤ) (out : Bool) → mag h < 2 ^ 63 → r ≡ centimetres (held h) → mag r < 2 ^ 63 → out ≡ outside (value (held r)) → out ≡ outside (value (centimetres h))
told h r out f e g o =
    let cm : r ≡ centimetres h = e ∙ ap centimetres (read_back h f) in
    o ∙ ap (λ (z : ℤ). outside (value z)) (read_back r g ∙ cm)

pub loop-k-init : goal.loop-k-init
loop-k-init c =
    below_none _

pub returns-then-outside : goal.returns-then-outside
returns-then-outside c =
    rw c.at.ensures (record {
      asked = λ station year month n e. sym (first-refused c.args.hours.now station year month c.loop-k.k c.loop-k.invariant (sym (told (get_or c.args.hours.now c.loop-k.k (pos 0)) c.centimetres.result c.outside.result (omega arith) c.centimetres.ensures c.centimetres.type_inv c.outside.ensures) ∙ c.if-outside.true) 0 n (omega arith) (omega arith) (omega arith));
      inside = λ e. not-both e;
    })

pub loop-k-preserved : goal.loop-k-preserved
loop-k-preserved c =
    below_more _ _ c.loop-k.invariant (sym (told (get_or c.args.hours.now c.loop-k.k (pos 0)) c.centimetres.result c.outside.result (omega arith) c.centimetres.ensures c.centimetres.type_inv c.outside.ensures) ∙ c.if-outside.false)

pub returns : goal.returns
returns c =
    let inside : (k : ℕ) → k < length c.args.hours.now → outside (value (centimetres (get_or c.args.hours.now k (pos 0)))) ≡ false = λ k h. c.loop-k.invariant k (omega (arith, c.loop-k-test.false)) in
    record { asked = λ station year month n e. sym (all-accepted c.args.hours.now station year month inside 0 n 1 (omega arith)); inside = λ e. inside }
