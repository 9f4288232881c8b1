-- `digits::texts::trimmed_length` meets its contract: without the blanks passed, the text is the same but for its last blanks. Assumes nothing.
use mathlib.Core.Path.{◌≡◌, sym, ◌∙◌}
use Prim.Native.Nat.{◌+◌, ◌-◌}
use native.Mathlib.Omega.{arith}
use Rattle.digits.specs.Texts.{trimmed}
use Rattle.digits.proofs.texts.Texts.{take-blank, take-other}
use Rattle.digits.proofs.texts.trimmed_length.Goals as goal

pub returns-then-text-n-ne32 : goal.returns-then-text-n-ne32
returns-then-text-n-ne32 c =
    let e : c.loop-n.n - 1 + 1 ≡ c.loop-n.n = omega arith in
    rw e (take-other c.args.text.now c.loop-n.n (omega arith) (omega arith) c.if-text-n-ne32.true ∙ c.loop-n.invariant)

pub loop-n-preserved : goal.loop-n-preserved
loop-n-preserved c =
    sym (take-blank c.args.text.now c.loop-n.n (omega arith) (omega arith) c.if-text-n-ne32.false) ∙ c.loop-n.invariant

pub returns : goal.returns
unfolding trimmed
returns c =
    let none : c.loop-n.n ≡ 0 = omega arith in
    rw none at c.loop-n.invariant
