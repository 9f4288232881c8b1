use mathlib.Core.Path.{◌≡◌}
use lib.ListN.{take}
use Rattle.digits.specs.Texts.{trimmed}
use Rattle.digits.proofs.texts.trimmed_length.Given as goal

abbrev pub invariant-loop-n : goal.invariant-loop-n
invariant-loop-n l = trimmed (take l.n l.text) ≡ trimmed l.text
