-- `commandline::row::word` meets its contract: the part is as long as the word. Assumes nothing.
use Prim.Native.Nat.{◌-◌}
use mathlib.Core.Path.{◌≡◌, sym, ◌∙◌}
use native.Mathlib.Omega.{arith}
use lib.ListN.{length, drop}
use Rattle.columns.specs.Bytes.{among}
use Rattle.columns.proofs.Bytes.{leading-is}
use Rattle.commandline.specs.Words.{word_at}
use Rattle.commandline.proofs.row.word.Goals as goal

pub returns : goal.returns
unfolding word_at
returns c =
    let n : c.word_end.result - c.args.at ≡ length (word_at c.args.words.now c.args.at) = omega (arith, c.word_end.ensures) in
    c.part.ensures ∙ rw n (sym (leading-is (among 1 255) (drop c.args.at c.args.words.now)))
