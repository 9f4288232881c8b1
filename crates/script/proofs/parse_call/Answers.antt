-- `script::parse_call` meets its contract: the line's words are its first word and those behind it. Assumes nothing.
use mathlib.Core.Path.{sym}
use native.Mathlib.Omega.{arith}
use lib.Seq.{length-take-le}
use Rattle.script.proofs.words.Words.{words_are}
use Rattle.script.proofs.parse_call.Goals as goal

pub slice_bounds-call_at-end : goal.slice_bounds-call_at-end
slice_bounds-call_at-end c =
    sym (length-take-le _ _ c.word_end-end.ensures.upper_bound)

pub returns : goal.returns
returns c =
    rw (words_are c.args.line.now c.word_end-end.result (omega (arith, c.word_end-end.ensures.value))) c.call_at.ensures
