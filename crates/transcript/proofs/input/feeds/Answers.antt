-- What is counted in the part is what is counted from its first byte on.
use Rattle.std.proofs.Common.{◌∙◌, arith}
use Rattle.transcript.proofs.input.Counting.{feeds-part}
use Rattle.transcript.proofs.input.feeds.Goals as goal

pub returns : goal.returns
returns c =
    c.line_feeds.ensures ∙ feeds-part c.args.buffer.now c.args.from _ (omega arith)
