-- `transcript::reading::read_line` meets its contract: a line that is parsed is taken. Assumes nothing.
use Rattle.std.proofs.Common.{◌+◌, ◌%◌, ◌^◌, ap, ◌∙◌, rules}
use Rattle.transcript.proofs.reading.Taking.{taken_one}
use Rattle.transcript.proofs.reading.read_line.Goals as goal

pub returns : goal.returns
returns g c =
    record { within = search rules; line = taken_one _ _ (c.behind.ensures.line_value ∙ ap (λ line. (line + 1) % 2 ^ 64) c.next_line.ensures.line_value) }
