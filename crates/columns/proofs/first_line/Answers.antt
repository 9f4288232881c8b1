-- `columns::first_line` meets its contract. The part as long as the run of bytes that are not LF is that run: `leading-is`. Assumes nothing.
use mathlib.Core.Path.{sym, ◌∙◌}
use Rattle.columns.specs.Lines.{in_line}
use Rattle.columns.proofs.Bytes.{leading-is}
use Rattle.columns.proofs.first_line.Goals as goal

pub returns : goal.returns
returns c =
    c.part.ensures ∙ rw c.line_length.ensures (sym (leading-is in_line c.args.file.now))
