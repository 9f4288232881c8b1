-- `messages::textlines::line_of` meets its contract: with no line left to pass, the line is the first. Assumes nothing.
use Rattle.std.proofs.Common.{◌≡◌, ◌-◌, arith, sym, ◌∙◌}
use Rattle.messages.proofs.textlines.Lines.{line_first}
use Rattle.messages.proofs.textlines.line_of.Goals as goal

pub returns : goal.returns
returns c =
    let none : c.args.n - c.loop-passed._passed ≡ 0 = omega arith in
    c.first_line.ensures ∙ (sym (line_first c.loop-passed.rest.now) ∙ rw none at c.loop-passed.invariant)
