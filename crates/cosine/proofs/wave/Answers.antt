-- `cosine::wave` meets its contract: the two lines are the fixed cosine on both sides of the quadrant (`Quadrants`).
-- Assumes nothing.
use mathlib.Core.Path.{◌∙◌}
use lib.Dec.{lit<}
use Rattle.angles.proofs.Known.{known, kept, says}
use Rattle.cosine.specs.Fixed.{fixed_cosine}
use Rattle.cosine.proofs.Computed.{passed}
use Rattle.cosine.proofs.Quadrants.{cosine-is, sine-is}
use borrow.Author.Rules.{rules}
use Rattle.cosine.proofs.wave.Goals as goal

pub returns : goal.returns
unfolding fixed_cosine
returns c =
    let cosine = says (kept (known (c.in_quadrant.ensures.value ∙ cosine-is passed c.args.ticks c.on_line-near.ensures.result_value c.on_line-far.ensures.result_value) c.in_quadrant.ensures.result_bound) (lit< tt)) in
    let sine = says (kept (known (c.in_quadrant-2.ensures.value ∙ sine-is passed c.args.ticks c.on_line-near.ensures.result_value c.on_line-far.ensures.result_value) c.in_quadrant-2.ensures.result_bound) (lit< tt)) in record {
      cosine_value = cosine.0;
      sine_value = sine.0;
      cosine_bound = (cosine.1, sine.1);
    }
