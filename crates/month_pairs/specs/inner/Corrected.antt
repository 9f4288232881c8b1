-- Only inner contracts cite this: what the code's answer stands for.
use Rattle.std.specs.Prelude.{Option, None, Some}
use Rattle.refusals.specs.Checked.{good, bad}
use Rattle.refusals.specs.Outcome.{number_of}
use Rattle.refusals.specs.declared.Refusal.TheVariants as refusal
use Rattle.month_satellites.specs.inner.View.{pair_of}
use Rattle.month_pairs.specs.Pairs.{Corrected}
use Rattle.month_satellites.specs.declared.satellites.Pair as pair

abbrev pub corrected_of : Option pair.Pair → Corrected
corrected_of None = bad (number_of refusal.TooLarge)
corrected_of (Some p) = good (pair_of p)
