-- `calendar::day_count` meets its contract: the difference of two day numbers is the count's closed form (Days), and fits 64 bits.
use mathlib.Core.Path.{◌∙◌}
use mir.Syntax.{w64}
use mir.ValLaws.{to_z-of_z}
use Rattle.calendar.proofs.Differences.{difference-fits}
use Rattle.calendar.proofs.Days.{count-signed}
use Rattle.calendar.proofs.day_count.Goals as goal

pub overflow_sub-result : goal.overflow_sub-result
overflow_sub-result c =
    difference-fits c.day_number.result c.day_number-2.result c.day_number.ensures.small c.day_number-2.ensures.small

pub returns : goal.returns
returns c =
    to_z-of_z w64 _ (overflow_sub-result c) ∙
    count-signed c.args.year c.args.month c.args.day c.day_number.result c.day_number-2.result c.day_number.ensures.is c.day_number-2.ensures.is c.day_number.ensures.small c.day_number-2.ensures.small
