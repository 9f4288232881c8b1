-- `script::strides_at` meets its contract, by what `numbers_at` says; the latitude is read back from its 32 bits. Assumes nothing.
use mir.Syntax.{w32}
use mir.ValLaws.{to_z-of_z}
use Rattle.script.proofs.Numbers.{strides-is}
use Rattle.script.proofs.strides_at.Goals as goal

pub returns-in_err-semidiurnal : goal.returns-in_err-semidiurnal
returns-in_err-semidiurnal c =
    rw c.from_residual.ensures (rw c.in_err-semidiurnal.was at (strides-is c.args.latitude c.args.count _ _ c.numbers_at.ensures))

pub returns : goal.returns
returns c =
    rw (to_z-of_z w32 _ c.ranges.latitude) (rw c.in_ok-semidiurnal.was at (strides-is c.args.latitude c.args.count _ _ c.numbers_at.ensures))
