-- `card::natural_field` meets its contract: a number in its range is not below 0, so the cast keeps it.
use borrow.Author.Rules.{rules}
use mir.Syntax.{w64}
use mir.Val.{SFits}
use mir.ValLaws.{to_z-of_z}
use mir.Facts.{Fits-nat_abs}
use lib.Signed.{pos-nat_abs}
use Rattle.fields.proofs.Ranges.{natural-is}
use Rattle.card.proofs.Ranges.{number-in}
use Rattle.card.proofs.natural_field.Goals as goal

pub overflow_cast-result : goal.overflow_cast-result
overflow_cast-result c =
    let f : SFits w64 c.in-Ok.value = search rules in
    let e = number-in c.args.line.now c.args.f c.in-Ok.value c.in-Ok.ensures in
    rw (to_z-of_z w64 c.in-Ok.value f) ((natural-is _ _ c.in-Ok.value _ c.requires e).0, Fits-nat_abs tt f)

pub returns-in-Ok : goal.returns-in-Ok
returns-in-Ok c =
    let f : SFits w64 c.in-Ok.value = search rules in
    let n = natural-is _ _ c.in-Ok.value _ c.requires (number-in c.args.line.now c.args.f c.in-Ok.value c.in-Ok.ensures) in record {
      result_value = rw (to_z-of_z w64 c.in-Ok.value f, pos-nat_abs c.in-Ok.value n.0) c.in-Ok.ensures;
      natural_within = rw (to_z-of_z w64 c.in-Ok.value f) n.1;
    }

pub returns-in-Err : goal.returns-in-Err
returns-in-Err c = record { result_value = c.in-Err.ensures; natural_within = tt }
