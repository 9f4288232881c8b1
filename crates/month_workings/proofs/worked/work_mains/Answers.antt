-- `month_workings::worked::work_mains` meets its contract: a case for each that can be found.
use mathlib.Core.Path.{◌≡◌}
use Rattle.table.specs.declared.definitions.Defined.TheVariants as found
use Rattle.month_workings.proofs.worked.OfRows.{ready-main, ready-shallow, ready-nothing}
use Rattle.month_workings.proofs.worked.work_mains.Goals as goal

pub work_main-requires : goal.work_main-requires
work_main-requires c =
    record {
      cosines = c.requires.cosines;
      given = c.requires.given;
      kept_by = c.requires.kept_by;
    }

pub work_parts-requires : goal.work_parts-requires
work_parts-requires c =
    record {
      cosines = c.requires.cosines;
      given = c.requires.given;
      kept_by = c.requires.kept_by;
    }

pub returns-in-Some-Main : goal.returns-in-Some-Main
returns-in-Some-Main c =
    let e : c.in-Some-Main.field-0 ≡ found.Main c.in-Some-Main.row = rw c.in-Some-Main.is at c.in-Some-Main.field-0-is in
    ready-main _ _ c.args.table.now.shallowcards c.args.found c.args.kept.now _ c.in-Some-Main.row (rw e at c.in-Some-Main.is) c.work_main.ensures

pub returns-in-Some-Shallow : goal.returns-in-Some-Shallow
returns-in-Some-Shallow c =
    let e : c.in-Some-Shallow.field-0 ≡ found.Shallow c.in-Some-Shallow.row = rw c.in-Some-Shallow.is at c.in-Some-Shallow.field-0-is in
    ready-shallow _ _ c.args.table.now.shallowcards c.args.found c.args.kept.now _ c.in-Some-Shallow.row (rw e at c.in-Some-Shallow.is) c.work_parts.ensures

pub returns-in-None : goal.returns-in-None
returns-in-None c =
    ready-nothing _ _ c.args.table.now.shallowcards c.args.found c.args.kept.now _ c.in-None.is c.requires.kept_by
