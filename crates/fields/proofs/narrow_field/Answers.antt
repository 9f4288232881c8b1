-- `fields::narrow_field` meets its contract: the range from 0 to a number of 32 bits is one of 64 bits, so the capped size has the field's answer. Assumes nothing.
use native.Mathlib.Omega.{arith}
use mathlib.Core.Path.{◌∙◌}
use Prim.Native.Nat.{ℕ, ◌<◌, ◌^◌}
use lib.IntN.{pos}
use mir.Syntax.{w64}
use mir.Val.{SFits}
use Rattle.columns.specs.Columns.{columns}
use Rattle.fields.specs.Number.{ranged}
use Rattle.fields.proofs.Ranges.{written-gives}
use Rattle.fields.proofs.narrow_field.Goals as goal

fits : (n : ℕ) → n < 2 ^ 32 → SFits w64 (pos n)
fits n h = record { sfits = omega arith }

pub returns-in-Some : goal.returns-in-Some
returns-in-Some c =
    let e = written-gives (pos 0) (pos c.args.high) (fits 0 (omega arith)) (fits c.args.high (omega arith)) c.args.format (columns c.args.line.now c.args.from c.args.width) c.written_in-written.result c.written_in-written.ensures in record {
      result_value = c.narrowed.ensures.result_value ∙ (rw c.in-Some.is at e);
      narrow_within = c.narrowed.ensures.narrow_within;
    }

pub returns-in-None : goal.returns-in-None
unfolding ranged
returns-in-None c =
    let e = written-gives (pos 0) (pos c.args.high) (fits 0 (omega arith)) (fits c.args.high (omega arith)) c.args.format (columns c.args.line.now c.args.from c.args.width) c.written_in-written.result c.written_in-written.ensures in record {
      result_value = rw c.in-None.is at e;
      narrow_within = tt;
    }
