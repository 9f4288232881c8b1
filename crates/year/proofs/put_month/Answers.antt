-- `year::put_month` meets its contract: the rows are pasted number by number.
use borrow.Author.Rules.{rules}
use mathlib.Core.Path.{◌≡◌, refl}
use Prim.Native.Nat.{◌*◌}
use native.Mathlib.Omega.{arith}
use lib.IntN.{pos}
use lib.ListN.{get_or}
use lib.Seq.{paste-zero}
use mir.Syntax.{w32}
use mir.Val.{SFits}
use mir.ValLaws.{to_z-of_z}
use Rattle.limits.specs.Limits.{most_records}
use Rattle.year.proofs.Put.{put-more}
use Rattle.year.proofs.put_month.Goals as goal

pub loop-k-init : goal.loop-k-init
loop-k-init c =
    let m = c.args.month.now in
    let at = c.args.m * most_records in
    record { frequencies = refl; arguments = paste-zero c.args.rows.now.arguments at m.arguments; cosines = paste-zero c.args.rows.now.ps at m.ps; sines = paste-zero c.args.rows.now.qs at m.qs }

pub loop-k-preserved : goal.loop-k-preserved
loop-k-preserved c =
    let m = c.args.month.now in
    let k = c.loop-k.k in
    let p : SFits w32 (get_or m.ps k (pos 0)) = search rules in
    let q : SFits w32 (get_or m.qs k (pos 0)) = search rules in
    record {
      frequencies = c.loop-k.invariant.frequencies;
      arguments = rw c.loop-k.invariant.arguments (put-more m.arguments c.args.m c.args.rows.now.arguments c.requires.0 k 0 c.loop-k-test.true);
      cosines = rw (c.loop-k.invariant.cosines, to_z-of_z w32 (get_or m.ps k (pos 0)) p) (put-more m.ps c.args.m c.args.rows.now.ps c.requires.1 k (pos 0) c.loop-k-test.true);
      sines = rw (c.loop-k.invariant.sines, to_z-of_z w32 (get_or m.qs k (pos 0)) q) (put-more m.qs c.args.m c.args.rows.now.qs c.requires.2 k (pos 0) c.loop-k-test.true);
    }

pub returns : goal.returns
returns c =
    let all : c.loop-k.k ≡ most_records = omega arith in
    let i = c.loop-k.invariant in
    record { frequencies = i.frequencies; arguments = rw all at i.arguments; cosines = rw all at i.cosines; sines = rw all at i.sines }
