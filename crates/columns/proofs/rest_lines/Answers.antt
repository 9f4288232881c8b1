-- `columns::rest_lines` meets its contract. The file behind its first line and an LF; empty where the line lacks its LF. Assumes nothing.
use native.Mathlib.Omega.{arith}
use mathlib.Core.Path.{sym}
use Prim.Native.Nat.{◌≤◌, ◌-◌, ◌+◌}
use lib.ListN.{length, drop, length-drop, drop_of_length-le}
use lib.Seq.{take_all}
use Rattle.columns.proofs.rest_lines.Goals as goal

pub returns-then-k-file : goal.returns-then-k-file
returns-then-k-file c =
    let h : length (drop (c.line_length-k.result + 1) c.args.file.now) ≤ length c.args.file.now - (c.line_length-k.result + 1) = omega (arith, length-drop (c.line_length-k.result + 1) c.args.file.now) in
    rw (← c.line_length-k.ensures) (take_all _ (drop (c.line_length-k.result + 1) c.args.file.now) h)

pub returns : goal.returns
returns c =
    let h : length c.args.file.now ≤ c.line_length-k.result + 1 = omega arith in
    rw (← c.line_length-k.ensures) (sym (drop_of_length-le c.args.file.now h))
