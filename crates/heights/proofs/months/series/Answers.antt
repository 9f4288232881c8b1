-- `heights::months::series` meets its contract: the heights written so far are the series' own, place by place.
use borrow.Author.Rules.{rules}
use native.Mathlib.Omega.{arith}
use mathlib.Core.Path.{ap, ◌∙◌}
use mathlib.Core.List.{List}
use Prim.Native.Nat.{◌+◌, ◌-◌}
use lib.ListN.{length}
use borrow.Rule.Slice.PartMut.{mid_of}
use Rattle.month_prepared.specs.Prepared.{Constituent}
use Rattle.month_prepared.proofs.Owners.{last-most}
use Rattle.heights.specs.Height.{height_at}
use Rattle.heights.specs.Series.{series_of}
use Rattle.heights.proofs.months.Joined.{minute-within, joining-none, joining-all}
use Rattle.heights.proofs.months.Rows.{is-own, month-joined}
use Rattle.heights.proofs.months.series.Goals as goal

pub loop-n-init : goal.loop-n-init
loop-n-init c =
    joining-none _ _ _ _

pub overflow_mul-n : goal.overflow_mul-n
overflow_mul-n c =
    omega (arith, minute-within c.requires.series_within c.loop-n.n (omega arith), last-most c.args.lent.months c.requires.lent.following)

pub overflow_add-start : goal.overflow_add-start
overflow_add-start c =
    omega (arith, minute-within c.requires.series_within c.loop-n.n (omega arith), last-most c.args.lent.months c.requires.lent.following)

pub owner-own-requires : goal.owner-own-requires
owner-own-requires c =
    (c.requires.lent.following, minute-within c.requires.series_within c.loop-n.n (omega arith))

pub places_in-requires : goal.places_in-requires
places_in-requires c =
    (c.requires.lent.following, (is-own c.owner-own.ensures, c.requires.series_within.some))

pub loop-n-smaller : goal.loop-n-smaller
loop-n-smaller c =
    omega (arith, c.places_in.ensures.some (omega arith))

pub loop-n-preserved : goal.loop-n-preserved
loop-n-preserved c =
    let l = c.args.lent in
    let n = c.loop-n.n in
    let here = c.series.ensures ∙ ap (λ (cs : List Constituent). series_of (height_at cs) c.owner-own.result.minute c.args.step (length (mid_of n (n + c.places_in.result - n) c.loop-n.out))) c.month.ensures.is in
    month-joined l.arguments.now l.lags.now l.frequencies.now l.ps.now l.qs.now l.months c.args.start c.args.step c.loop-n.n _ c.places_in.result c.owner-own.result c.owner-own.ensures c.places_in.ensures (omega arith) c.loop-n.invariant _ here (search rules)

pub returns : goal.returns
returns c =
    joining-all _ _ _ c.loop-n.invariant (omega arith)
