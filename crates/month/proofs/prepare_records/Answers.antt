-- `month::prepare_records` meets its contract. The invariant: what is done before what is left gives the whole, and what is kept of the mains
-- is theirs. Each arm of the `let .. else` cites what was worked out at the record (`Structs`).
use mathlib.Core.Path.{◌≡◌, sym, ap, subst, ◌∙◌}
use Prim.Native.Nat.{ℕ, ◌≤◌, ◌^◌, ◌<◌, min}
use native.Mathlib.Omega.{arith}
use lib.IntN.{ℤ, nat_abs}
use lib.ListN.{length, get_or}
use mir.Syntax.{w32, w64}
use mir.Val.{SFits, to_z, of_z}
use mir.ValLaws.{to_z-of_z}
use Rattle.limits.specs.Limits.{most_records}
use Rattle.table.proofs.definitions.OfRows.{by-first-rows}
use Rattle.angles.proofs.Machine.{held, fits_below}
use Rattle.month_satellites.specs.inner.Ranges.{Sized}
use Rattle.month_pairs.specs.inner.Ranges.{Small}
use Rattle.month_prepared.specs.inner.View.{constituents_after}
use Rattle.month_workings.specs.inner.Given.{KeptBy}
use Rattle.refusals.specs.Outcome as outcome
use Rattle.month.specs.Month.{weight}
use Rattle.month.specs.inner.View.{held_upto}
use Rattle.month.proofs.Put.{room-kept, stands-last}
use Rattle.month.proofs.Structs.{starts, ends, none_yet, refused, accepted}
use borrow.Author.Rules.{rules}
use Rattle.month.proofs.prepare_records.Goals as goal

-- a number of a pair that refusal 11 leaves, in its register
in-register : (x : ℤ) → nat_abs x ≤ 2 ^ 22 → held x ≡ x
in-register x h = to_z-of_z w64 x (fits_below x (omega (arith, h)))

-- a weight, in its place
weighed : (amplitude : ℕ) (x r : ℤ) → SFits w32 r → nat_abs x ≤ 2 ^ 22 → r ≡ weight amplitude (held x) → to_z w32 (of_z w32 r) ≡ weight amplitude x
weighed amplitude x r f h e = to_z-of_z w32 r f ∙ e ∙ ap (weight amplitude) (in-register x h)

pub loop-k-init : goal.loop-k-init
unfolding constituents_after
loop-k-init c =
    let r₁ : length c.no_constituents-month.result.arguments ≡ most_records = search rules in
    let r₂ : length c.no_constituents-month.result.lags ≡ most_records = search rules in
    let r₃ : length c.no_constituents-month.result.frequencies ≡ most_records = search rules in
    let r₄ : length c.no_constituents-month.result.ps ≡ most_records = search rules in
    let r₅ : length c.no_constituents-month.result.qs ≡ most_records = search rules in
    let angles : length c.args.table.mainangles ≡ 448 = search rules in
    let cards : length c.args.table.maincards ≡ 192 = search rules in record {
      whole = starts c.args.table c.args.station c.args.given c.held-n.result c.held-n.ensures;
      room = record { arguments = r₁; lags = r₂; frequencies = r₃; ps = r₄; qs = r₅ };
      kept = subst (KeptBy c.args.given c.args.table) (sym c.none_kept-kept.ensures) (none_yet c.args.table c.args.station c.args.given angles cards);
    }

pub work_mains-requires : goal.work_mains-requires
work_mains-requires c =
    record {
      cosines = c.requires.table;
      given = c.requires.given;
      kept_by = c.loop-k.invariant.kept;
    }

pub returns-in_default : goal.returns-in_default
returns-in_default c =
    let at = c.find-found.ensures.value ∙ by-first-rows c.args.table.maincards c.args.table.mains c.args.table.shallowcards c.args.table.shallows (get_or c.args.station.places c.loop-k.k 0) c.first_rows-mains.ensures c.first_rows-shallows.ensures c.find-found.ensures.place_lt_places_in_abyte in
    refused c.args.table c.args.station c.args.given c.requires.mains_value c.loop-k.k c.find-found.result _ c.from_mains-w.result at c.work_mains.ensures c.from_mains-w.ensures
    (held_upto c.loop-k.month c.loop-k.k) c.held-n.result c.loop-k.invariant.whole c.loop-k-test.true c.in_default.is

pub weight_of-p-requires : goal.weight_of-p-requires
weight_of-p-requires c =
    let small : Sized (2 ^ 22) c.in-Some.xy = subst Small c.in-Some.is c.from_mains-w.ensures.small in
    rw (in-register c.in-Some.xy.x small.x) small.x

pub weight_of-q-requires : goal.weight_of-q-requires
weight_of-q-requires c =
    let small : Sized (2 ^ 22) c.in-Some.xy = subst Small c.in-Some.is c.from_mains-w.ensures.small in
    rw (in-register c.in-Some.xy.y small.y) small.y

pub loop-k-preserved : goal.loop-k-preserved
loop-k-preserved c =
    let at = c.find-found.ensures.value ∙ by-first-rows c.args.table.maincards c.args.table.mains c.args.table.shallowcards c.args.table.shallows (get_or c.args.station.places c.loop-k.k 0) c.first_rows-mains.ensures c.first_rows-shallows.ensures c.find-found.ensures.place_lt_places_in_abyte in
    let small : Sized (2 ^ 22) c.in-Some.xy = subst Small c.in-Some.is c.from_mains-w.ensures.small in
    let amplitude = get_or c.args.station.amplitudes c.loop-k.k 0 in
    let fp : SFits w32 c.weight_of-p.result = search rules in
    let fq : SFits w32 c.weight_of-q.result = search rules in
    let p : to_z w32 (of_z w32 c.weight_of-p.result) ≡ weight amplitude c.in-Some.xy.x = weighed amplitude c.in-Some.xy.x c.weight_of-p.result fp small.x c.weight_of-p.ensures in
    let q : to_z w32 (of_z w32 c.weight_of-q.result) ≡ weight amplitude c.in-Some.xy.y = weighed amplitude c.in-Some.xy.y c.weight_of-q.result fq small.y c.weight_of-q.ensures in
    let k : c.loop-k.k < most_records = omega (arith, c.loop-k-test.true, c.held-n.ensures) in
    rw (p, q)
    (record {
      whole = accepted c.args.table c.args.station c.args.given c.requires.mains_value c.loop-k.k c.find-found.result _ c.from_mains-w.result at c.work_mains.ensures c.from_mains-w.ensures
          (held_upto c.loop-k.month c.loop-k.k) c.held-n.result c.loop-k.invariant.whole c.loop-k-test.true c.in-Some.xy c.in-Some.is c.frequency_at.result _ c.frequency_at.ensures
          (stands-last c.loop-k.month c.loop-k.k c.from_mains-w.result.argument (get_or c.args.station.lags c.loop-k.k 0) c.frequency_at.result (weight amplitude c.in-Some.xy.x) (weight amplitude c.in-Some.xy.y) c.loop-k.invariant.room k);
      room = room-kept c.loop-k.month c.loop-k.k c.from_mains-w.result.argument (get_or c.args.station.lags c.loop-k.k 0) c.frequency_at.result (weight amplitude c.in-Some.xy.x) (weight amplitude c.in-Some.xy.y) c.loop-k.invariant.room;
      kept = c.work_mains.ensures.kept;
    })

pub returns : goal.returns
returns c =
    let m : min c.held-n.result most_records ≡ c.held-n.result = omega (arith, c.held-n.ensures) in
    let e : c.loop-k.k ≡ c.held-n.result = omega (arith, c.loop-k-test.false, c.loop-k.auto.k-end) in
    rw m (ap (λ (i : ℕ). outcome.accepted (held_upto c.loop-k.month i)) (sym e) ∙ ends c.args.table c.args.station c.args.given (held_upto c.loop-k.month c.loop-k.k) c.held-n.result c.loop-k.k c.loop-k-test.false c.loop-k.invariant.whole)
