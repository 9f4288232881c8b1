-- `hourly::writing::put_heights` meets its contract: before height k the heights from k on are left. Assumes nothing.
use mathlib.Core.Path.{◌≡◌, sym, ap, ◌∙◌}
use mathlib.Core.List.{List}
use Prim.Native.Nat.{ℕ, ◌+◌, ◌-◌, ◌*◌, ◌≤◌, ◌<◌, ◌^◌}
use lib.Signed.{mag}
use native.Mathlib.Nat.{add-zero, zero-mul}
use native.Mathlib.Omega.{arith}
use lib.IntN.{ℤ, pos}
use lib.ListN.{length, get_or, take, drop, length-drop}
use lib.Seq.{sets, length-take-le, get_or-take, get_or-drop}
use Rattle.angles.proofs.Machine.{held}
use Rattle.hourly.specs.Card.{value}
use Rattle.hourly.specs.Month.{centimetres}
use Rattle.hourly.specs.Writing.{entry_written}
use Rattle.hourly.specs.inner.Fields.{heights_written}
use Rattle.hourly.proofs.centimetres.Nearest.{read_back}
use Rattle.hourly.proofs.writing.Cards.{one_more, room-for-one, heights-next, heights-end}
use Rattle.hourly.proofs.writing.Stores.{left-all, left-none}
use Rattle.hourly.proofs.writing.put_heights.Goals as goal

-- the hour's centimetres, as the call gives them
told : (h r : ℤ) → mag h < 2 ^ 63 → mag r < 2 ^ 63 → r ≡ centimetres (held h) → held r ≡ centimetres h
told h r f g e = read_back r g ∙ (e ∙ ap centimetres (read_back h f))

-- the next height has its place
room : (at width next k : ℕ) (before out : List ℕ) → next ≡ at + k * width → length out ≡ length before → k < 12 → at + 12 * width ≤ length before → next + width ≤ length out
room at width next k before out e l h there = omega (arith, e, l, room-for-one k 12 width h, there)

-- the slice of a card's hours
module _ (hours : List ℤ) (first : ℕ) (there : first + 12 ≤ length hours) where
  abbrev slice : List ℤ
  slice = take (first + 12 - first) (drop first hours)

  slice-length : length slice ≡ 12
  slice-length = let e : first + 12 - first ≡ 12 = omega arith in rw e (length-take-le 12 (drop first hours) (omega (arith, length-drop first hours)))

  hour-at : (k : ℕ) → k < length slice → get_or slice k (pos 0) ≡ get_or hours (first + k) (pos 0)
  hour-at k h =
      let e : first + 12 - first ≡ 12 = omega arith in
      let below : k < 12 = omega (arith, slice-length) in
      rw e (get_or-take 12 (drop first hours) k (pos 0) below ∙ get_or-drop first hours k (pos 0))

pub loop-hour-init : goal.loop-hour-init
loop-hour-init c =
    record {
      place = rw (zero-mul c.args.width) (sym (add-zero c.args.at));
      stored = left-all c.args.out.now c.args.at (heights_written c.args.width c.args.hours.now c.args.first);
    }

pub put_number-requires : goal.put_number-requires
put_number-requires c =
    let twelve = slice-length c.args.hours.now c.args.first c.requires.1.0 in
    let below : c.loop-hour.hour-index < 12 = omega (arith, twelve, c.loop-hour-test.true) in
    let is = told (get_or (slice c.args.hours.now c.args.first c.requires.1.0) c.loop-hour.hour-index (pos 0)) c.centimetres.result (omega arith) c.centimetres.type_inv c.centimetres.ensures in (
      room c.args.at c.args.width c.loop-hour.next c.loop-hour.hour-index c.args.out.now c.loop-hour.out c.loop-hour.invariant.place c.loop-hour.invariant.stored.same_length below c.requires.0,
      (rw (is, hour-at c.args.hours.now c.args.first c.requires.1.0 c.loop-hour.hour-index c.loop-hour-test.true) (c.requires.1.1 (c.args.first + c.loop-hour.hour-index) (omega (arith, c.requires.1.0, below)))),
    )

pub overflow_add-next : goal.overflow_add-next
overflow_add-next c =
    let below : c.loop-hour.hour-index < 12 = omega (arith, slice-length c.args.hours.now c.args.first c.requires.1.0, c.loop-hour-test.true) in
    record { fits = omega (arith, room c.args.at c.args.width c.loop-hour.next c.loop-hour.hour-index c.args.out.now c.loop-hour.out c.loop-hour.invariant.place c.loop-hour.invariant.stored.same_length below c.requires.0, c.loop-hour.invariant.stored.same_length, c.well_formed) }

pub loop-hour-preserved : goal.loop-hour-preserved
loop-hour-preserved c =
    let twelve = slice-length c.args.hours.now c.args.first c.requires.1.0 in
    let below : c.loop-hour.hour-index < 12 = omega (arith, twelve, c.loop-hour-test.true) in
    let is = told (get_or (slice c.args.hours.now c.args.first c.requires.1.0) c.loop-hour.hour-index (pos 0)) c.centimetres.result (omega arith) c.centimetres.type_inv c.centimetres.ensures in
    record {
      place = omega (arith, c.loop-hour.invariant.place, one_more c.loop-hour.hour-index c.args.width);
      stored = heights-next c.args.width c.args.hours.now c.args.first c.requires.1.0 c.requires.1.1 c.loop-hour.hour-index below c.loop-hour.invariant.stored
          (c.put_number.ensures ∙ ap (λ (z : ℤ). sets c.loop-hour.out c.loop-hour.next (entry_written c.args.width (value z))) (is ∙ ap centimetres (hour-at c.args.hours.now c.args.first c.requires.1.0 c.loop-hour.hour-index c.loop-hour-test.true)));
    }

pub shape_of-out : goal.shape_of-out
shape_of-out c =
    c.loop-hour.invariant.stored.same_length

pub returns : goal.returns
returns c =
    let k : c.loop-hour.hour-index ≡ 12 = omega (arith, slice-length c.args.hours.now c.args.first c.requires.1.0, c.loop-hour-test.false, c.loop-hour.auto.hour-index-end) in record {
      out_after = left-none (rw (heights-end c.args.width c.args.hours.now c.args.first c.requires.1.0 c.loop-hour.hour-index (omega (arith, k))) at c.loop-hour.invariant.stored);
      value = rw k at c.loop-hour.invariant.place;
    }
