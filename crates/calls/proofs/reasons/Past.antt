-- What a series asks of its minutes: which question turns it down, and the last minute by a quotient. Assumes nothing.
use mathlib.Core.Path.{◌≡◌, refl, sym, ap, ◌∙◌}
use Prim.Native.Nat.{ℕ, ◌+◌, ◌-◌, ◌*◌, ◌/◌, ◌≤◌, ◌<◌}
use mathlib.Core.Bool.{Bool, true, false, ◌||◌, cond}
use native.Mathlib.Omega.{arith}
use native.Mathlib.Nat.{div-lt_iff_lt-mul}
use lib.Dec.{ltb}
use borrow.Author.Tests.{le-ltb, ltb-true, ltb-false}
use Rattle.limits.specs.Limits.{most_step}
use Rattle.calls.specs.Asked.{step_outside, last_minute}
use Rattle.calls.specs.Reasons.{series_reason}
use Rattle.calls.specs.declared.reasons.Reason.{Reason}
use Rattle.calls.specs.declared.reasons.Reason.TheVariants.{Start, Step, End}
use Rattle.std.specs.Prelude.{Option, Some, None}

-- a start in the month and a step in range leave the last minute to be asked
pub in-range : (last start step places : ℕ) → start ≤ last → 1 ≤ step → step ≤ most_step
    → series_reason last start step places ≡ cond (ltb last (last_minute start step places)) (Some End) None
unfolding series_reason
in-range last start step places h k l = simp (le-ltb last start h, le-ltb step 1 k, le-ltb most_step step l)

-- a quotient below n - 1 is a last minute past the month's
pub past_is : (last start step places : ℕ) → start ≤ last → 0 < step → 0 < places
    → ltb ((last - start) / step) (places - 1) ≡ ltb last (last_minute start step places)
past_is last start step places h k p =
    by (ltb ((last - start) / step) (places - 1)) (ltb last (last_minute start step places)) refl refl
  where
    by : (a b : Bool) → ltb ((last - start) / step) (places - 1) ≡ a → ltb last (last_minute start step places) ≡ b → a ≡ b
    by true true e f = refl
    by true false e f =
        let q : (last - start) / step < places - 1 = ltb-true _ _ e in
        let l : last - start < (places - 1) * step = (div-lt_iff_lt-mul k).0 q in
        let m : start + (places - 1) * step ≤ last = ltb-false _ _ f in
        absurd (omega arith)
    by false true e f =
        let l : last < start + (places - 1) * step = ltb-true _ _ f in
        let m : last - start < (places - 1) * step = omega arith in
        let q : (last - start) / step < places - 1 = (div-lt_iff_lt-mul k).1 m in
        let n : places - 1 ≤ (last - start) / step = ltb-false _ _ e in
        absurd (omega arith)
    by false false e f = refl

-- no place is past it
pub none-past : (last start step places : ℕ) → start ≤ last → places ≡ 0 → false ≡ ltb last (last_minute start step places)
none-past last start step places h e =
    let l : start + (places - 1) * step ≤ last = rw e (omega arith) in
    sym (le-ltb last (last_minute start step places) l)

-- whether a question turns a series down
abbrev pub outside : Option Reason → Bool
outside None = false
outside (Some reason) = true

-- one of the three does where it is outside
pub outside-is : (last start step places : ℕ) {told : Option Reason} → told ≡ series_reason last start step places
    → outside told ≡ (ltb last start || step_outside step || ltb last (last_minute start step places))
unfolding series_reason
outside-is last start step places e = ap outside e ∙ three (ltb last start) (step_outside step) (ltb last (last_minute start step places))
  where
    three : (a b c : Bool) → outside (cond a (Some Start) (cond b (Some Step) (cond c (Some End) None))) ≡ (a || b || c)
    three true b c = refl
    three false true c = refl
    three false false true = refl
    three false false false = refl
