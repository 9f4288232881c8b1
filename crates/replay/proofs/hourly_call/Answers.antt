-- `replay::hourly_call` meets its contract: the bytes that the clock's call returns stand in the lent buffer, as it leaves it. Assumes nothing.
use mathlib.Core.Path.{◌≡◌, ap}
use mathlib.Core.List.{List, ◌++◌}
use Prim.Native.Nat.{ℕ, ◌≤◌}
use native.Mathlib.Omega.{arith}
use lib.ListN.{length, drop, length-append}
use Rattle.refusals.specs.Outcome.{Outcome, accepted, refused, on_accepted}
use Rattle.hourly.specs.Month.{CardsGiven, into_buffer}
use Rattle.calls.specs.State.{State}
use Rattle.calls.specs.Hourly.{hourly_bytes, hourly_gives}
use Rattle.replay.proofs.hourly_call.Goals as goal

-- what is written stands in the buffer
written-within : (new : Outcome (List ℕ)) (buffer left : List ℕ) (returned : Outcome ℕ) → record { returned = returned; buffer = left } ≡ into_buffer new buffer → on_accepted returned (λ count. count) 0 ≤ length left
written-within (accepted bytes) buffer left returned e =
    let r : returned ≡ accepted (length bytes) = ap (λ (g : CardsGiven). g.returned) e in
    let b : left ≡ bytes ++ drop (length bytes) buffer = ap (λ (g : CardsGiven). g.buffer) e in
    rw (r, b) (omega (arith, length-append bytes (drop (length bytes) buffer)))
written-within (refused number place) buffer left returned e =
    let r : returned ≡ refused number place = ap (λ (g : CardsGiven). g.returned) e in
    rw r (omega arith)

given-within : (k : State) (number : ℕ) (buffer left : List ℕ) (returned : Outcome ℕ) → record { returned = returned; buffer = left } ≡ hourly_gives k number buffer → on_accepted returned (λ count. count) 0 ≤ length left
unfolding hourly_gives
given-within k number buffer left returned e = written-within (hourly_bytes k number (length buffer)) buffer left returned e

pub put_cards-requires : goal.put_cards-requires
put_cards-requires g c = given-within _ _ _ _ _ c.hourly-answer.ensures.gives
