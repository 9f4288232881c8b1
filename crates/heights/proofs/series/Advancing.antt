-- What constituents advance in some minutes, and arrays of angles moved on by it. By the angle's own laws. Assumes nothing.
use Prim.Native.Nat.{ℕ, ◌+◌, ◌*◌, ◌/◌, ◌%◌, ◌<◌}
use native.Mathlib.Omega.{arith}
use native.Mathlib.Nat.{div-add-mod}
use mathlib.Core.Path.{◌≡◌, sym, ap, ap₂, ◌∙◌}
use mathlib.Core.List.{List}
use lib.ListN.{get_or}
use Rattle.angles.specs.Ticks.{turn}
use Rattle.heights.proofs.minuteangle.Turning.{lap, angle-below, angle-later}
use Rattle.heights.specs.inner.Angles.{Angles, Advances, Below, MovedOn}

-- what a constituent advances, from the frequency less whole laps
pub advance-is : (f s : ℕ) → f % lap * s % lap * 1_314 ≡ 1_314 * f * s % turn
advance-is f s = advance-of f (f / lap) (f % lap) s (f % lap * s / lap) (f % lap * s % lap) (div-add-mod f lap) (div-add-mod (f % lap * s) lap) (omega arith)
  where
    advance-of : (f r x s t w : ℕ) → lap * r + x ≡ f → lap * t + w ≡ x * s → w < lap → w * 1_314 ≡ 1_314 * f * s % turn
    advance-of f r x s t w ef ew h = omega (arith, ap (λ (k : ℕ). k * s) ef)

-- ---- arrays of angles

pub angles-below : (arguments lags frequencies angles : List ℕ) (count minute : ℕ) → Angles arguments lags frequencies count minute angles → Below count angles
angles-below arguments lags frequencies angles count minute here k h = rw (here k h) (angle-below (get_or arguments k 0) (get_or lags k 0) (get_or frequencies k 0) minute)

pub ticks-below : (frequencies ticks : List ℕ) (count step : ℕ) → Advances frequencies count step ticks → Below count ticks
ticks-below frequencies ticks count step each k h = rw (each k h) (omega arith)

pub angles-later : (arguments lags frequencies angles ticks : List ℕ) (count minute step : ℕ) → Angles arguments lags frequencies count minute angles → Advances frequencies count step ticks → (later : List ℕ) → MovedOn count ticks angles later → Angles arguments lags frequencies count (minute + step) later
angles-later arguments lags frequencies angles ticks count minute step here each later moved k h =
    moved k h
    ∙ (ap₂ (λ (a b : ℕ). (a + b) % turn) (here k h) (each k h) ∙ sym (angle-later (get_or arguments k 0) (get_or lags k 0) (get_or frequencies k 0) minute step))
