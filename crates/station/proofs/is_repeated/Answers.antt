-- A place is among the first k where it is one of them. By induction on k. Assumes nothing.
use mathlib.Core.Path.{◌≡◌, refl, sym}
use mathlib.Core.Bool.{Bool, true, false, ◌||◌}
use mathlib.Core.Logic.{⊎_elim}
use Prim.Native.Nat.{ℕ, zero, suc, ◌≤◌, ◌<◌}
use mathlib.Core.List.{List}
use native.Mathlib.Nat.{eq-or-lt_of_le}
use native.Mathlib.Omega.{arith}
use borrow.Author.Count.{below_none, below_more}
use borrow.Author.Tests.{eq-eqb, ne_eqb}
use lib.ListN.{get_or}
use lib.Seq.{get_or-take, length-take-le}
use Rattle.refusals.specs.Places.{is_among}
use Rattle.station.specs.inner.Station.{places_before}
use Rattle.station.proofs.is_repeated.Goals as goal

or-true : (b : Bool) → (b || true) ≡ true
or-true true = refl
or-true false = refl

found : (place : ℕ) (places : List ℕ) (k i : ℕ) → i < k → get_or places i 0 ≡ place → is_among place (places_before places k) ≡ true
unfolding is_among places_before
found place places zero i h e = absurd (omega arith)
found place places (suc k) i h e =
    let below : i ≤ k = omega arith in
    ⊎_elim (λ s. rw (← s, eq-eqb place (get_or places i 0) (sym e))) (λ l. rw (found place places k i l e) (or-true _)) (eq-or-lt_of_le below)

none-found : (place : ℕ) (places : List ℕ) (k : ℕ) → ((i : ℕ) → i < k → get_or places i 0 ≡ place → ⊥) → is_among place (places_before places k) ≡ false
unfolding is_among places_before
none-found place places zero h = refl
none-found place places (suc k) h =
    rw (ne_eqb place (get_or places k 0) (λ e. h k (omega arith) (sym e)), none-found place places k (λ i l. h i (omega arith)))

pub loop-earlier-init : goal.loop-earlier-init
loop-earlier-init c = below_none _

pub returns-then-earlier-place : goal.returns-then-earlier-place
returns-then-earlier-place c =
    let below : c.loop-earlier.earlier-index < c.args.k = omega (arith, length-take-le c.args.k c.args.places.now (omega arith)) in
    sym (found c.args.place c.args.places.now c.args.k c.loop-earlier.earlier-index below (rw (get_or-take c.args.k c.args.places.now c.loop-earlier.earlier-index 0 below) at c.if-earlier-place.true))

pub loop-earlier-preserved : goal.loop-earlier-preserved
loop-earlier-preserved c =
    let below : c.loop-earlier.earlier-index < c.args.k = omega (arith, length-take-le c.args.k c.args.places.now (omega arith)) in
    below_more _ _ c.loop-earlier.invariant (rw (get_or-take c.args.k c.args.places.now c.loop-earlier.earlier-index 0 below) at c.if-earlier-place.false)

pub returns : goal.returns
returns c =
    sym (none-found c.args.place c.args.places.now c.args.k (λ i l. c.loop-earlier.invariant i (omega (arith, length-take-le c.args.k c.args.places.now (omega arith)))))
