-- A bracket halved, as the code's promise puts it: one more cut before a promise that holds.
-- From the laws of `Cuts`. Assumes nothing.
use mathlib.Core.Path.{◌≡◌, sym, ap, ap₂, ◌∙◌}
use mathlib.Core.Bool.{Bool, true, false, cond}
use Prim.Native.Nat.{ℕ, ◌+◌, ◌-◌, ◌/◌, ◌^◌, ◌≤◌, ◌<◌}
use native.Mathlib.Omega.{arith}
use lib.Dec.{ltb}
use lib.IntN.{ℤ, nat_abs}
use lib.Signed.{mag}
use mir.Syntax.{w64}
use mir.Val.{SFits, to_z, of_z}
use mir.ValLaws.{to_z-of_z}
use Rattle.turns.specs.Sense.{differ}
use Rattle.turns.specs.Cuts.{earlier_end}
use Rattle.turns.specs.inner.Bisection.{TurnedPost}
use Rattle.turns.specs.declared.bisection.Turned.{Turned}
use Rattle.turns.proofs.bisection.Cuts.{cut-done, cut-early, cut-late}

-- a number kept in a register, where it is known to be another
pub kept : {x y : ℤ} → SFits w64 x → x ≡ y → to_z w64 (of_z w64 x) ≡ y
kept {x} f e = to_z-of_z w64 x f ∙ e

-- the same of a call's result, by the size that the call gives it
pub kept_result : {x y : ℤ} → mag x < 2 ^ 63 → x ≡ y → to_z w64 (of_z w64 x) ≡ y
kept_result h e = kept (record { sfits = h }) e

-- the sense of two numbers that are known to be others, as tested
pub sense-of : {x y u v : ℤ} {r t : Bool} → x ≡ u → y ≡ v → r ≡ differ x y → r ≡ t → differ u v ≡ t
sense-of e f d s = ap₂ differ (sym e) (sym f) ∙ (sym d ∙ s)

module _ (slope : ℕ → ℤ) (start length : ℕ) where
  pub one-minute : {early late : ℤ} {r : Turned} → 0 < length → length ≤ 1 → early ≡ slope start → late ≡ slope (start + length) → r.turn ≡ cond (ltb (nat_abs late) (nat_abs early)) (start + 1) start → (r.later ≡ start + 1) × (r.slope ≡ late) → TurnedPost slope start length r
  one-minute {late} s h e l t n =
      let last : late ≡ slope (start + 1) = l ∙ ap (λ (k : ℕ). slope (start + k)) (omega arith) in
      record {
        turn = rw (cut-done slope start length h, ← e, ← last) t;
        later = rw (cut-done slope start length h) n.0;
        there = n.1 ∙ (last ∙ ap slope (sym n.0));
      }

  -- a half that ends where the whole does
  same_end : {r : Turned} {s n : ℕ} → earlier_end slope start length ≡ earlier_end slope s n → TurnedPost slope s n r → TurnedPost slope start length r
  same_end e p = record { turn = rw e p.turn; later = rw e p.later; there = p.there }

  pub early-half : {r : Turned} → 1 < length → differ (slope start) (slope (start + length / 2)) ≡ true → TurnedPost slope start (length / 2) r → TurnedPost slope start length r
  early-half h d = same_end (cut-early slope start length h d)

  pub late-half : {r : Turned} → 1 < length → differ (slope start) (slope (start + length / 2)) ≡ false → TurnedPost slope (start + length / 2) (length - length / 2) r → TurnedPost slope start length r
  late-half h d = same_end (cut-late slope start length h d)
