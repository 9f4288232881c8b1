-- Turns that are kept: fewer of them too, and from one call to the next. Assumes nothing.
use Prim.Native.Nat.{ℕ, ◌≤◌}
use mathlib.Core.List.{List}
use mathlib.Core.Path.{◌≡◌, refl, sym, ◌∙◌, ap}
use lib.IntN.{ℤ}
use lib.ListN.{take, set}
use lib.Seq.{take-take, take-set-le}
use native.Mathlib.Nat.{le_refl}
use Rattle.monthturns.specs.inner.Kept.{Kept}

fewer : {A : Type 0} (n m : ℕ) (l left : List A) → n ≤ m → take m left ≡ take m l → take n left ≡ take n l
fewer n m l left h e = sym (take-take n m left h) ∙ ap (take n) e ∙ take-take n m l h

pub kept-fewer : (n : ℕ) {m : ℕ} {a b : List ℕ} {x y : List ℤ} → n ≤ m → Kept m a b x y → Kept n a b x y
kept-fewer n {m} {a} {b} {x} {y} h k =
    record { minutes_kept = fewer n m a b h k.minutes_kept; heights_kept = fewer n m x y h k.heights_kept }

pub kept_on : {n : ℕ} {a b c : List ℕ} {x y z : List ℤ} → Kept n a b x y → Kept n b c y z → Kept n a c x z
kept_on k l = record { minutes_kept = l.minutes_kept ∙ k.minutes_kept; heights_kept = l.heights_kept ∙ k.heights_kept }

pub kept-all : {n : ℕ} {a : List ℕ} {x : List ℤ} → Kept n a a x x
kept-all = record { minutes_kept = refl; heights_kept = refl }

-- a turn behind them is put
pub kept_set : {at : ℕ} {l : List ℕ} {hs : List ℤ} (v : ℕ) (z : ℤ) → Kept at l (set l at v) hs (set hs at z)
kept_set {at} {l} {hs} v z =
    record { minutes_kept = take-set-le at l at v (le_refl at); heights_kept = take-set-le at hs at z (le_refl at) }
