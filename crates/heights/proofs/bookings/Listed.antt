-- Heights that stand place by place for the minutes of a list are the heights mapped over it. Assumes nothing.
use Prim.Native.Nat.{ℕ, zero, suc, ◌<◌}
use native.Mathlib.Omega.{arith}
use mathlib.Core.Path.{◌≡◌, refl, sym, ◌∙◌}
use mathlib.Core.List.{List, [], ◌∷◌, map}
use lib.IntN.{ℤ, pos}
use lib.ListN.{length, get_or, length-map}
use lib.Seq.{ext_get_or}

module _ (height : ℕ → ℤ) where
  placed : (minutes : List ℕ) (i : ℕ) → i < length minutes → get_or (map height minutes) i (pos 0) ≡ height (get_or minutes i 0)
  placed [] i h = absurd (omega arith)
  placed (m ∷ ms) zero h = refl
  placed (m ∷ ms) (suc i) h = placed ms i (omega arith)

  pub listed : (minutes : List ℕ) (out : List ℤ) → length out ≡ length minutes
      → ((i : ℕ) → i < length minutes → get_or out i (pos 0) ≡ height (get_or minutes i 0)) → out ≡ map height minutes
  listed minutes out long all =
      ext_get_or (pos 0) out (map height minutes) (long ∙ sym (length-map minutes height)) (λ i h. all i (rw long at h) ∙ sym (placed minutes i (rw long at h)))
