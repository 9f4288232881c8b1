-- A constituent with V and frequency 0, and the weights of the pair (2^20, 0), gives its amplitude times the cosine of its lag, where this is
-- whole: each floor is of a multiple. Assumes nothing.
use mathlib.Core.Path.{◌≡◌, sym, ◌∙◌, ap, ap₂}
use mathlib.Core.List.{[], ◌∷◌}
use Prim.Native.Nat.{ℕ, zero, ◌*◌, ◌^◌, ◌<◌}
use native.Mathlib.Omega.{arith}
use lib.IntN.{ℤ, pos, ◌+ℤ◌, ◌-ℤ◌, ◌*ℤ◌, +ℤ_idr, zero-*ℤ, *ℤ-zero, *ℤ_comm}
use Rattle.angles.specs.Ticks.{centidegree}
use Rattle.angles.specs.Floor.{floor_div, mod_turn}
use Rattle.angles.proofs.Ints.{assoc}
use Rattle.angles.proofs.Floors.{floor-of}
use Rattle.cosine.specs.Fixed.{one, fixed_cosine, fixed_sine}
use Rattle.month_prepared.specs.Prepared.{Constituent}
use Rattle.month.specs.Month.{weight}
use Rattle.heights.specs.Angle.{angle}
use Rattle.heights.specs.Share.{share}
use Rattle.heights.specs.Height.{sum_of_shares, height_at}

abbrev pub level : ℕ → ℕ → Constituent
level A lag = record { argument = 0; lag = lag; frequency = 0; p = weight A (pos (2 ^ 20)); q = weight A (pos 0) }

abbrev pub cosine_of_lag : ℕ → ℤ
cosine_of_lag lag = fixed_cosine (mod_turn (pos 0 -ℤ pos (lag * centidegree) +ℤ pos 0))

-- with frequency 0, every minute has the same angle
cosine-still : (lag minute : ℕ) → fixed_cosine (angle 0 lag 0 minute) ≡ cosine_of_lag lag
unfolding angle
cosine-still lag minute = ap (λ (z : ℤ). fixed_cosine (mod_turn (pos 0 -ℤ pos (lag * centidegree) +ℤ z))) (zero-*ℤ (pos minute -ℤ pos 21_600))

floor-of-multiple : (n : ℕ) → zero < n → (q : ℤ) → floor_div (q *ℤ pos n) n ≡ q
floor-of-multiple n some q = ap (λ (z : ℤ). floor_div z n) (sym (+ℤ_idr (q *ℤ pos n))) ∙ floor-of n some q 0 some

module _ (A : ℕ) where
  p-is : weight A (pos (2 ^ 20)) ≡ pos A *ℤ pos 4_096
  unfolding weight
  p-is = ap (λ (z : ℤ). floor_div z 256) (sym (assoc (pos A) (pos 4_096) (pos 256))) ∙ floor-of-multiple 256 (omega arith) (pos A *ℤ pos 4_096)

  q-is : weight A (pos 0) ≡ pos 0
  unfolding weight
  q-is = ap (λ (z : ℤ). floor_div z 256) (*ℤ-zero (pos A))

  module _ (s : ℤ) where
    -- the share of such weights where the cosine is s
    share-is : (ticks : ℕ) → fixed_cosine ticks ≡ s *ℤ pos one → share (pos A *ℤ pos 4_096) (pos 0) ticks ≡ pos A *ℤ s *ℤ pos 4_096
    unfolding share
    share-is ticks e =
        ap (λ (z : ℤ). floor_div z one)
        (ap₂ ◌-ℤ◌ (ap (λ (z : ℤ). pos A *ℤ pos 4_096 *ℤ z) e ∙ sym (assoc (pos A *ℤ pos 4_096) s (pos one))) (zero-*ℤ (fixed_sine ticks))
        ∙ +ℤ_idr (pos A *ℤ pos 4_096 *ℤ s *ℤ pos one))
        ∙ floor-of-multiple one (omega arith) (pos A *ℤ pos 4_096 *ℤ s)
        ∙ assoc (pos A) (pos 4_096) s ∙ ap (λ (z : ℤ). pos A *ℤ z) (*ℤ_comm (pos 4_096) s) ∙ sym (assoc (pos A) s (pos 4_096))

    pub level-height : (lag minute : ℕ) → cosine_of_lag lag ≡ s *ℤ pos one → height_at (level A lag ∷ []) minute ≡ pos A *ℤ s
    unfolding height_at sum_of_shares
    level-height lag minute e =
        ap (λ (z : ℤ). floor_div (z +ℤ pos 0 +ℤ pos 2_048) 4_096)
        (ap₂ (λ (p q : ℤ). share p q (angle 0 lag 0 minute)) p-is q-is ∙ share-is (angle 0 lag 0 minute) (cosine-still lag minute ∙ e))
        ∙ ap (λ (z : ℤ). floor_div (z +ℤ pos 2_048) 4_096) (+ℤ_idr (pos A *ℤ s *ℤ pos 4_096))
        ∙ floor-of 4_096 (omega arith) (pos A *ℤ s) 2_048 (omega arith)
