-- Every starred case of 01 holds: by computing both sides, and for every amplitude and minute by the laws of Advance and Level.
-- Assumes nothing.
use Prim.{tt}
use mathlib.Core.Path.{◌≡◌, refl, ◌∙◌, ap}
use mathlib.Core.List.{[], ◌∷◌}
use Prim.Native.Nat.{ℕ}
use lib.IntN as ints
use lib.IntN.{ℤ, pos, negsuc, neg_ℤ, ◌*ℤ◌, *ℤ-one, *ℤ-zero, *ℤ-negsuc}
use Rattle.cosine.specs.Fraction.{factorial, arc, unit, term, added, taken, whole, base}
use Rattle.cosine.specs.Fixed.{one, entry, fixed_base, fixed_cosine}
use Rattle.calendar.specs.Calendar.{is_fourth, month_days, months_days, years_days, day_count}
use Rattle.month_arguments.specs.Longitudes.{longitude, longitudes_on, times}
use Rattle.month_arguments.specs.Arguments.{argument}
use Rattle.month_satellites.specs.Satellites.{sum_over, main_pair}
use Rattle.month.specs.Month.{constituent}
use Rattle.heights.specs.Height.{height_at}
use Rattle.claim.specs.Starred.{starred, Z0, StarredHold}
use Rattle.claim.proofs.cases.Advance.{advance-is}
use Rattle.claim.proofs.cases.Level.{level-height, cosine_of_lag}

abbrev ◌and◌ : {P Q : Type 0} → P → Q → P × Q
p and q = (p, q)

infixr 1 ◌and◌
module _ (A minute : ℕ) where
  -- Z0 is level
  z0-height : (lag : ℕ) (s : ℤ) → cosine_of_lag lag ≡ s *ℤ pos one → height_at (Z0 A lag ∷ []) minute ≡ pos A *ℤ s
  unfolding constituent argument times longitudes_on longitude day_count years_days months_days month_days is_fourth main_pair sum_over
  z0-height lag s e = level-height A s lag minute e

pub all_hold : StarredHold
unfolding starred fixed_cosine fixed_base entry base added taken whole term factorial arc unit argument times longitudes_on longitude day_count years_days months_days month_days is_fourth ints.one
all_hold A minute =
    refl and refl and refl and refl and refl and refl and ap pos (advance-is 0 0 805_114_007 minute) and refl and refl
    and z0-height A minute 0 (pos 1) refl ∙ *ℤ-one (pos A)
    and z0-height A minute 18_000 (negsuc 0) refl ∙ *ℤ-negsuc (pos A) 0 ∙ ap neg_ℤ (*ℤ-one (pos A))
    and z0-height A minute 9_000 (pos 0) refl ∙ *ℤ-zero (pos A)
    and refl and refl and refl and tt
