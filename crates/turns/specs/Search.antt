-- 01, "Heights and turns": the search for turns, for any slope (a minute's) and any stride.
-- Assumes nothing.
use Rattle.std.specs.Prelude.{ℕ, zero, suc, ◌+◌, ◌-◌, Bool, false, cond, List, [], ◌∷◌, map, ◌≡◌, ltb, ℤ}
use Rattle.turns.specs.Sense.{rising, differ}
use Rattle.turns.specs.Cuts.{earlier_end, later_end, smaller}

-- a turn's minute, and whether it is "high, that is, rising at its stride's start"
pub record Turn : Type 0 where
  pub minute : ℕ
  pub high : Bool

-- the turn in a stride from a minute
abbrev pub turn_in : (ℕ → ℤ) → ℕ → ℕ → Turn
turn_in slope minute stride =
    record { minute = smaller slope (earlier_end slope minute stride); high = rising (slope minute) }

-- 02, No. 6: "A stride of 1 whose ends differ is not cut": its turn is the end with the smaller slope size (proved in proofs/search/One.antt)
abbrev pub UncutAtOne : Type 0
UncutAtOne = (slope : ℕ → ℤ) (minute : ℕ) → ((turn_in slope minute 1).minute ≡ smaller slope minute) × (later_end slope minute 1 ≡ minute + 1)

-- "stride until the two ends' slopes differ in sense; a stride past the last minute ends the work. .. Search resumes from the later end."
-- The turns from a minute on, in at most `strides` strides.
unfoldable pub turns_from : (ℕ → ℤ) → ℕ → ℕ → ℕ → ℕ → List Turn
turns_from slope stride last zero minute = []
turns_from slope stride last (suc strides) minute =
    cond (ltb last (minute + stride)) []
    (cond (differ (slope minute) (slope (minute + stride)))
    (turn_in slope minute stride ∷ turns_from slope stride last strides (later_end slope minute stride))
    (turns_from slope stride last strides (minute + stride)))

-- "From the first minute asked": each stride goes on by a minute or more, so that one for each minute is enough (`proofs/Strides`)
abbrev pub turns_of : (ℕ → ℤ) → ℕ → ℕ → ℕ → List Turn
turns_of slope stride first last = turns_from slope stride last (last - first) first

-- "whether the first is high .. (false if none)"
abbrev pub first_high : List Turn → Bool
first_high [] = false
first_high (t ∷ ts) = t.high

-- the minutes of turns
abbrev pub minutes_of : List Turn → List ℕ
minutes_of turns = map (λ (t : Turn). t.minute) turns
