-- 02, No. 1: months that follow one another, and the month that owns a minute of them. "Each month uses its own weights."
-- Assumes nothing.
use Rattle.std.specs.Prelude.{ℕ, ◌-◌, cond, List, [], ◌∷◌, ltb}
use Rattle.month_prepared.specs.Prepared.{Constituent, Month}

-- a month, and a minute in it
pub record Owned : Type 0 where
  pub month : Month
  pub minute : ℕ

-- "Midnight at a month's end belongs to the month that begins. .. The year's last instant is December's minute 44,640": the month that a
-- minute, counted from the first month's midnight, belongs to, and the minute in it. (Of no months none does.)
unfoldable pub owner_of : List Month → ℕ → Owned
owner_of [] minute = record { month = record { last = 0; constituents = [] }; minute = minute }
owner_of (month ∷ []) minute = record { month = month; minute = minute }
owner_of (month ∷ next ∷ later) minute =
    cond (ltb minute month.last) (record { month = month; minute = minute }) (owner_of (next ∷ later) (minute - month.last))

-- what a minute of the months has: what it has in the month that owns it
abbrev pub at_owner : {A : Type 0} → (List Constituent → ℕ → A) → List Month → ℕ → A
at_owner of months minute = of (owner_of months minute).month.constituents (owner_of months minute).minute
