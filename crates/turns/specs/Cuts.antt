-- 01, "Heights and turns": a bracket in which the slope changes sense, halved, for any slope (a minute's).
-- Assumes nothing.
use Rattle.std.specs.Prelude.{ℕ, zero, suc, ◌+◌, ◌-◌, ◌/◌, cond, leb, ltb, ℤ, nat_abs}
use Rattle.turns.specs.Sense.{differ}

-- "Then cut at start + floor(length/2). The half that holds the change is halved again, until its ends are one minute apart."
-- The earlier of these ends, in at most `cuts` cuts.
unfoldable pub cut_from : (ℕ → ℤ) → ℕ → ℕ → ℕ → ℕ
cut_from slope zero start length = start
cut_from slope (suc cuts) start length =
    cond (leb length 1) start
    (cond (differ (slope start) (slope (start + length / 2)))
    (cut_from slope cuts start (length / 2))
    (cut_from slope cuts (start + length / 2) (length - length / 2)))

-- each cut takes a minute or more away, so that a cut for each minute is enough (`proofs/Cuts`)
abbrev pub earlier_end : (ℕ → ℤ) → ℕ → ℕ → ℕ
earlier_end slope start length = cut_from slope length start length

-- "one minute apart"
abbrev pub later_end : (ℕ → ℤ) → ℕ → ℕ → ℕ
later_end slope start length = earlier_end slope start length + 1

-- "The turn is the end with the smaller slope size, the earlier if equal"
abbrev pub smaller : (ℕ → ℤ) → ℕ → ℕ
smaller slope minute = cond (ltb (nat_abs (slope (minute + 1))) (nat_abs (slope minute))) (minute + 1) minute
