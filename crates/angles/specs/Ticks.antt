-- 01, "Arguments": the tick, and the units of the cards in ticks.
-- Assumes nothing.
use Rattle.std.specs.Prelude.{ℕ}

-- "A tick is 1/T of a turn, T = 788,400,000,000,000."
abbrev pub turn : ℕ
turn = 788_400_000_000_000

-- "One 10^-10 cycle is 78,840 ticks,"
abbrev pub ten_billionth : ℕ
ten_billionth = 78_840

-- "0.01 cycle 7,884,000,000,000,"
abbrev pub centicycle : ℕ
centicycle = 7_884_000_000_000

-- "0.01 degree 21,900,000,000,"
abbrev pub centidegree : ℕ
centidegree = 21_900_000_000

-- "one arc minute 36,500,000,000."
abbrev pub arc_minute : ℕ
arc_minute = 36_500_000_000
