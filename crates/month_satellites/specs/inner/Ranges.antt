-- Only inner contracts cite this: the ranges of what a main constituent's pair is made of: stated once, kept by every function, so that no product or sum leaves 64 bits.
use Rattle.std.specs.Prelude.{ℕ, ◌^◌, ◌≤◌, ◌<◌, nat_abs}
use Rattle.angles.specs.Ticks.{turn}
use Rattle.month_satellites.specs.declared.satellites.Nodal.{Nodal}
use Rattle.month_satellites.specs.declared.satellites.Pair.{Pair}

-- a plain term: a ratio of 32 bits times 2^30, over 10,240,000
abbrev pub plain_most : ℕ
plain_most = 2 ^ 39

-- a marked term: 2^39 × 2^23 / 2^20
abbrev pub term_most : ℕ
term_most = 2 ^ 42

-- a sum before refusal 11 is asked: 2^20 and up to 65,535 terms; a product of two pairs is smaller
abbrev pub sum_most : ℕ
sum_most = 2 ^ 60

-- Longitudes modulo T.
pub record AreAngles (l : Nodal) : Type 0 where
  pub perigee : l.perigee < turn
  pub node : l.node < turn
  pub solar : l.solar < turn

-- Both numbers of a pair.
pub record Sized (b : ℕ) (p : Pair) : Type 0 where
  pub x : nat_abs p.x ≤ b
  pub y : nat_abs p.y ≤ b
