-- A prepared month and a station's constituents in it, in document 01's terms.
use Rattle.std.specs.Prelude.{ℕ, List, ℤ}

pub record Constituent : Type 0 where
  -- V, in ticks
  pub argument : ℕ
  -- phase lag, in hundredths of a degree
  pub lag : ℕ
  -- frequency, in 10^-10 cycle an hour
  pub frequency : ℕ
  -- the weights P and Q
  pub p : ℤ
  pub q : ℤ

-- a prepared month: its last minute, and the station's constituents in it, with V, P and Q
pub record Month : Type 0 where
  pub last : ℕ
  pub constituents : List Constituent
