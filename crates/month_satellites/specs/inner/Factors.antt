-- Only inner contracts cite this: the ranges of the latitude factors: stated once, kept by every function, so that no product or sum leaves 64 bits. And what the code's struct stands for.
use Rattle.std.specs.Prelude.{ℕ, ◌^◌, ◌≤◌, nat_abs}
use Rattle.month_satellites.specs.Latitude as document
use Rattle.month_satellites.specs.declared.latitude.Factors.{Factors}

-- a latitude factor: 36,309 × 2^40 / (100,000 × 2^16) in the north
abbrev pub factor_most : ℕ
factor_most = 2 ^ 23

-- S20 of a latitude, from 5 to 90 degrees.
pub record IsS20 (s : ℕ) : Type 0 where
  pub low : 2 ^ 16 ≤ s
  pub high : s ≤ 2 ^ 20

-- Both latitude factors.
pub record AreFactors (g : Factors) : Type 0 where
  pub diurnal : nat_abs g.diurnal ≤ factor_most
  pub semidiurnal : nat_abs g.semidiurnal ≤ factor_most

-- the factors of the code's struct
abbrev pub factors_of : Factors → document.Factors
factors_of g = record { diurnal = g.diurnal; semidiurnal = g.semidiurnal }
