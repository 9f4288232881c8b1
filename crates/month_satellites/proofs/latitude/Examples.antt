-- 01, "Checked against": "Latitude 4°59' acts as 5°", and so does any smaller one, with its sign. By the definition of the size.
use mathlib.Core.Path.{◌≡◌}
use Prim.Native.Nat.{ℕ, ◌≤◌, ◌<◌}
use native.Mathlib.Omega.{arith}
use lib.IntN.{ℤ, pos, negsuc, nat_abs}
use Rattle.month_satellites.specs.Latitude.{latitude_size, s20, by_side, diurnal_factor, semidiurnal_factor, factors_at}

small_size : (l : ℤ) → nat_abs l ≤ 300 → latitude_size l ≡ 300
unfolding latitude_size
small_size l h = omega arith

pub small-north : (n : ℕ) → n ≤ 300 → factors_at (pos n) ≡ factors_at (pos 300)
unfolding diurnal_factor semidiurnal_factor by_side s20
small-north n h = rw (small_size (pos n) h, small_size (pos 300) (omega arith))

pub small-south : (n : ℕ) → n < 300 → factors_at (negsuc n) ≡ factors_at (negsuc 299)
unfolding diurnal_factor semidiurnal_factor by_side s20
small-south n h = rw (small_size (negsuc n) h, small_size (negsuc 299) (omega arith))

pub four-fifty-nine : factors_at (pos 299) ≡ factors_at (pos 300)
four-fifty-nine = small-north 299 (omega arith)
