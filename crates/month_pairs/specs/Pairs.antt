-- 01, "Satellites and weights": the multiplications of pairs, and refusal 11's size.
use Rattle.std.specs.Prelude.{ℕ, zero, suc, ◌^◌, cond, ◌||◌, ltb, ℤ, pos, negsuc, neg_ℤ, nat_abs, ◌+ℤ◌, ◌-ℤ◌, ◌*ℤ◌}
use Rattle.angles.specs.Floor.{floor_div}
use Rattle.refusals.specs.Checked.{Checked, good, bad, ◌>>=◌}
use Rattle.month_satellites.specs.Satellites.{Pair}

-- A constituent's pair, or none, by refusal 11.
abbrev pub Corrected : Type 0
Corrected = Checked ℕ Pair

-- 11: "size of X or Y over 2^22"
unfoldable pub checked : Pair → Corrected
checked p = cond (ltb (2 ^ 22) (nat_abs p.x) || ltb (2 ^ 22) (nat_abs p.y)) (bad 11) (good p)

-- "X = floor((X·x - Y·y)/2^20), Y = floor((X·y + Y·x)/2^20), from old X and Y"
unfoldable pub times_pair : Pair → Pair → Pair
times_pair P p =
    record {
      x = floor_div (P.x *ℤ p.x -ℤ P.y *ℤ p.y) (2 ^ 20);
      y = floor_div (P.x *ℤ p.y +ℤ P.y *ℤ p.x) (2 ^ 20);
    }

-- ".. with y negated for a negative coefficient"
unfoldable pub turned : ℤ → Pair → Pair
turned (pos coefficient) p = p
turned (negsuc coefficient) p = record { x = p.x; y = neg_ℤ p.y }

-- ".. as often as its coefficient's size"; 11: ".. or after any shallow multiplication"
unfoldable pub times_often : ℕ → Pair → Pair → Corrected
times_often zero P p = good P
times_often (suc n) P p = checked (times_pair P p) >>= λ Q. times_often n Q p

-- ".. multiplied by each part's pair": by the pair of a part's main, with its coefficient
abbrev pub times_main : Pair → Corrected → ℤ → Corrected
times_main P main coefficient = main >>= λ p. times_often (nat_abs coefficient) P (turned coefficient p)

-- "A shallow pair starts at (2^20, 0)"
abbrev pub start_pair : Pair
start_pair = record { x = pos (2 ^ 20); y = pos 0 }
