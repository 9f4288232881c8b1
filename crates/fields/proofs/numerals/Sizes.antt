-- What a field is behind its sign, by the columns where its digits, its point and its decimals end.
-- Resting on the laws of runs of `columns`. Assumes nothing.
use mathlib.Core.Path.{◌≡◌, sym}
use Prim.Native.Nat.{ℕ, ◌+◌, ◌-◌}
use mathlib.Core.List.{List}
use mathlib.Core.Bool.{◌&&◌}
use lib.ListN.{length, take, drop, replicate, length-append}
use lib.Dec.{leb, ltb}
use native.Mathlib.Nat.{sub-zero}
use Rattle.columns.specs.Bytes.{blank, every, leading, behind}
use Rattle.columns.specs.Columns.{columns}
use Rattle.columns.proofs.Columns.{length-padded, padded-part, padded-next, run-leading, run-behind}
use Rattle.fields.specs.Numerals.{digit, begins, numeral, whole_good, whole_size, fixed_good, fixed_size}
use Rattle.fields.proofs.numerals.Digits.{numeral-append}

module _ (s : List ℕ) (k e point : ℕ) (whole : point ≡ k + length (leading digit (columns s k (e - k)))) where
  pub whole-good : whole_good (columns s k (e - k)) ≡ (ltb 0 (point - k) && every blank (columns s point (e - point)))
  unfolding whole_good
  whole-good = rw (run-leading digit s k e point whole, run-behind digit s k e point whole, length-padded 32 s k (point - k))

  pub whole-size : whole_size (columns s k (e - k)) ≡ numeral 0 (columns s k (point - k))
  unfolding whole_size
  whole-size = rw (run-leading digit s k e point whole)

  module _ (stop : ℕ) (decimals : ℕ) (part : stop ≡ point + 1 + length (leading digit (columns s (point + 1) (e - (point + 1))))) where
    pub fixed-good : fixed_good decimals (columns s k (e - k))
        ≡ (begins 46 (columns s point (e - point)) && ltb 0 (point - k + (stop - (point + 1))) && leb (stop - (point + 1)) decimals && every blank (columns s stop (e - stop)))
    unfolding fixed_good
    fixed-good =
        simp (
          run-behind digit s k e point whole,
          padded-next,
          run-leading digit s k e point whole,
          run-leading digit s (point + 1) e stop part,
          run-behind digit s (point + 1) e stop part,
          length-append,
          length-padded,
        )

    pub fixed-size : fixed_size decimals (columns s k (e - k))
        ≡ numeral (numeral (numeral 0 (columns s k (point - k))) (columns s (point + 1) (stop - (point + 1)))) (replicate (decimals - (stop - (point + 1))) 48)
    unfolding fixed_size
    fixed-size =
        simp (
          run-behind digit s k e point whole,
          padded-next,
          run-leading digit s k e point whole,
          run-leading digit s (point + 1) e stop part,
          numeral-append,
          length-padded,
        )

-- behind its blanks a field is the columns of its part of the line from where they end
pub field-behind : (line f : List ℕ) (from width start : ℕ) → f ≡ take width (drop from line) → start ≡ 0 + length (leading blank (columns f 0 (width - 0)))
    → behind blank (columns line from width) ≡ columns f start (width - start)
field-behind line f from width start part ends =
    let e : columns line from width ≡ columns f 0 (width - 0) = rw (sub-zero width, part) (sym (padded-part 32 line from width)) in
    rw e (run-behind blank f 0 width start ends)
