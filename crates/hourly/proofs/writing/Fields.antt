-- A field holds a number whose text is no longer than it, and then it is as long as its width.
-- Assumes nothing.
use mathlib.Core.Path.{◌≡◌, refl, sym, ◌∙◌}
use mathlib.Core.List.{List, ◌∷◌}
use Prim.Native.Nat.{ℕ, suc, ◌+◌, ◌-◌, ◌^◌, ◌≤◌, ◌<◌}
use native.Mathlib.Omega.{arith}
use lib.IntN.{ℤ, pos, negsuc, nat_abs}
use mathlib.Core.Bool.{true, false}
use lib.ListN.{length, set, replicate, length-append, length-replicate}
use lib.Seq.{sets}
use lib.Signed.{lt_z}
use native.Mathlib.Numerals.{add-one}
use Rattle.angles.proofs.Machine.{if-negative, if-not-negative}
use Rattle.hourly.specs.Card.{value}
use Rattle.hourly.specs.Writing.{decimal, text_of, pad_left, entry_written}
use Rattle.hourly.specs.inner.Fields.{Fitting}
use Rattle.hourly.proofs.Lengths.{decimal-most, decimal-below}
use Rattle.hourly.proofs.writing.Stores.{sets-append}

-- text padded to a width
pub pad-length : (width : ℕ) (text : List ℕ) → length text ≤ width → length (pad_left width text) ≡ width
pad-length width text h =
    length-append (replicate (width - length text) 32) text ∙ omega (arith, length-replicate {A = ℕ} (width - length text) 32)

-- a field is as long as its width
pub field-length : (width : ℕ) (z : ℤ) → Fitting width z → length (entry_written width (value z)) ≡ width
unfolding entry_written
field-length width z h = pad-length width (text_of width z) h

-- numbers that are not negative always fit
pub natural-fits : (width n : ℕ) → Fitting width (pos n)
natural-fits width n = decimal-most width n

pub natural-length : (width n : ℕ) → length (entry_written width (value (pos n))) ≡ width
natural-length width n = field-length width (pos n) (natural-fits width n)

-- a negative number fits whose digits leave a place for the minus
pub negative_fits : (width n : ℕ) → 0 < width → suc n < 10 ^ width → Fitting (width + 1) (negsuc n)
negative_fits width n some h = omega (arith, decimal-below (width + 1) width (suc n) some h)

-- and where it fits they do
pub negative-room : (width : ℕ) (z : ℤ) → lt_z z (pos 0) ≡ true → Fitting width z → length (decimal width (nat_abs z)) + 1 ≤ width
negative-room width = if-negative (λ z. Fitting width z → length (decimal width (nat_abs z)) + 1 ≤ width) (λ n h. omega arith)

pub not_negative : (z : ℤ) → lt_z z (pos 0) ≡ false → pos (nat_abs z) ≡ z
not_negative = if-not-negative (λ z. pos (nat_abs z) ≡ z) (λ n. refl)

-- blanks are stored, and then the text
module _ (out blanks after : List ℕ) (at width : ℕ) where
  pub pad-stored : (text : List ℕ) → blanks ≡ sets out at (replicate (width - length text) 32) → after ≡ sets blanks (at + (width - length text)) text → after ≡ sets out at (pad_left width text)
  pad-stored text first second =
      let r = replicate {A = ℕ} (width - length text) 32 in
      second ∙ rw first (rw (length-replicate {A = ℕ} (width - length text) 32) at (sym (sets-append out at r text)))

  pub natural-stored : (n count : ℕ) → count ≡ length (decimal width n) → blanks ≡ sets out at (replicate (width - count) 32) → after ≡ sets blanks (at + (width - count)) (decimal width n) → after ≡ sets out at (entry_written width (value (pos n)))
  unfolding entry_written
  natural-stored n count e first second = pad-stored (decimal width n) (rw e at first) (rw e at second)

  module _ (count : ℕ) where
    pub negative-stored : (z : ℤ) → lt_z z (pos 0) ≡ true → count ≡ length (decimal width (nat_abs z)) → blanks ≡ sets out at (replicate (width - 1 - count) 32) → after ≡ sets (set blanks (at + (width - 1 - count)) 45) (at + (width - 1 - count) + 1) (decimal width (nat_abs z)) → after ≡ sets out at (entry_written width (value z))
    unfolding entry_written
    negative-stored =
        if-negative (λ z. count ≡ length (decimal width (nat_abs z)) → blanks ≡ sets out at (replicate (width - 1 - count) 32) → after ≡ sets (set blanks (at + (width - 1 - count)) 45) (at + (width - 1 - count) + 1) (decimal width (nat_abs z)) → after ≡ sets out at (entry_written width (value z)))
        (λ n e first second.
        let text = 45 ∷ decimal width (suc n) in
        let f : width - 1 - count ≡ width - length text = omega (arith, e) in
        pad-stored text (rw f at first) (rw (f, add-one (at + (width - length text))) at second))
