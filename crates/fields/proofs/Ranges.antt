-- A number is in a range of 64-bit numbers exactly when its capped size, with its sign, is: all from the cap on lie outside.
-- By cases on the signs. Assumes nothing.
use mathlib.Core.Path.{◌≡◌, refl, sym, ◌∙◌}
use Prim.Native.Nat.{ℕ, zero, suc, ◌≤◌, ◌<◌, min}
use mathlib.Core.List.{List}
use mathlib.Core.Bool.{Bool, true, false, false≢true, cond, ◌&&◌, not, and-false}
use lib.IntN.{ℤ, pos, negsuc, neg_ℤ, nat_abs, ◌-ℤ◌}
use lib.ListN.{drop}
use lib.Signed.{lt_z, le_z, non_neg}
use lib.Dec.{T, leb, ltb}
use native.Mathlib.Nat.{zero-add}
use native.Mathlib.Omega.{arith}
use borrow.Author.Tests.{ltb-true, ltb-false, leb-true, le-leb, lt-leb}
use mir.Syntax.{w64}
use mir.Val.{SFits, to_z}
use mir.ValLaws.{to_z_pos}
use Rattle.columns.specs.Bytes.{blank, behind}
use Rattle.fields.specs.Numerals.{begins, whole_good, whole_size, fixed_good, fixed_size}
use Rattle.fields.specs.Number.{Contents, numeric, malformed, signed, ranged, unsigned, unblanked, contents_of}
use Rattle.fields.specs.inner.Cap.{cap, kept}
use Rattle.fields.specs.inner.Kept.{kept_of, kept_gives, written_in}
use Rattle.fields.specs.declared.Format.{Format}
use Rattle.fields.specs.declared.Format.TheVariants.{Whole, Fixed}
use Rattle.fields.specs.declared.Written.{Written}
use Rattle.fields.specs.declared.FieldError.TheVariants.{OutOfRange}
use Rattle.std.specs.Prelude.{Ok, Err}

leb-ltb : (a b : ℕ) → leb a b ≡ not (ltb b a)
leb-ltb a b = go (ltb b a) refl
  where
    go : (t : Bool) → ltb b a ≡ t → leb a b ≡ not t
    go true h = lt-leb a b (ltb-true b a h)
    go false h = le-leb a b (ltb-false b a h)

-- "at most" is "not above"
pub le_z-lt_z : (a b : ℤ) → le_z a b ≡ not (lt_z b a)
le_z-lt_z (pos a) (pos b) = leb-ltb a b
le_z-lt_z (pos a) (negsuc b) = refl
le_z-lt_z (negsuc a) (pos b) = refl
le_z-lt_z (negsuc a) (negsuc b) = leb-ltb b a

below : (low : ℤ) (m : ℕ) → SFits w64 low → 9223372036854775808 ≤ m → le_z low (negsuc m) ≡ false
below (pos l) m f h = refl
below (negsuc l) m f h = lt-leb m l (omega arith)

above : (high : ℤ) (n : ℕ) → SFits w64 high → 9223372036854775808 ≤ n → le_z (pos n) high ≡ false
above (pos k) n f h = lt-leb n k (omega arith)
above (negsuc k) n f h = refl

module _ (low high : ℤ) (fl : SFits w64 low) (fh : SFits w64 high) where
  pub out_below : (size : ℕ) → cap ≤ size → ranged low high (numeric (neg_ℤ (pos size))) ≡ Err OutOfRange
  unfolding ranged
  out_below zero h = absurd (omega arith)
  out_below (suc m) h = rw (below low m fl (omega arith))

  pub out-above : (size : ℕ) → 9223372036854775807 < size → ranged low high (numeric (pos size)) ≡ Err OutOfRange
  unfolding ranged
  out-above size h = rw (above high size fh h, and-false)

  pub cap-loses-nothing : (negative : Bool) (size : ℕ) → ranged low high (numeric (signed negative (min cap size))) ≡ ranged low high (numeric (signed negative size))
  cap-loses-nothing negative size = go negative (ltb size cap) refl
    where
      go : (negative t : Bool) → ltb size cap ≡ t → ranged low high (numeric (signed negative (min cap size))) ≡ ranged low high (numeric (signed negative size))
      go negative true h = let e : min cap size ≡ size = omega (arith, ltb-true size cap h) in rw e
      go true false h =
          let a : cap ≤ size = omega (arith, ltb-false size cap h) in
          let b : cap ≤ min cap size = omega arith in
          out_below (min cap size) b ∙ sym (out_below size a)
      go false false h =
          let a : 9223372036854775807 < size = omega (arith, ltb-false size cap h) in
          let b : 9223372036854775807 < min cap size = omega arith in
          out-above (min cap size) b ∙ sym (out-above size a)

  -- so what is kept of a size has its answer
  kept_gives_lem : (negative good : Bool) (size : ℕ) → ranged low high (kept_gives negative (kept good size)) ≡ ranged low high (cond good (numeric (signed negative size)) malformed)
  kept_gives_lem negative true size = cap-loses-nothing negative size
  kept_gives_lem negative false size = refl

  sized-gives : (format : Format) (negative : Bool) (bs : List ℕ) → ranged low high (kept_gives negative (kept_of format bs)) ≡ ranged low high (unsigned format negative bs)
  unfolding kept_of unsigned
  sized-gives Whole negative bs = kept_gives_lem negative (whole_good bs) (whole_size bs)
  sized-gives (Fixed decimals) negative bs = kept_gives_lem negative (fixed_good decimals bs) (fixed_size decimals bs)

  -- and what is kept of a field has the field's
  pub written-gives : (format : Format) (field : List ℕ) (w : Written) → w ≡ written_in format (behind blank field)
      → ranged low high (kept_gives w.negative w.size) ≡ ranged low high (contents_of format field)
  unfolding contents_of unblanked written_in
  written-gives format field w e = rw e (go (begins 45 bs))
    where
      bs : List ℕ
      bs = behind blank field

      behind_sign : Bool → Written
      behind_sign t = cond t (record { negative = true; size = kept_of format (drop 1 bs) }) (record { negative = false; size = kept_of format bs })

      go : (t : Bool) → ranged low high (kept_gives (behind_sign t).negative (behind_sign t).size) ≡ ranged low high (cond t (unsigned format true (drop 1 bs)) (unsigned format false bs))
      go true = sized-gives format true (drop 1 bs)
      go false = sized-gives format false bs

-- a range from 0 on: nothing with a minus but 0, and nothing above its end
pub minus-out : (high size : ℕ) → 0 < size → Err OutOfRange ≡ ranged (pos 0) (pos high) (numeric (signed true size))
unfolding ranged
minus-out high zero h = absurd (omega arith)
minus-out high (suc m) h = refl

pub above-out : (high size : ℕ) → high < size → Err OutOfRange ≡ ranged (pos 0) (pos high) (numeric (pos size))
unfolding ranged
above-out high size h = rw (lt-leb size high h, and-false)

pub natural-in : (high size : ℕ) → size ≤ high → Ok (pos size) ≡ ranged (pos 0) (pos high) (numeric (pos size))
unfolding ranged
natural-in high size h = rw (le-leb 0 size (omega arith), le-leb size high h)

-- a number that is in its range keeps to its bounds
pub ranged-within : (low high v : ℤ) (x : Contents) → Ok v ≡ ranged low high x → (le_z low v ≡ true) × (le_z v high ≡ true)
unfolding ranged
ranged-within low high v malformed e = let z : ◌≡◌ {A = ℕ} 0 1 = cc in absurd (omega arith)
ranged-within low high v (numeric z) e = go (le_z low z) (le_z z high) refl refl e
  where
    go : (s t : Bool) → le_z low z ≡ s → le_z z high ≡ t → Ok v ≡ cond (s && t) (Ok z) (Err OutOfRange) → (le_z low v ≡ true) × (le_z v high ≡ true)
    go true true a b q = let v-is : v ≡ z = cc in rw v-is (a, b)
    go true false a b q = let z : ◌≡◌ {A = ℕ} 0 1 = cc in absurd (omega arith)
    go false t a b q = let z : ◌≡◌ {A = ℕ} 0 1 = cc in absurd (omega arith)

pub le_z-trans : (a b c : ℤ) → le_z a b ≡ true → le_z b c ≡ true → le_z a c ≡ true
le_z-trans (pos a) (pos b) (pos c) p q = le-leb a c (omega (arith, leb-true a b p, leb-true b c q))
le_z-trans (pos a) (pos b) (negsuc c) p q = absurd (false≢true q)
le_z-trans (pos a) (negsuc b) c p q = absurd (false≢true p)
le_z-trans (negsuc a) b (pos c) p q = refl
le_z-trans (negsuc a) (pos b) (negsuc c) p q = absurd (false≢true q)
le_z-trans (negsuc a) (negsuc b) (negsuc c) p q = le-leb c a (omega (arith, leb-true b a p, leb-true c b q))

-- a field with a range that does not go below 0
pub natural-is : (low high v : ℤ) (x : Contents) → le_z (pos 0) low ≡ true → Ok v ≡ ranged low high x → T (non_neg v) × (nat_abs v ≤ nat_abs high)
natural-is low high v x l e = let r = ranged-within low high v x e in at_least v high (le_z-trans (pos 0) low v l r.0) r.1
  where
    at_least : (v high : ℤ) → le_z (pos 0) v ≡ true → le_z v high ≡ true → T (non_neg v) × (nat_abs v ≤ nat_abs high)
    at_least (pos n) (pos m) a b = (tt, leb-true n m b)
    at_least (pos n) (negsuc m) a b = absurd (false≢true b)
    at_least (negsuc n) high a b = absurd (false≢true a)

-- the number below 0 that the reader makes of a size
pub small_pos : (n : ℕ) → n < 9223372036854775808 → to_z w64 n ≡ pos n
small_pos n h = to_z_pos w64 n (omega arith)

minus : (m : ℕ) → negsuc 0 -ℤ pos m ≡ negsuc m
minus zero = refl
minus (suc m) = rw (zero-add m)

pub minus_is : (m : ℕ) → m < 9223372036854775808 → negsuc 0 -ℤ to_z w64 m ≡ negsuc m
minus_is m h = rw (small_pos m h) (minus m)

pub minus-fits : (m : ℕ) → m < 9223372036854775808 → SFits w64 (negsuc 0 -ℤ to_z w64 m)
minus-fits m h = rw (minus_is m h) record { sfits = omega arith }
