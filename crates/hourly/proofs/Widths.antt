-- A field of a width, and a number or a gap that it can hold: as many bytes as columns, each of them of a line, and read back.
-- Every law is over the width. Rests on the laws of decimal numbers and of rows of a kind. Assumes nothing.
use mathlib.Core.Path.{◌≡◌, refl, sym, ap, ◌∙◌}
use Prim.Native.Nat.{ℕ, zero, suc, ◌+◌, ◌-◌, ◌*◌, ◌^◌, ◌≤◌, ◌<◌}
use mathlib.Core.Bool.{Bool, true, false, and-false, or-true, false≢true}
use mathlib.Core.List.{List, [], ◌∷◌, ◌++◌, append-nil}
use lib.Dec.{leb, eqb}
use lib.IntN.{ℤ, pos, negsuc, nat_abs}
use lib.ListN.{length, replicate, length-append, length-replicate}
use native.Mathlib.Nat.{pow-suc, pow-le-pow_right, mul_assoc, mul_comm, not-suc-le-zero, lt_of_lt_of_le}
use native.Mathlib.Omega.{arith}
use borrow.Author.Tests.{leb-true, lt-leb, lt-ltb, ne_eqb, eqb-true, eq-eqb}
use Rattle.calendar.proofs.Months.{both}
use Rattle.refusals.specs.Outcome.{accepted}
use Rattle.columns.specs.Bytes.{among, blank, every, leading, behind}
use Rattle.columns.specs.Names.{same}
use Rattle.columns.proofs.Bytes.{every-leading}
use Rattle.fields.specs.Number.{numeric, signed, unsigned, unblanked, contents_of}
use Rattle.fields.specs.Numerals.{digit, begins, numeral, whole_good, whole_size}
use Rattle.fields.specs.declared.Format.TheVariants.{Whole}
use Rattle.hourly.specs.Card.{value, gap}
use Rattle.hourly.specs.Writing.{decimal, minus_of, text_of, entry_written}
use Rattle.hourly.specs.Reading.{number_read, height_read}
use Rattle.hourly.proofs.Lengths.{decimal-below}
use Rattle.hourly.proofs.Runs.{every_append, every-replicate, every-wider, leading-front, behind-front}
use Rattle.hourly.proofs.Decimal.{among-is, some-digits, decimal-digits, decimal-back}

-- ---- digits

-- a digit is neither a blank nor a minus
digit-apart : (b : ℕ) → digit b ≡ true → (blank b ≡ false) × (eqb b 45 ≡ false)
digit-apart b h =
    let l : 48 ≤ b = leb-true 48 b (both (leb 48 b) (leb b 57) h).0 in
    let m : 32 < b = omega arith in
    (rw (lt-leb b 32 m, and-false (leb 32 b)), ne_eqb b 45 (λ e. omega arith))

no-blank : (ds : List ℕ) → 0 < length ds → every digit ds ≡ true → leading blank ds ≡ []
unfolding every leading
no-blank [] s h = absurd (not-suc-le-zero s)
no-blank (d ∷ ds) s h = rw (digit-apart d (both (digit d) (every digit ds) h).0).0

no_minus : (ds : List ℕ) → every digit ds ≡ true → begins 45 ds ≡ false
unfolding every begins
no_minus [] h = refl
no_minus (d ∷ ds) h = (digit-apart d (both (digit d) (every digit ds) h).0).1

-- digits, and at least one, are a number behind a sign
digits-unsigned : (ds : List ℕ) → 0 < length ds → every digit ds ≡ true → (negative : Bool)
    → unsigned Whole negative ds ≡ numeric (signed negative (numeral 0 ds))
unfolding unsigned whole_good whole_size every leading
digits-unsigned ds some digits negative =
    let l : leading digit ds ≡ ds = rw append-nil at (leading-front digit [] refl ds digits) in
    let b : behind digit ds ≡ [] = rw append-nil at (behind-front digit [] refl ds digits) in
    rw (l, b, lt-ltb 0 (length ds) some)

-- ---- what a field is written in

-- so many bytes, each "32 to 126"
pub record Printed (w : ℕ) (bs : List ℕ) : Type 0 where
  pub columns : length bs ≡ w
  pub plain : every (among 32 126) bs ≡ true

pub printed-append : (v w : ℕ) (fs bs : List ℕ) → Printed v fs → Printed w bs → Printed (v + w) (fs ++ bs)
printed-append v w fs bs p q =
    record {
      columns = rw (length-append fs bs, p.columns, q.columns);
      plain = rw (every_append (among 32 126) fs bs, p.plain, q.plain);
    }

pub printed-replicate : (w b : ℕ) → among 32 126 b ≡ true → Printed w (replicate w b)
printed-replicate w b h = record { columns = length-replicate w b; plain = every-replicate (among 32 126) w b h }

digits-plain : (ds : List ℕ) → every digit ds ≡ true → every (among 32 126) ds ≡ true
digits-plain = every-wider digit (among 32 126) wider
  where
    wider : (b : ℕ) → digit b ≡ true → among 32 126 b ≡ true
    wider b h = let p = both (leb 48 b) (leb b 57) h in among-is 32 126 b (omega (arith, leb-true 48 b p.0)) (omega (arith, leb-true b 57 p.1))

minus-plain : (z : ℤ) → every (among 32 126) (minus_of z) ≡ true
unfolding every
minus-plain (pos n) = refl
minus-plain (negsuc n) = refl

-- ---- a number in a field

-- the columns that are left for digits: a minus takes one
abbrev pub room : ℕ → ℤ → ℕ
room w (pos n) = w
room w (negsuc n) = w - 1

-- a field of this width can hold the number
pub record Holds (w : ℕ) (z : ℤ) : Type 0 where
  pub some : 0 < room w z
  pub below : nat_abs z < 10 ^ room w z

room-width : (w : ℕ) (z : ℤ) → 0 < room w z → length (minus_of z) + room w z ≡ w
room-width w (pos n) h = omega arith
room-width w (negsuc n) h = omega arith

-- what stands behind a field's blanks
text-unblanked : (w : ℕ) (z : ℤ) → 0 < w → nat_abs z < 10 ^ w → unblanked Whole (text_of w z) ≡ numeric z
unfolding unblanked begins
text-unblanked w (pos n) s b =
    rw (no_minus (decimal w n) (decimal-digits w n), digits-unsigned (decimal w n) (some-digits w n s) (decimal-digits w n) false, decimal-back w n b)
text-unblanked w (negsuc n) s b =
    rw (digits-unsigned (decimal w (suc n)) (some-digits w (suc n) s) (decimal-digits w (suc n)) true, decimal-back w (suc n) b)

text-visible : (w : ℕ) (z : ℤ) → 0 < w → leading blank (text_of w z) ≡ []
unfolding leading
text-visible w (pos n) s = no-blank (decimal w n) (some-digits w n s) (decimal-digits w n)
text-visible w (negsuc n) s = refl

module _ (w : ℕ) (z : ℤ) (h : Holds w z) where
  wide : 0 < w
  wide = omega (arith, room-width w z h.some, h.some)

  size_below : nat_abs z < 10 ^ w
  size_below = let e : room w z ≤ w = omega (arith, room-width w z h.some) in lt_of_lt_of_le h.below (pow-le-pow_right (omega arith) e)

  text-short : length (text_of w z) ≤ w
  text-short = simp length-append (omega (arith, room-width w z h.some, decimal-below w (room w z) (nat_abs z) h.some h.below))

  pub number-contents : contents_of Whole (entry_written w (value z)) ≡ numeric z
  unfolding contents_of entry_written
  number-contents =
      rw (behind-front blank (text_of w z) (text-visible w z wide) (replicate (w - length (text_of w z)) 32) (every-replicate blank (w - length (text_of w z)) 32 refl))
      (text-unblanked w z wide size_below)

  pub number_read_lem : (place : ℕ) → number_read place (entry_written w (value z)) ≡ accepted (value z)
  number_read_lem place = rw number-contents

  pub number-printed : Printed w (entry_written w (value z))
  unfolding entry_written
  number-printed =
      let text : Printed (length (text_of w z)) (text_of w z) =
      record {
        columns = refl;
        plain = rw (every_append (among 32 126) (minus_of z) (decimal w (nat_abs z)), minus-plain z) (digits-plain (decimal w (nat_abs z)) (decimal-digits w (nat_abs z)));
      } in
      let blanks = w - length (text_of w z) in
      let e : blanks + length (text_of w z) ≡ w = omega (arith, text-short) in
      rw e at (printed-append blanks (length (text_of w z)) (replicate blanks 32) (text_of w z) (printed-replicate blanks 32 refl) text)

  -- it is not blank throughout
  number-visible : every blank (entry_written w (value z)) ≡ false
  unfolding entry_written
  number-visible =
      let blanks : List ℕ = replicate (w - length (text_of w z)) 32 in
      let some : 0 < length (text_of w z) = omega (arith, length-append (minus_of z) (decimal w (nat_abs z)), some-digits w (nat_abs z) wide) in
      rw (every_append blank blanks (text_of w z), every-leading blank (text_of w z), text-visible w z wide, lt-leb (length (text_of w z)) 0 some, and-false (every blank blanks))

-- ---- a height in a field

same-is : (fs bs : List ℕ) → same fs bs ≡ true → fs ≡ bs
unfolding same
same-is [] [] h = refl
same-is [] (b ∷ bs) h = absurd (false≢true h)
same-is (f ∷ fs) [] h = absurd (false≢true h)
same-is (f ∷ fs) (b ∷ bs) h = let p = both (eqb f b) (same fs bs) h in rw (eqb-true f b p.0, same-is fs bs p.1)

same_self : (bs : List ℕ) → same bs bs ≡ true
unfolding same
same_self [] = refl
same_self (b ∷ bs) = rw (eq-eqb b b refl, same_self bs)

-- nines write the number below a power of ten
nines-size : (w v : ℕ) → numeral v (replicate w 57) + 1 ≡ (v + 1) * 10 ^ w
unfolding numeral
nines-size zero v = omega arith
nines-size (suc w) v =
    let e : 10 * v + 9 + 1 ≡ (v + 1) * 10 = omega arith in
    nines-size w (10 * v + 9) ∙ rw (e, pow-suc 10 w, mul_assoc (v + 1) 10 (10 ^ w), mul_comm 10 (10 ^ w))

nines-contents : (w : ℕ) → 0 < w → contents_of Whole (replicate w 57) ≡ numeric (pos (numeral 0 (replicate w 57)))
unfolding contents_of unblanked every
nines-contents w some =
    let nines : List ℕ = replicate w 57 in
    let long : 0 < length nines = rw length-replicate some in
    let digits : every digit nines ≡ true = every-replicate digit w 57 refl in
    rw (behind-front blank nines (no-blank nines long digits) [] refl, no_minus nines digits) (digits-unsigned nines long digits false)

module _ (w : ℕ) (z : ℤ) (h : Holds w z) (unlike : suc (nat_abs z) < 10 ^ w) where
  not-nines : (t : Bool) → same (entry_written w (value z)) (replicate w 57) ≡ t → t ≡ false
  not-nines false e = refl
  not-nines true e =
      let n = numeral 0 (replicate w 57) in
      let c : numeric z ≡ numeric (pos n) =
      sym (number-contents w z h) ∙ ap (contents_of Whole) (same-is (entry_written w (value z)) (replicate w 57) e) ∙ nines-contents w (wide w z h) in
      let s : nat_abs z ≡ n = cc in
      absurd (omega (arith, nines-size w 0))

  pub height-read : (place : ℕ) → height_read place w (entry_written w (value z)) ≡ accepted (value z)
  height-read place = rw (number-visible w z h, not-nines (same (entry_written w (value z)) (replicate w 57)) refl) (number_read_lem w z h place)

pub gap-read : (w place : ℕ) → height_read place w (entry_written w gap) ≡ accepted gap
unfolding entry_written
gap-read w place = rw (same_self (replicate w 57), or-true (every blank (replicate w 57)))

pub gap-printed : (w : ℕ) → Printed w (entry_written w gap)
unfolding entry_written
gap-printed w = printed-replicate w 57 refl
