-- A number in decimal is digits, at least one, and they write it.
-- By induction on the digits allowed. Assumes nothing.
use mathlib.Core.Path.{◌≡◌, refl}
use Prim.Native.Nat.{ℕ, zero, suc, ◌+◌, ◌-◌, ◌*◌, ◌/◌, ◌%◌, ◌^◌, ◌≤◌, ◌<◌}
use mathlib.Core.Bool.{true}
use mathlib.Core.List.{List, [], ◌∷◌, ◌++◌}
use lib.ListN.{length}
use native.Mathlib.Nat.{pow-suc, div-lt_iff_lt-mul, not-suc-le-zero}
use native.Mathlib.Omega.{arith}
use borrow.Author.Tests.{le-leb}
use Rattle.columns.specs.Bytes.{among, every}
use Rattle.fields.specs.Numerals.{digit, numeral}
use Rattle.hourly.specs.Writing.{decimal}
use Rattle.hourly.proofs.Lengths.{below_or_not, decimal_digit, decimal-more, decimal-some}
use Rattle.hourly.proofs.Runs.{every_append}

pub among-is : (low high b : ℕ) → low ≤ b → b ≤ high → among low high b ≡ true
among-is low high b l h = rw (le-leb low b l, le-leb b high h)

digit-is : (d : ℕ) → d < 10 → digit (48 + d) ≡ true
digit-is d h = among-is 48 57 (48 + d) (omega arith) (omega arith)

pub some-digits : (w n : ℕ) → 0 < w → 0 < length (decimal w n)
some-digits zero n h = absurd (not-suc-le-zero h)
some-digits (suc w) n h = decimal-some w n

pub decimal-digits : (w n : ℕ) → every digit (decimal w n) ≡ true
unfolding decimal every
decimal-digits zero n = refl
decimal-digits (suc w) n =
    below_or_not n 10 (λ l. rw (decimal_digit w n l, digit-is n l))
    (λ l. rw (decimal-more w n l, every_append digit (decimal w (n / 10)) ((48 + n % 10) ∷ []), decimal-digits w (n / 10), digit-is (n % 10) (omega arith)))

numeral-append : (v : ℕ) (ds es : List ℕ) → numeral v (ds ++ es) ≡ numeral (numeral v ds) es
unfolding numeral
numeral-append v [] es = refl
numeral-append v (d ∷ ds) es = numeral-append (10 * v + (d - 48)) ds es

pub decimal-back : (w n : ℕ) → n < 10 ^ w → numeral 0 (decimal w n) ≡ n
unfolding decimal numeral
decimal-back zero n h = omega arith
decimal-back (suc w) n h =
    let tenth : n / 10 < 10 ^ w = (div-lt_iff_lt-mul {k = 10} (omega arith)).1 (rw pow-suc at h) in
    below_or_not n 10 (λ l. rw (decimal_digit w n l) (omega arith))
    (λ l. rw (decimal-more w n l, numeral-append 0 (decimal w (n / 10)) ((48 + n % 10) ∷ []), decimal-back w (n / 10) tenth) (omega arith))
