-- 01, "Turned down by the input" and "Turned down by the state": a call is accepted, or refused by a number and a place.
-- Assumes nothing.
use Prim.{Unit}
use Rattle.std.specs.Prelude.{ℕ, Bool, true, false, Result, Ok, Err}
use Rattle.refusals.specs.declared.Refusal.{Refusal}
use Rattle.refusals.specs.declared.Refusal.TheVariants.{BadLine, Malformed, OutOfRange, BadName, Missing, TooMany, Ended, BadDate, BadMinutes, TooManyTurns, TooLarge, NoTable, NoStation, NoMonth, UnequalBuffers, BadStationNumber, BadHeight, ShortBuffer, BadStride}
use Rattle.refusals.specs.declared.Refused.{Refused}

-- what a call or a check gives where it is accepted (`Unit`: nothing but that it is); "A refusal returns its number and a place: card line, or
-- station record (also for 11), from 1; else 0."
pub data Outcome (A : Type 0) : Type 0 where
  accepted : A → Outcome A
  refused : ℕ → ℕ → Outcome A

-- the number of each row of the two tables; "a new number joins 01's table" (02, No. 3, 4 and 6)
abbrev pub number_of : Refusal → ℕ
number_of BadLine = 1
number_of Malformed = 2
number_of OutOfRange = 3
number_of BadName = 4
number_of Missing = 5
number_of TooMany = 6
number_of Ended = 7
number_of BadDate = 8
number_of BadMinutes = 9
number_of TooManyTurns = 10
number_of TooLarge = 11
number_of NoTable = 21
number_of NoStation = 22
number_of NoMonth = 23
number_of UnequalBuffers = 31
number_of BadStationNumber = 32
number_of BadHeight = 33
number_of ShortBuffer = 34
number_of BadStride = 35

-- what an answer of the code says in 01's numbers
abbrev pub outcome_of : {A : Type 0} → Result A Refused → Outcome A
outcome_of (Ok a) = accepted a
outcome_of (Err e) = refused (number_of e.refusal) e.place

-- the first refusal that fits, in the order written: `refuse_if test number place (what is asked next)`
abbrev pub refuse_if : {A : Type 0} → Bool → ℕ → ℕ → Outcome A → Outcome A
refuse_if true number place next = refused number place
refuse_if false number place next = next

-- one outcome, and where it is accepted the next, from what it gives
infixl 20 ◌>>=◌
abbrev pub ◌>>=◌ : {A B : Type 0} → Outcome A → (A → Outcome B) → Outcome B
accepted a >>= next = next a
refused number place >>= next = refused number place

infixl 20 ◌>>◌
abbrev pub ◌>>◌ : {A B : Type 0} → Outcome A → Outcome B → Outcome B
first >> next = first >>= λ a. next

-- that it is accepted, or the refusal
abbrev pub answered : {A : Type 0} → Outcome A → Outcome Unit
answered outcome = outcome >> accepted tt

-- what a call leaves or gives: something new, from what it gives, where it is accepted; what was there where it is refused
abbrev pub on_accepted {ℓ} : {A : Type 0} {B : Type ℓ} → Outcome A → (A → B) → B → B
on_accepted (accepted a) new old = new a
on_accepted (refused number place) new old = old
