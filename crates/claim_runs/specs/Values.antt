-- The machine's values for what the clock's calls return, read: a struct by its fields, an enum by its tag, which stands first, and the
-- fields behind it, a Result too; and what lies in a memory, as the machine loads it.
-- Assumes nothing.
use Prim.{Unit}
use Rattle.std.specs.Prelude.{ℕ, zero, suc, ◌+◌, true, false, cond, List, [], ◌∷◌, eqb, ℤ, get_or, replicate}
use Rattle.std.proofs.Math.Option.{Option, some, none}
use mir.Fields.{get_v}
use mir.Mem.{byte}
use mir.Syntax.{Width, w8, w32, w64, ty_int}
use mir.Val.{Val, vunit, vbool, vint, vfloat, vptr, vstruct, vcode, Vals, vnil, vcons, as_int, as_bool, to_z, bytes}
use prog.Memory.{Memory, align, size, load_m}
use denote.Memory.{raw_all, lone}
use Rattle.std.specs.Borrow.{RattleType}
use Rattle.columns.specs.Names.{names_from}
use Rattle.refusals.specs.Outcome.{Outcome, accepted, refused}
use Rattle.turns.specs.Written.{TurnsFound}
use Rattle.clock.specs.contracts.Clock as ClockType
use Rattle.clock.proofs.Clock.TheLaws as ClockLaws

abbrev pub part_in : ℕ → Val → Val
part_in k vunit = vunit
part_in k (vbool t) = vunit
part_in k (vint w n) = vunit
part_in k (vfloat f x) = vunit
part_in k (vptr b o) = vunit
part_in k (vstruct vs) = get_v vs k
part_in k (vcode _) = vunit

abbrev pub number_in : Val → ℕ
number_in v = as_int 0 v (λ w n. n)

abbrev pub by_tag : {A : Type 0} → Val → A → A → A
by_tag v first second = cond (eqb (number_in (part_in 0 v)) 0) first second

-- ---- a Result: tag 0 and what is given, or tag 1 and the refusal with its place

-- the tags of the refusals are their places in 01's two tables, and then 02's: "a new number joins 01's table"
abbrev pub refusal_numbers : List ℕ
refusal_numbers = 1 ∷ 2 ∷ 3 ∷ 4 ∷ 5 ∷ 6 ∷ 7 ∷ 8 ∷ 9 ∷ 10 ∷ 11 ∷ 21 ∷ 22 ∷ 23 ∷ 31 ∷ 32 ∷ 33 ∷ 34 ∷ 35 ∷ []

-- "A refusal returns its number and a place"
abbrev pub refused_in : {A : Type 0} → Val → Outcome A
refused_in v = refused (get_or refusal_numbers (number_in (part_in 0 (part_in 0 (part_in 1 v)))) 0) (number_in (part_in 1 (part_in 1 v)))

abbrev pub answer_in : Val → Outcome Unit
answer_in v = by_tag v (accepted tt) (refused_in v)

abbrev pub height_in : Val → Outcome ℤ
height_in v = by_tag v (accepted (to_z w64 (number_in (part_in 1 v)))) (refused_in v)

-- "returned: how many, and whether the first is high"
abbrev pub turns_in : Val → Outcome TurnsFound
turns_in v = by_tag v (accepted (record { count = number_in (part_in 0 (part_in 1 v)); high = as_bool false (part_in 1 (part_in 1 v)) (λ t. t) })) (refused_in v)

-- "return how many bytes they take"
abbrev pub cards_in : Val → Outcome ℕ
cards_in v = by_tag v (accepted (number_in (part_in 1 v))) (refused_in v)

-- the numbers of an array
unfoldable pub numbers_in : Vals → List ℕ
numbers_in vnil = []
numbers_in (vcons v vs) = number_in v ∷ numbers_in vs

abbrev pub array_in : Val → List ℕ
array_in vunit = []
array_in (vbool t) = []
array_in (vint w n) = []
array_in (vfloat f x) = []
array_in (vptr b o) = []
array_in (vstruct vs) = numbers_in vs
array_in (vcode _) = []

-- names: how many, and the bytes of all
abbrev pub table_names_in : Val → List (List ℕ)
table_names_in v = names_from (array_in (part_in 1 v)) 0 (number_in (part_in 0 v))

-- ---- what a call by reference returns: number and place, and behind them what it gives. The number stands first, as a tag does: "A refusal
-- returns its number and a place", and number 0 says that the call is accepted

abbrev pub said_in : {A : Type 0} → Val → A → Outcome A
said_in v given = by_tag v (accepted given) (refused (number_in (part_in 0 v)) (number_in (part_in 1 v)))

abbrev pub verdict_in : Val → Outcome Unit
verdict_in v = said_in v tt

abbrev pub reading_in : Val → Outcome ℤ
reading_in v = said_in v (to_z w64 (number_in (part_in 2 v)))

abbrev pub turnings_in : Val → Outcome TurnsFound
turnings_in v = said_in v (record { count = number_in (part_in 2 v); high = as_bool false (part_in 3 v) (λ t. t) })

abbrev pub held_cards_in : Val → Outcome ℕ
held_cards_in v = said_in v (number_in (part_in 2 v))

-- ---- the clock that a call leaves

-- what a call that gives the clock back returns: its answer, then the clock
abbrev pub answer_part : Val → Val
answer_part = part_in 0

abbrev pub clock_in : Val → Val
clock_in = part_in 1

-- ---- what lies in a memory, as the machine loads it (0 where nothing lies)

abbrev pub loaded_in : Option Val → ℕ
loaded_in none = 0
loaded_in (some v) = number_in v

abbrev pub number_at : Memory → Width → ℕ → ℕ → ℕ
number_at σ w b o = loaded_in (load_m σ (ty_int w) b o)

-- n numbers of the width w side by side, from the block b and the offset o on, each read as an element
unfoldable pub elements_at : {X : Type 0} → (ℕ → X) → Width → Memory → ℕ → ℕ → ℕ → List X
elements_at read w σ b o zero = []
elements_at read w σ b o (suc n) = read (number_at σ w b o) ∷ elements_at read w σ b (o + bytes w) n

abbrev pub bytes_at : Memory → ℕ → ℕ → ℕ → List ℕ
bytes_at = elements_at (λ (n : ℕ). n) w8

abbrev pub minutes_at : Memory → ℕ → ℕ → ℕ → List ℕ
minutes_at = elements_at (λ (n : ℕ). n) w32

abbrev pub heights_at : Memory → ℕ → ℕ → ℕ → List ℤ
heights_at = elements_at (to_z w64) w64

-- the machine's value for a struct of the type R (`vunit` where none lies)
abbrev pub value_in : Option Val → Val
value_in none = vunit
value_in (some v) = v

unfoldable pub value_at : Memory → RattleType → ℕ → ℕ → Val
value_at σ R b o = value_in (load_m σ (lone (raw_all R.mir)) b o)

abbrev pub clock_at : Memory → ℕ → ℕ → Val
clock_at σ b o = value_at σ ClockType.the_row b o

-- memory of nothing but zeros, as large as a clock
abbrev pub zero_memory : Memory
zero_memory = some (align ClockLaws.mir, replicate (size ClockLaws.mir) (byte 0), true) ∷ []
