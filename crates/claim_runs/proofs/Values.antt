-- What is read off a machine's value is what its answer says, so a value stands for one answer: by the cases of the answer.
-- Assumes nothing.
use mathlib.Core.Path.{◌≡◌, refl, sym, ap, subst, ◌∙◌}
use Prim.Native.Nat.{ℕ, zero, suc}
use mathlib.Core.Bool.{cond}
use mathlib.Core.List.{List, [], ◌∷◌, map}
use lib.Dec.{eqb, eqb-suc-zero}
use lib.IntN.{ℤ}
use lib.ListN.{get_or}
use mir.Syntax.{w8, w64}
use mir.Val.{Val, vunit, vint, of_list}
use mir.ValLaws.{to_z-of_z}
use denote.Laws.{Is}
use denote.RattleType.{RattleType}
use denote.Param.Laws.{Laws, Told, of_field, field_told}
use denote.Param.Shared.{copy_shared}
use denote.Struct.Field.{unit-field, i64-field, usize-field}
use denote.Struct.Laws.{unit-laws, unit-copy, i64-laws, i64-copy, usize-laws, usize-copy}
use Prim.{Unit}
use Rattle.std.specs.Prelude.{Result, Ok, Err}
use Rattle.std.specs.contracts.result.Result as ResultType
use Rattle.std.proofs.result.Result.TheLaws as ResultLaws
use Rattle.columns.specs.Names.{names_from}
use Rattle.refusals.specs.Outcome.{Outcome, accepted, refused, number_of, outcome_of}
use Rattle.refusals.specs.declared.Refused.{Refused}
use Rattle.refusals.specs.contracts.Refused as RefusedType
use Rattle.refusals.proofs.Refused.TheLaws as RefusedLaws
use Rattle.refusals.specs.declared.Refusal.{Refusal}
use Rattle.refusals.specs.declared.Refusal.TheVariants.{BadLine, Malformed, OutOfRange, BadName, Missing, TooMany, Ended, BadDate, BadMinutes, TooManyTurns, TooLarge, NoTable, NoStation, NoMonth, UnequalBuffers, BadStationNumber, BadHeight, ShortBuffer, BadStride}
use Rattle.hourly.specs.Answers.{cards_returned}
use Rattle.turns.specs.declared.search.Summary.{Summary}
use Rattle.turns.specs.contracts.search.Summary as SummaryType
use Rattle.turns.proofs.search.Summary.TheLaws as SummaryLaws
use Rattle.clock.specs.declared.After.{After}
use Rattle.clock.specs.Returned.{height_returned, turns_returned}
use Rattle.clock.specs.contracts.Clock as ClockType
use Rattle.clock.proofs.Clock.TheLaws as ClockLaws
use Rattle.clock.specs.contracts.After as AfterType
use Rattle.clock.proofs.After.TheLaws as AfterLaws
use Rattle.clock.specs.declared.TableNames.{TableNames}
use Rattle.clock.specs.contracts.TableNames as NamesType
use Rattle.clock.proofs.TableNames.TheLaws as NamesLaws
use Rattle.cuvalimodo_c.specs.Answers as answers
use Rattle.cuvalimodo_c.specs.Answers.{returned_by}
use Rattle.cuvalimodo_c.specs.declared.answers.Verdict.{Verdict}
use Rattle.cuvalimodo_c.specs.declared.answers.Reading.{Reading}
use Rattle.cuvalimodo_c.specs.declared.answers.Turnings.{Turnings}
use Rattle.cuvalimodo_c.specs.declared.answers.Cards.{Cards}
use Rattle.cuvalimodo_c.specs.contracts.answers.Cards as CardsType
use Rattle.cuvalimodo_c.proofs.answers.Cards.TheLaws as CardsLaws
use Rattle.cuvalimodo_c.specs.contracts.answers.Verdict as VerdictType
use Rattle.cuvalimodo_c.proofs.answers.Verdict.TheLaws as VerdictLaws
use Rattle.cuvalimodo_c.specs.contracts.answers.Reading as ReadingType
use Rattle.cuvalimodo_c.proofs.answers.Reading.TheLaws as ReadingLaws
use Rattle.cuvalimodo_c.specs.contracts.answers.Turnings as TurningsType
use Rattle.cuvalimodo_c.proofs.answers.Turnings.TheLaws as TurningsLaws
use Rattle.claim_runs.specs.Values.{part_in, number_in, refused_in, answer_in, height_in, turns_in, cards_in, numbers_in, table_names_in, answer_part, clock_in, verdict_in, reading_in, turnings_in, held_cards_in}

-- the first of the machine's values
abbrev pub first : List Val → Val
first [] = vunit
first (v ∷ vs) = v

-- ---- a Result of a refusal with its place, or of what a type's values are

module _ (T : RattleType) (l : Laws T) (told : Told T) where
  abbrev row : RattleType
  row = ResultType.the_row T RefusedType.the_row

  abbrev lowered : Result T.Denot Refused → Val
  lowered = ResultLaws.lowered T RefusedType.the_row l RefusedLaws.the_row_laws told RefusedLaws.the_told

  is-lowered : (r : Result T.Denot Refused) (v : Val) → Is row r (v ∷ []) → (v ∷ []) ≡ (lowered r ∷ [])
  is-lowered r v is = (ResultLaws.lowers T RefusedType.the_row l RefusedLaws.the_row_laws told RefusedLaws.the_told).val_is r (v ∷ []) is

  refusal-reads : {A : Type 0} (r : Refusal) (place : ℕ) → refused_in {A = A} (lowered (Err (record { refusal = r; place = place }))) ≡ refused (number_of r) place
  refusal-reads BadLine place = refl
  refusal-reads Malformed place = refl
  refusal-reads OutOfRange place = refl
  refusal-reads BadName place = refl
  refusal-reads Missing place = refl
  refusal-reads TooMany place = refl
  refusal-reads Ended place = refl
  refusal-reads BadDate place = refl
  refusal-reads BadMinutes place = refl
  refusal-reads TooManyTurns place = refl
  refusal-reads TooLarge place = refl
  refusal-reads NoTable place = refl
  refusal-reads NoStation place = refl
  refusal-reads NoMonth place = refl
  refusal-reads UnequalBuffers place = refl
  refusal-reads BadStationNumber place = refl
  refusal-reads BadHeight place = refl
  refusal-reads ShortBuffer place = refl
  refusal-reads BadStride place = refl

-- nothing, a height, a number

abbrev unit-lent : Laws unit-field.row
unit-lent = of_field unit-field unit-laws refl (copy_shared unit-field unit-copy)

abbrev unit-told : Told unit-field.row
unit-told = field_told unit-field unit-laws

abbrev i64-lent : Laws i64-field.row
i64-lent = of_field i64-field i64-laws refl (copy_shared i64-field i64-copy)

abbrev i64-told : Told i64-field.row
i64-told = field_told i64-field i64-laws

abbrev usize-lent : Laws usize-field.row
usize-lent = of_field usize-field usize-laws refl (copy_shared usize-field usize-copy)

abbrev usize-told : Told usize-field.row
usize-told = field_told usize-field usize-laws

answer-lowered : (r : Result Unit Refused) → answer_in (lowered unit-field.row unit-lent unit-told r) ≡ outcome_of r
answer-lowered (Ok tt) = refl
answer-lowered (Err e) = refusal-reads unit-field.row unit-lent unit-told e.refusal e.place

pub answer-reads : (r : Result Unit Refused) (v : Val) → Is (ResultType.the_row unit-field.row RefusedType.the_row) r (v ∷ []) → answer_in v ≡ outcome_of r
answer-reads r v is = ap (λ (vs : List Val). answer_in (first vs)) (is-lowered unit-field.row unit-lent unit-told r v is) ∙ answer-lowered r

height-lowered : (r : Result ℤ Refused) (v : Val) → Is (ResultType.the_row i64-field.row RefusedType.the_row) r (v ∷ []) → height_in (lowered i64-field.row i64-lent i64-told r) ≡ height_returned r
height-lowered (Ok h) v is = ap accepted (to_z-of_z w64 h (record { sfits = is.1.1.1.1.0.1 }))
height-lowered (Err e) v is = refusal-reads i64-field.row i64-lent i64-told e.refusal e.place

pub height-reads : (r : Result ℤ Refused) (v : Val) → Is (ResultType.the_row i64-field.row RefusedType.the_row) r (v ∷ []) → height_in v ≡ height_returned r
height-reads r v is = ap (λ (vs : List Val). height_in (first vs)) (is-lowered i64-field.row i64-lent i64-told r v is) ∙ height-lowered r v is

turns-lowered : (r : Result Summary Refused) → turns_in (lowered SummaryType.the_row SummaryLaws.the_row_laws SummaryLaws.the_told r) ≡ turns_returned r
turns-lowered (Ok found) = refl
turns-lowered (Err e) = refusal-reads SummaryType.the_row SummaryLaws.the_row_laws SummaryLaws.the_told e.refusal e.place

pub turns-reads : (r : Result Summary Refused) (v : Val) → Is (ResultType.the_row SummaryType.the_row RefusedType.the_row) r (v ∷ []) → turns_in v ≡ turns_returned r
turns-reads r v is = ap (λ (vs : List Val). turns_in (first vs)) (is-lowered SummaryType.the_row SummaryLaws.the_row_laws SummaryLaws.the_told r v is) ∙ turns-lowered r

cards-lowered : (r : Result ℕ Refused) → cards_in (lowered usize-field.row usize-lent usize-told r) ≡ cards_returned r
cards-lowered (Ok count) = refl
cards-lowered (Err e) = refusal-reads usize-field.row usize-lent usize-told e.refusal e.place

pub cards-read : (r : Result ℕ Refused) (v : Val) → Is (ResultType.the_row usize-field.row RefusedType.the_row) r (v ∷ []) → cards_in v ≡ cards_returned r
cards-read r v is = ap (λ (vs : List Val). cards_in (first vs)) (is-lowered usize-field.row usize-lent usize-told r v is) ∙ cards-lowered r

pub after-reads : (r : After) (v : Val) → Is AfterType.the_row r (v ∷ []) → answer_in (answer_part v) ≡ outcome_of r.answer
after-reads r v is = ap (λ (vs : List Val). answer_in (answer_part (first vs))) ((AfterLaws.lowers).val_is r (v ∷ []) is) ∙ answer-lowered r.answer

-- the clock in an `After`'s value is the machine's value of its clock
pub clock-is : (r : After) (v : Val) → Is AfterType.the_row r (v ∷ []) → Is ClockType.the_row r.clock (clock_in v ∷ [])
clock-is r v is =
    let here : Is ClockType.the_row r.clock (ClockLaws.lowered r.clock ∷ []) =
    subst (Is ClockType.the_row r.clock) ((ClockLaws.lowers).val_is r.clock is.0.1.0 is.1.1.1.0) is.1.1.1.0 in
    subst (λ (u : Val). Is ClockType.the_row r.clock (u ∷ [])) (sym (ap (λ (vs : List Val). clock_in (first vs)) ((AfterLaws.lowers).val_is r (v ∷ []) is))) here

bytes_read : (bs : List ℕ) → numbers_in (of_list (map (λ (b : ℕ). vint w8 b) bs)) ≡ bs
unfolding numbers_in
bytes_read [] = refl
bytes_read (b ∷ bs) = ap (λ (cs : List ℕ). b ∷ cs) (bytes_read bs)

names-lowered : (r : TableNames) → table_names_in (NamesLaws.lowered r) ≡ names_from r.bytes 0 r.count
names-lowered r = ap (λ (bs : List ℕ). names_from bs 0 r.count) (bytes_read r.bytes)

pub names-read : (r : TableNames) (v : Val) → Is NamesType.the_row r (v ∷ []) → table_names_in v ≡ names_from r.bytes 0 r.count
names-read r v is = ap (λ (vs : List Val). table_names_in (first vs)) ((NamesLaws.lowers).val_is r (v ∷ []) is) ∙ names-lowered r

-- ---- what a call by reference returns

said-lowered : {A : Type 0} (number place : ℕ) (given : A) → cond (eqb number 0) (accepted given) (refused number place) ≡ returned_by number place given
said-lowered zero place given = refl
said-lowered (suc n) place given = rw (eqb-suc-zero n)

pub verdict-reads : (r : Verdict) (v : Val) → Is VerdictType.the_row r (v ∷ []) → verdict_in v ≡ answers.verdict_returned r
verdict-reads r v is = ap (λ (vs : List Val). verdict_in (first vs)) ((VerdictLaws.lowers).val_is r (v ∷ []) is) ∙ said-lowered r.number r.place tt

pub reading-reads : (r : Reading) (v : Val) → Is ReadingType.the_row r (v ∷ []) → reading_in v ≡ answers.reading_returned r
reading-reads r v is =
    ap (λ (vs : List Val). reading_in (first vs)) ((ReadingLaws.lowers).val_is r (v ∷ []) is)
    ∙ (ap (λ (h : ℤ). cond (eqb r.number 0) (accepted h) (refused r.number r.place)) (to_z-of_z w64 r.height (record { sfits = is.1.1.1.1.0.1 }))
    ∙ said-lowered r.number r.place r.height)

pub turnings-read : (r : Turnings) (v : Val) → Is TurningsType.the_row r (v ∷ []) → turnings_in v ≡ answers.turnings_returned r
turnings-read r v is =
    ap (λ (vs : List Val). turnings_in (first vs)) ((TurningsLaws.lowers).val_is r (v ∷ []) is) ∙ said-lowered r.number r.place (record { count = r.count; high = r.high })

pub held-cards-read : (r : Cards) (v : Val) → Is CardsType.the_row r (v ∷ []) → held_cards_in v ≡ answers.cards_told r
held-cards-read r v is = ap (λ (vs : List Val). held_cards_in (first vs)) ((CardsLaws.lowers).val_is r (v ∷ []) is) ∙ said-lowered r.number r.place r.bytes
