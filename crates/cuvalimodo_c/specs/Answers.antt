-- The structs that cross to other languages: how a caller reads them, as 01's answers, and what they hold beside.
-- Assumes nothing.
use Prim.{Unit}
use Rattle.std.specs.Prelude.{ℕ, zero, suc, false, ◌≡◌, ℤ, pos}
use Rattle.refusals.specs.Outcome.{Outcome, accepted, refused}
use Rattle.turns.specs.Written.{TurnsFound}
use Rattle.cuvalimodo_c.specs.declared.answers.Verdict.{Verdict}
use Rattle.cuvalimodo_c.specs.declared.answers.Reading.{Reading}
use Rattle.cuvalimodo_c.specs.declared.answers.Turnings.{Turnings}
use Rattle.cuvalimodo_c.specs.declared.answers.Cards.{Cards}

-- "A refusal returns its number and a place": number 0 says that the call is accepted
abbrev pub returned_by : {A : Type 0} → ℕ → ℕ → A → Outcome A
returned_by zero place a = accepted a
returned_by (suc n) place a = refused (suc n) place

abbrev pub verdict_returned : Verdict → Outcome Unit
verdict_returned v = returned_by v.number v.place tt

abbrev pub reading_returned : Reading → Outcome ℤ
reading_returned r = returned_by r.number r.place r.height

-- "returned: how many, and whether the first is high"
abbrev pub turnings_returned : Turnings → Outcome TurnsFound
turnings_returned t = returned_by t.number t.place (record { count = t.count; high = t.high })

-- "return how many bytes they take"
abbrev pub cards_told : Cards → Outcome ℕ
cards_told c = returned_by c.number c.place c.bytes

-- ---- the struct of an answer: whatever it does not say is 0

abbrev pub verdict_of : Outcome Unit → Verdict
verdict_of (accepted _) = record { number = 0; place = 0 }
verdict_of (refused number place) = record { number = number; place = place }

abbrev pub reading_of : Outcome ℤ → Reading
reading_of (accepted h) = record { number = 0; place = 0; height = h }
reading_of (refused number place) = record { number = number; place = place; height = pos 0 }

abbrev pub turnings_of : Outcome TurnsFound → Turnings
turnings_of (accepted f) = record { number = 0; place = 0; count = f.count; high = f.high }
turnings_of (refused number place) = record { number = number; place = place; count = 0; high = false }

abbrev pub cards_told_of : Outcome ℕ → Cards
cards_told_of (accepted bytes) = record { number = 0; place = 0; bytes = bytes }
cards_told_of (refused number place) = record { number = number; place = place; bytes = 0 }

-- the struct is that of the answer that it is read as: an accepted one has place 0, a refused one height 0, count 0, no high water and 0 bytes
abbrev pub Plain : Verdict → Type 0
Plain v = v ≡ verdict_of (verdict_returned v)

abbrev pub PlainReading : Reading → Type 0
PlainReading r = r ≡ reading_of (reading_returned r)

abbrev pub PlainTurnings : Turnings → Type 0
PlainTurnings t = t ≡ turnings_of (turnings_returned t)

abbrev pub PlainCards : Cards → Type 0
PlainCards c = c ≡ cards_told_of (cards_told c)
