-- A refusal's number is never 0, so that a caller reads it as a refusal. Assumes nothing.
use Prim.Native.Nat.{ℕ}
use mathlib.Core.Path.{◌≡◌, refl}
use Rattle.refusals.specs.Outcome.{refused, number_of}
use Rattle.refusals.specs.declared.Refusal.{Refusal}
use Rattle.refusals.specs.declared.Refusal.TheVariants.{BadLine, Malformed, OutOfRange, BadName, Missing, TooMany, Ended, BadDate, BadMinutes, TooManyTurns, TooLarge, NoTable, NoStation, NoMonth, UnequalBuffers, BadStationNumber, BadHeight, ShortBuffer, BadStride}
use Rattle.cuvalimodo_c.specs.Answers.{returned_by}

pub refusal-read : {A : Type 0} (r : Refusal) (place : ℕ) (a : A) → returned_by (number_of r) place a ≡ refused (number_of r) place
refusal-read BadLine place a = refl
refusal-read Malformed place a = refl
refusal-read OutOfRange place a = refl
refusal-read BadName place a = refl
refusal-read Missing place a = refl
refusal-read TooMany place a = refl
refusal-read Ended place a = refl
refusal-read BadDate place a = refl
refusal-read BadMinutes place a = refl
refusal-read TooManyTurns place a = refl
refusal-read TooLarge place a = refl
refusal-read NoTable place a = refl
refusal-read NoStation place a = refl
refusal-read NoMonth place a = refl
refusal-read UnequalBuffers place a = refl
refusal-read BadStationNumber place a = refl
refusal-read BadHeight place a = refl
refusal-read ShortBuffer place a = refl
refusal-read BadStride place a = refl
