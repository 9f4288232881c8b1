-- 01, "Turned down by the input": what is wrong with a refused card, and the number that it earns.
use Rattle.std.specs.Prelude.{ℕ, List, cond, ltb, length, None}
use Rattle.limits.specs.Limits.{most_columns}
use Rattle.refusals.specs.Outcome.{number_of}
use Rattle.refusals.specs.declared.Refusal.{Refusal}
use Rattle.refusals.specs.declared.Refusal.TheVariants as refusal
use Rattle.refusals.specs.declared.Refusal.TheVariants.{BadLine, BadName, Missing, TooMany, Ended}
use Rattle.fields.specs.declared.FieldError.{FieldError}
use Rattle.fields.specs.declared.FieldError.TheVariants as field
use Rattle.card.specs.declared.faults.What.{What}
use Rattle.card.specs.declared.faults.What.TheVariants.{Card}
use Rattle.card.specs.declared.faults.Trouble.{Trouble}
use Rattle.card.specs.declared.faults.Trouble.TheVariants.{TooLong, BadByte, Malformed, OutOfRange, NotWhole, PastTwelve, BadMark, SouthTwice, Blank, Twice, NoFrequency, NoDefinition, NotMain, TooManyFrequencies, TooManyMains, TooManySatellites, TooManyShallows, TooManyRecords, EndedInFrequencies, EndedInLongitudes, EndedInMains, EndedInShallows, NoStationCard}
use Rattle.card.specs.declared.faults.Fault.{Fault}

-- "2 malformed number", "3 number outside its stated range": what is wrong with the number in a field
abbrev pub trouble_in : FieldError → Trouble
trouble_in field.Malformed = Malformed
trouble_in field.OutOfRange = OutOfRange

-- the row of 01's table that each trouble falls under
abbrev pub refusal_for : Trouble → Refusal
-- "1 line over 80 columns or a byte outside 32 to 126"
refusal_for TooLong = BadLine
refusal_for BadByte = BadLine
-- "2 malformed number"
refusal_for Malformed = refusal.Malformed
-- "3 number outside its stated range, coefficient not whole, or the one that takes the sizes past 12"
refusal_for OutOfRange = refusal.OutOfRange
refusal_for NotWhole = refusal.OutOfRange
refusal_for PastTwelve = refusal.OutOfRange
refusal_for BadMark = refusal.OutOfRange
refusal_for SouthTwice = refusal.OutOfRange
-- "4 a constituent's own name blank, or twice in part 1, or twice in parts 3 and 4 together"
refusal_for Blank = BadName
refusal_for Twice = BadName
-- "5 definition without frequency, part not a main, frequency without definition"
refusal_for NoFrequency = Missing
refusal_for NoDefinition = Missing
refusal_for NotMain = Missing
-- "6 more frequencies, mains, satellites in all, shallow entries or records than stated"
refusal_for TooManyFrequencies = TooMany
refusal_for TooManyMains = TooMany
refusal_for TooManySatellites = TooMany
refusal_for TooManyShallows = TooMany
refusal_for TooManyRecords = TooMany
-- "7 file ends inside a part"
refusal_for EndedInFrequencies = Ended
refusal_for EndedInLongitudes = Ended
refusal_for EndedInMains = Ended
refusal_for EndedInShallows = Ended
refusal_for NoStationCard = Ended

-- the number of a fault's refusal
abbrev pub fault_number : Fault → ℕ
fault_number fault = number_of (refusal_for fault.trouble)

-- a fault of a thing of which there is one only
abbrev pub only : What → Trouble → Fault
only what trouble = record { what = what; which = None; trouble = trouble }

-- a line that is not good: which of 1's two it is
unfoldable pub bad_line : List ℕ → Fault
bad_line line = only Card (cond (ltb most_columns (length line)) TooLong BadByte)
