-- The row of a text that has the words of each thing, in the order in which they are declared. Assumes nothing.
use Rattle.std.specs.Prelude.{ℕ}
use Rattle.card.specs.declared.faults.What.{What}
use Rattle.card.specs.declared.faults.What.TheVariants as what
use Rattle.card.specs.declared.faults.Trouble.{Trouble}
use Rattle.card.specs.declared.faults.Trouble.TheVariants as trouble
use Rattle.commandline.specs.declared.Wrong.{Wrong}
use Rattle.commandline.specs.declared.Wrong.TheVariants as wrong

-- what is at fault
abbrev pub what_row : What → ℕ
what_row what.File = 0
what_row what.Card = 1
what_row what.Name = 2
what_row what.Frequency = 3
what_row what.Longitude = 4
what_row what.Increase = 5
what_row what.Doodson = 6
what_row what.Phase = 7
what_row what.SatelliteCount = 8
what_row what.Difference = 9
what_row what.SatellitePhase = 10
what_row what.Ratio = 11
what_row what.PartCount = 12
what_row what.Coefficient = 13
what_row what.PartName = 14
what_row what.Degrees = 15
what_row what.Minutes = 16
what_row what.Mark = 17
what_row what.Latitude = 18
what_row what.Amplitude = 19
what_row what.PhaseLag = 20

-- what is wrong with it
abbrev pub trouble_row : Trouble → ℕ
trouble_row trouble.TooLong = 0
trouble_row trouble.BadByte = 1
trouble_row trouble.Malformed = 2
trouble_row trouble.OutOfRange = 3
trouble_row trouble.NotWhole = 4
trouble_row trouble.PastTwelve = 5
trouble_row trouble.BadMark = 6
trouble_row trouble.SouthTwice = 7
trouble_row trouble.Blank = 8
trouble_row trouble.Twice = 9
trouble_row trouble.NoFrequency = 10
trouble_row trouble.NoDefinition = 11
trouble_row trouble.NotMain = 12
trouble_row trouble.TooManyFrequencies = 13
trouble_row trouble.TooManyMains = 14
trouble_row trouble.TooManySatellites = 15
trouble_row trouble.TooManyShallows = 16
trouble_row trouble.TooManyRecords = 17
trouble_row trouble.EndedInFrequencies = 18
trouble_row trouble.EndedInLongitudes = 19
trouble_row trouble.EndedInMains = 20
trouble_row trouble.EndedInShallows = 21
trouble_row trouble.NoStationCard = 22

-- a word of the command line that cannot be followed
abbrev pub wrong_row : Wrong → ℕ
wrong_row wrong.NoCommand = 0
wrong_row wrong.NoOption = 1
wrong_row wrong.NoValue = 2
wrong_row wrong.TooFew = 3
wrong_row wrong.TooMany = 4
wrong_row wrong.NotNumber = 5
wrong_row wrong.NotTime = 6
wrong_row wrong.NotDay = 7
wrong_row wrong.NotLengths = 8
