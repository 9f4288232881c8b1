-- 01, The card file: "A number is blanks, perhaps a minus, digits, blanks. F fields need one point, at least one digit, and no more
-- decimals than their format." Here what stands behind the sign.
use Rattle.std.specs.Prelude.{ℕ, ◌+◌, ◌*◌, ◌-◌, List, [], ◌∷◌, ◌++◌, Bool, false, ◌&&◌, leb, ltb, eqb, length, drop, replicate}
use Rattle.columns.specs.Bytes.{among, blank, every, leading, behind}

-- the digits are bytes 48 to 57
abbrev pub digit : ℕ → Bool
digit = among 48 57

-- the row begins with the byte
unfoldable pub begins : ℕ → List ℕ → Bool
begins byte [] = false
begins byte (b ∷ bs) = eqb b byte

-- the number that digits write behind a number v
unfoldable pub numeral : ℕ → List ℕ → ℕ
numeral v [] = v
numeral v (d ∷ ds) = numeral (10 * v + (d - 48)) ds

-- an I field behind its sign: "digits, blanks", with at least one digit
unfoldable pub whole_good : List ℕ → Bool
whole_good bs = ltb 0 (length (leading digit bs)) && every blank (behind digit bs)

unfoldable pub whole_size : List ℕ → ℕ
whole_size bs = numeral 0 (leading digit bs)

-- an F field behind its sign: digits, a point (byte 46), decimals, blanks
abbrev pub behind_point : List ℕ → List ℕ
behind_point bs = drop 1 (behind digit bs)

abbrev pub decimals_of : List ℕ → List ℕ
decimals_of bs = leading digit (behind_point bs)

-- "F fields need one point, at least one digit, and no more decimals than their format."
unfoldable pub fixed_good : ℕ → List ℕ → Bool
fixed_good decimals bs =
    begins 46 (behind digit bs)
    && ltb 0 (length (leading digit bs ++ decimals_of bs))
    && leb (length (decimals_of bs)) decimals
    && every blank (behind digit (behind_point bs))

-- its digits, with zeros (byte 48) for the decimals of the format that it leaves out
unfoldable pub fixed_size : ℕ → List ℕ → ℕ
fixed_size decimals bs = numeral 0 (leading digit bs ++ (decimals_of bs ++ replicate (decimals - length (decimals_of bs)) 48))
