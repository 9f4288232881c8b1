-- What the definition of a number says of fields that stand at its edges, one statement over their list, by computing.
-- Assumes nothing.
use mathlib.Core.Path.{◌≡◌, refl}
use mathlib.Core.List.{[], ◌∷◌, map}
use lib.IntN.{pos, negsuc}
use Rattle.columns.specs.Bytes.{every, leading, behind}
use Rattle.fields.specs.Numerals.{begins, numeral, whole_good, whole_size, fixed_good, fixed_size}
use Rattle.fields.specs.Number.{numeric, malformed, unsigned, unblanked, contents_of}
use Rattle.fields.specs.declared.Format.TheVariants.{Whole, Fixed}

-- I3: " 12", "-9 ", " -1", "   ", " - ", "1 2", "- 1", "+12", "1.2"
wholes : map (contents_of Whole)
    ((32 ∷ 49 ∷ 50 ∷ []) ∷ (45 ∷ 57 ∷ 32 ∷ []) ∷ (32 ∷ 45 ∷ 49 ∷ []) ∷ (32 ∷ 32 ∷ 32 ∷ []) ∷ (32 ∷ 45 ∷ 32 ∷ []) ∷ (49 ∷ 32 ∷ 50 ∷ []) ∷ (45 ∷ 32 ∷ 49 ∷ []) ∷ (43 ∷ 49 ∷ 50 ∷ [])
    ∷ (49 ∷ 46 ∷ 50 ∷ []) ∷ [])
    ≡ numeric (pos 12) ∷ numeric (negsuc 8) ∷ numeric (negsuc 0) ∷ malformed ∷ malformed ∷ malformed ∷ malformed ∷ malformed ∷ malformed ∷ []
unfolding contents_of unblanked unsigned whole_good whole_size begins numeral every leading behind
wholes = refl

-- F4.2: " 1.5", "-0.0", " .25", "  5.", " -1.", "   .", " - .", "1..5", "12  ", ".125"
fixeds : map (contents_of (Fixed 2))
    ((32 ∷ 49 ∷ 46 ∷ 53 ∷ []) ∷ (45 ∷ 48 ∷ 46 ∷ 48 ∷ []) ∷ (32 ∷ 46 ∷ 50 ∷ 53 ∷ []) ∷ (32 ∷ 32 ∷ 53 ∷ 46 ∷ []) ∷ (32 ∷ 45 ∷ 49 ∷ 46 ∷ []) ∷ (32 ∷ 32 ∷ 32 ∷ 46 ∷ [])
    ∷ (32 ∷ 45 ∷ 32 ∷ 46 ∷ []) ∷ (49 ∷ 46 ∷ 46 ∷ 53 ∷ []) ∷ (49 ∷ 50 ∷ 32 ∷ 32 ∷ []) ∷ (46 ∷ 49 ∷ 50 ∷ 53 ∷ []) ∷ [])
    ≡ numeric (pos 150) ∷ numeric (pos 0) ∷ numeric (pos 25) ∷ numeric (pos 500) ∷ numeric (negsuc 99) ∷ malformed ∷ malformed ∷ malformed ∷ malformed ∷ malformed ∷ []
unfolding contents_of unblanked unsigned fixed_good fixed_size begins numeral every leading behind
fixeds = refl
