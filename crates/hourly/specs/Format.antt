-- 02, No. 4: the columns of an hourly card, as its format statement lays them out. A card is written and read by this description alone.
-- Assumes nothing.
use Rattle.std.specs.Prelude.{ℕ, List, [], ◌∷◌, ◌++◌, replicate}

-- an item of a format statement: a number in so many columns, so many columns skipped, a height or a gap in so many columns
pub data Item : Type 0 where
  I : ℕ → Item
  X : ℕ → Item
  A : ℕ → Item

-- "twelve heights"
abbrev pub heights_a_card : ℕ
heights_a_card = 12

-- "(I1,1X,I5,7X,3I2,": what stands before the heights
abbrev pub heading_format : List Item
heading_format = I 1 ∷ X 1 ∷ I 5 ∷ X 7 ∷ I 2 ∷ I 2 ∷ I 2 ∷ []

-- "12A4)", with heights of a width
abbrev pub card_format : ℕ → List Item
card_format width = heading_format ++ replicate heights_a_card (A width)

-- "12A4"
abbrev pub narrow : ℕ
narrow = 4
