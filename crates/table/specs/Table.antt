-- 01, The card file: what an accepted card file gives, in the units of its cards.
-- Frequencies and longitudes are in 10^-10 cycle, phases in hundredths of a cycle, ratios in ten-thousandths.
use Rattle.std.specs.Prelude.{ℕ, List, [], cond, eqb, replicate, ℤ}

-- part 1: a name, "five columns", and its frequency, "cycles an hour"; a place is its position, from 0
pub record Frequency : Type 0 where
  pub name : List ℕ
  pub frequency : ℕ

-- "Mark 1 is diurnal, 2 semidiurnal, any other byte none."
pub data Mark : Type 0 where
  unmarked : Mark
  diurnal : Mark
  semidiurnal : Mark

-- the mark that a card's byte makes (the digits 1 and 2 are the bytes 49 and 50)
unfoldable pub mark_of : ℕ → Mark
mark_of byte = cond (eqb byte 49) diurnal (cond (eqb byte 50) semidiurnal unmarked)

-- part 3: "three differences; phase; ratio; latitude mark"
pub record Satellite : Type 0 where
  pub differences : List ℤ
  pub phase : ℤ
  pub ratio : ℕ
  pub mark : Mark

-- part 3: a main constituent: the place of its frequency, "six Doodson numbers; phase", and its satellites
pub record Main : Type 0 where
  pub place : ℕ
  pub doodson : List ℤ
  pub phase : ℤ
  pub satellites : List Satellite

-- part 4: "a whole coefficient and a main constituent", the latter by its position in part 3, from 0
pub record Part : Type 0 where
  pub coefficient : ℤ
  pub main : ℕ

-- part 4: a shallow-water constituent: the place of its frequency, and "1 to 4 parts"
pub record Shallow : Type 0 where
  pub place : ℕ
  pub parts : List Part

-- the five longitudes of part 2, and "their increase in 365 days", in the order s, h, p, N', p'
pub record Table : Type 0 where
  pub frequencies : List Frequency
  pub longitudes : List ℕ
  pub increases : List ℕ
  pub mains : List Main
  pub shallows : List Shallow

-- a table with no entry, before the first card
unfoldable pub no_cards : Table
no_cards = record { frequencies = []; longitudes = replicate 5 0; increases = replicate 5 0; mains = []; shallows = [] }
