-- The machine's value of a clock that has nothing but zeros in it stands for `zeroed` (specs/Zeroed.antt): field by field, an array by
-- induction on its length. Assumes nothing.
use Prim.Native.Nat.{ℕ, zero, suc, ◌*◌, ◌^◌}
use mathlib.Core.Bool.{false}
use mathlib.Core.List.{List, [], ◌∷◌, map}
use mathlib.Core.Path.{◌≡◌, refl, ◌∙◌}
use lib.Dec.{T, ltb, ltb→lt, lit<}
use lib.IntN.{ℤ, pos}
use lib.ListN.{replicate, length-map, length-replicate}
use mir.Syntax.{Width, w8, w16, w32, w64}
use mir.Val.{Val, vbool, vint, bits}
use denote.Array.{Array, each, array_val}
use denote.Laws.{Is}
use denote.Plain.{UInt}
use denote.Signed.{SInt}
use denote.RattleType.{RattleType}
use denote.Shadow.{shadow}
use Rattle.limits.specs.Limits.{most_frequencies, most_mains, most_satellites, most_shallows, most_records}
use Rattle.cosine.specs.Fixed.{entries}
use Rattle.table.specs.contracts.Table as TableType
use Rattle.station.specs.contracts.Station as StationType
use Rattle.station.proofs.Station.TheLaws as StationLaws
use Rattle.station.specs.contracts.strides.Strides as StridesType
use Rattle.station.proofs.strides.Strides.TheLaws as StridesLaws
use Rattle.table.proofs.Table.TheLaws as TableLaws
use Rattle.claim.specs.Zeroed.{zeroed_table, zeroed_strides, zeroed_station, zeroed, zero_of, ZerosAreZeroed}

-- an array of one element that is written again and again
all_are : (R : RattleType) (x : R.Denot) (v : Val) → Is R x (v ∷ []) → (n : ℕ) → shadow (each R.Denot R.own_val (replicate n x) (replicate n v))
all_are R x v is zero = tt
all_are R x v is (suc n) = (is, all_are R x v is n)

array-is : (R : RattleType) (x : R.Denot) (v : Val) → Is R x (v ∷ []) → (n : ℕ) → Is (Array R n) (replicate n x) (array_val (replicate n v) ∷ [])
array-is R x v is n = (replicate n v, ((refl, length-replicate n x), all_are R x v is n))

-- the machine's values of a number 0 and of an array of zeros, each so wide
abbrev nought : Width → List Val
nought w = vint w 0 ∷ []

abbrev noughts : Width → ℕ → List Val
noughts w n = array_val (replicate n (vint w 0)) ∷ []

uints-are : (w : Width) → T (ltb 0 (2 ^ bits w)) → (n : ℕ) → Is (Array (UInt w) n) (replicate n 0) (noughts w n)
uints-are w h = array-is (UInt w) 0 (vint w 0) (refl, ltb→lt 0 (2 ^ bits w) h)

i8s-are : (n : ℕ) → Is (Array (SInt w8) n) (replicate n (pos 0)) (noughts w8 n)
i8s-are = array-is (SInt w8) (pos 0) (vint w8 0) (refl, lit< tt)

i32s-are : (n : ℕ) → Is (Array (SInt w32) n) (replicate n (pos 0)) (noughts w32 n)
i32s-are = array-is (SInt w32) (pos 0) (vint w32 0) (refl, lit< tt)

-- ---- a station, a table and a clock, field by field

strides-are : Is StridesType.the_row zeroed_strides (zero_of StridesLaws.mir ∷ [])
strides-are = ((nought w32, (nought w32, (nought w32, tt))), (refl, ((refl, lit< tt), ((refl, lit< tt), ((refl, lit< tt), tt)))))

station-is : Is StationType.the_row zeroed_station (zero_of StationLaws.mir ∷ [])
station-is = (
  (nought w32, (zero_of StridesLaws.mir ∷ [], (nought w64, (noughts w8 most_records, (noughts w16 most_records, (noughts w16 most_records, tt)))))),
  (refl, ((refl, lit< tt), (strides-are, ((refl, lit< tt), (uints-are w8 tt most_records, (uints-are w16 tt most_records, (uints-are w16 tt most_records, tt))))))),
)

table_is : Is TableType.the_row zeroed_table (zero_of TableLaws.mir ∷ [])
table_is = (
  (nought w64, (noughts w8 (5 * most_frequencies), (noughts w64 most_frequencies, (noughts w64 5, (noughts w64 5, (nought w64, (noughts w16 (3 * most_mains), (noughts w8 (7 * most_mains), (noughts w8 (4 * most_satellites), (noughts w32 (2 * most_satellites), (nought w64, (noughts w16 (6 * most_shallows), (noughts w8 (4 * most_shallows), tt))))))))))))),
  (refl, ((refl, lit< tt), (uints-are w8 tt (5 * most_frequencies), (uints-are w64 tt most_frequencies, (uints-are w64 tt 5, (uints-are w64 tt 5, ((refl, lit< tt), (uints-are w16 tt (3 * most_mains), (i8s-are (7 * most_mains), (i8s-are (4 * most_satellites), (uints-are w32 tt (2 * most_satellites), ((refl, lit< tt), (uints-are w16 tt (6 * most_shallows), (i8s-are (4 * most_shallows), tt)))))))))))))),
)

pub zeros-are-zeroed : ZerosAreZeroed
zeros-are-zeroed = (
  (noughts w32 entries, (vbool false ∷ [], (zero_of TableLaws.mir ∷ [], (vbool false ∷ [], (zero_of StationLaws.mir ∷ [], (vbool false ∷ [], (nought w32, (nought w32, (nought w64, (nought w64, (noughts w64 most_records, (noughts w16 most_records, (noughts w64 most_records, (noughts w32 most_records, (noughts w32 most_records, tt))))))))))))))),
  (refl, (uints-are w32 tt entries, (refl, (table_is, (refl, (station-is, (refl, ((refl, lit< tt), ((refl, lit< tt), ((refl, lit< tt), ((refl, lit< tt), (uints-are w64 tt most_records, (uints-are w16 tt most_records, (uints-are w64 tt most_records, (i32s-are most_records, (i32s-are most_records, tt)))))))))))))))),
)
