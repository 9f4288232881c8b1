-- The clock that memory of nothing but zeros holds: each number 0, each flag false. (proofs/Zeros.antt shows that the machine's value of a
-- clock's type that has nothing but zeros in it stands for this clock.)
-- Assumes nothing.
use Rattle.std.specs.Prelude.{ℕ, ◌*◌, false, List, [], ◌∷◌, replicate, ℤ, pos}
use mir.Syntax.{Ty, ty_int, ty_bool, ty_float, ty_ptr, ty_ref, ty_array, ty_unit, ty_struct, ty_enum, ty_named, ty_param, ty_const, ty_array_p, Tys, tnil, tcons}
use mir.Val.{Val, vunit, vbool, vint, vstruct, Vals, vnil, vcons, of_list}
use denote.Laws.{Is}
use Rattle.limits.specs.Limits.{most_frequencies, most_mains, most_satellites, most_shallows, most_records}
use Rattle.cosine.specs.Fixed.{entries}
use Rattle.table.specs.declared.Table.{Table}
use Rattle.station.specs.declared.Station.{Station}
use Rattle.station.specs.declared.strides.Strides.{Strides}
use Rattle.clock.specs.declared.Clock.{Clock}
use Rattle.clock.specs.contracts.Clock as ClockType
use Rattle.clock.proofs.Clock.TheLaws as ClockLaws

-- so many zeros, in an array
abbrev zeros : ℕ → List ℕ
zeros n = replicate n 0

abbrev signed_zeros : ℕ → List ℤ
signed_zeros n = replicate n (pos 0)

abbrev pub zeroed_table : Table
zeroed_table =
    record {
      frequencies = 0;
      names = zeros (5 * most_frequencies);
      speeds = zeros most_frequencies;
      longitudes = zeros 5;
      increases = zeros 5;
      mains = 0;
      maincards = zeros (3 * most_mains);
      mainangles = signed_zeros (7 * most_mains);
      satelliteangles = signed_zeros (4 * most_satellites);
      satelliteratios = zeros (2 * most_satellites);
      shallows = 0;
      shallowcards = zeros (6 * most_shallows);
      coefficients = signed_zeros (4 * most_shallows);
    }

abbrev pub zeroed_strides : Strides
zeroed_strides = record { semidiurnal = 0; mixed = 0; diurnal = 0 }

abbrev pub zeroed_station : Station
zeroed_station = record { latitude = pos 0; strides = zeroed_strides; count = 0; places = zeros most_records; amplitudes = zeros most_records; lags = zeros most_records }

abbrev pub zeroed : Clock
zeroed =
    record {
      cosines = zeros entries;
      tabled = false;
      table = zeroed_table;
      stationed = false;
      station = zeroed_station;
      dated = false;
      year = 0;
      month = 0;
      last = 0;
      count = 0;
      arguments = zeros most_records;
      lags = zeros most_records;
      frequencies = zeros most_records;
      ps = signed_zeros most_records;
      qs = signed_zeros most_records;
    }

-- the machine's value of a type, with nothing but zeros in it. (Inside a clock are numbers, flags, arrays and structs alone.)
abbrev mutual
  pub zero_of : Ty → Val
  zero_of (ty_int w) = vint w 0
  zero_of ty_bool = vbool false
  zero_of (ty_array τ n) = vstruct (of_list (replicate n (zero_of τ)))
  zero_of (ty_struct name τs) = vstruct (zeros_of τs)
  zero_of (ty_float f) = vunit
  zero_of ty_ptr = vunit
  zero_of (ty_ref a m τ) = vunit
  zero_of ty_unit = vunit
  zero_of (ty_enum name τss) = vunit
  zero_of (ty_named head arguments) = vunit
  zero_of (ty_param _) = vunit
  zero_of (ty_const _) = vunit
  zero_of (ty_array_p _ _) = vunit

  zeros_of : Tys → Vals
  zeros_of tnil = vnil
  zeros_of (tcons τ τs) = vcons (zero_of τ) (zeros_of τs)

-- that of a clock's type stands for `zeroed`
abbrev pub ZerosAreZeroed : Type 0
ZerosAreZeroed = Is ClockType.the_row zeroed (zero_of ClockLaws.mir ∷ [])
