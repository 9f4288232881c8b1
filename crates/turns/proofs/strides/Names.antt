-- An amplitude by name, from the row of names. Rests on the law of the table's names.
use mathlib.Core.Path.{◌≡◌, ap}
use Prim.Native.Nat.{ℕ}
use mathlib.Core.List.{List}
use Rattle.columns.specs.Names.{names_from, place_of}
use Rattle.table.specs.inner.View.{table_of}
use Rattle.table.specs.declared.Table as code
use Rattle.station.specs.Station.{Station}
use Rattle.table.proofs.Names.{names-of}
use Rattle.turns.specs.Strides.{amplitude_found, amplitude_of}

pub amplitude-by : (t : code.Table) (s : Station) (name : List ℕ) → amplitude_of (table_of t) s name ≡ amplitude_found s.records (place_of name (names_from t.names 0 t.frequencies))
unfolding amplitude_of table_of
amplitude-by t s name = ap (λ (ns : List (List ℕ)). amplitude_found s.records (place_of name ns)) (names-of t.names t.speeds 0 t.frequencies)
