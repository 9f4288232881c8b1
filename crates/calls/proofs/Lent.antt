-- What the rows' records promise of a station holds of the records lent. At most 146 records are those of their rows;
-- of more, both are refused before a record is looked at, and nothing is left of them. Assumes nothing.
use Prim.{Unit}
use mathlib.Core.Path.{◌≡◌, refl, sym, ap, subst, ◌∙◌}
use Prim.Native.Nat.{ℕ}
use mathlib.Core.Bool.{Bool, true, false}
use mathlib.Core.List.{List}
use lib.ListN.{length}
use lib.Dec.{ltb}
use lib.IntN.{ℤ, pos, negsuc}
use lib.Signed.{lt_z}
use borrow.Author.Tests.{ltb-false}
use Rattle.limits.specs.Limits.{most_records}
use Rattle.refusals.specs.Outcome.{Outcome, refused, refuse_if, on_accepted, ◌>>=◌}
use Rattle.table.specs.Table.{Table}
use Rattle.station.specs.Station.{Station, station_lent, station_outcome}
use Rattle.station.specs.Strides.{strides_outside}
use Rattle.station.specs.declared.strides.Strides.{Strides}
use Rattle.station.specs.inner.Rows.{rows_of}
use Rattle.station.specs.Records.{records_of}
use Rattle.station.specs.declared.records.Record.{Record}
use Rattle.station.specs.declared.records.Rows.{Rows}
use Rattle.station.proofs.records.Copies.{records-length, lent_is}
use Rattle.calls.specs.State.{Maybe, none, some, State}
use Rattle.calls.specs.Asked.{table_asked}
use Rattle.calls.specs.Calls.{station_returns, station_leaves}

-- an outcome by which nothing new is left
abbrev Turned : Outcome Unit → Type 0
Turned o = (new : Unit → State) (old : State) → on_accepted o new old ≡ old

turned-if : (b : Bool) (number place : ℕ) (o : Outcome Unit) → Turned o → Turned (refuse_if b number place o)
turned-if true number place o h new old = refl
turned-if false number place o h new old = h new old

-- ---- more records than a station has

abbrev Crowd : List Record → Type 0
Crowd records = ltb most_records (length records) ≡ true

module _ (latitude : ℤ) (strides : Strides) where
  -- a station by its records
  abbrev with : List Record → Station
  with = station_lent latitude strides

  crowd-turned : (frequencies : ℕ) (records : List Record) → Crowd records → Turned (station_outcome frequencies (with records))
  unfolding station_outcome
  crowd-turned frequencies records many =
      rw many (turned-if (lt_z latitude (negsuc 5_399)) 3 0 _ (turned-if (lt_z (pos 5_400) latitude) 3 0 _ (turned-if (strides_outside strides) 35 0 (refused 6 147) (λ new old. refl))))

  crowds-agree : (frequencies : ℕ) (a b : List Record) → Crowd a → Crowd b → station_outcome frequencies (with a) ≡ station_outcome frequencies (with b)
  unfolding station_outcome
  crowds-agree frequencies a b many many' = rw (many, many') refl

  asked-agree : (t : Maybe Table) (a b : List Record) → Crowd a → Crowd b
      → (table_asked t >>= λ table. station_outcome (length table.frequencies) (with a)) ≡ (table_asked t >>= λ table. station_outcome (length table.frequencies) (with b))
  asked-agree none a b many many' = refl
  asked-agree (some table) a b many many' = crowds-agree (length table.frequencies) a b many many'

  asked-turned : (t : Maybe Table) (records : List Record) → Crowd records → (new : Unit → State) (old : State)
      → on_accepted (table_asked t >>= λ table. station_outcome (length table.frequencies) (with records)) new old ≡ old
  asked-turned none records many new old = refl
  asked-turned (some table) records many new old = crowd-turned (length table.frequencies) records many new old

  returns-agree : (k : State) (a b : List Record) → Crowd a → Crowd b → station_returns k (with a) ≡ station_returns k (with b)
  unfolding station_returns
  returns-agree k = asked-agree k.table

  leaves-same : (k : State) (records : List Record) → Crowd records → station_leaves k (with records) ≡ k
  unfolding station_returns station_leaves
  leaves-same k records many = asked-turned k.table records many _ k

  -- ---- the records lent

  module _ (k : State) (records : List Record) where
    -- the rows' records give and leave what those lent do
    abbrev Same : List Record → Type 0
    Same rs = (station_returns k (with rs) ≡ station_returns k (with records)) × (station_leaves k (with rs) ≡ station_leaves k (with records))

    crowd-same : (rs : List Record) → Crowd records → Crowd rs → Same rs
    crowd-same rs many many' = (returns-agree k rs records many' many, leaves-same k rs many' ∙ sym (leaves-same k records many))

    same_by : (b : Bool) → ltb most_records (length records) ≡ b → Same (records_of (rows_of records) (length records))
    same_by true e = crowd-same _ e (ap (ltb most_records) (records-length _ _ _ 0 (length records)) ∙ e)
    same_by false e = subst Same (sym (lent_is records (ltb-false most_records (length records) e))) (refl, refl)

    pub lent_same : (rows : Rows) → rows ≡ rows_of records → Same (records_of rows (length records))
    lent_same rows e = subst (λ (x : Rows). Same (records_of x (length records))) (sym e) (same_by (ltb most_records (length records)) refl)
