-- What the table's struct has of its document's table: frequencies in range.
-- Rests on the laws of rows. Assumes nothing.
use mathlib.Core.Path.{◌≡◌, refl, sym, ap, ◌∙◌}
use Prim.Native.Nat.{ℕ, ◌+◌, ◌≤◌}
use mathlib.Core.List.{List, []}
use native.Mathlib.Omega.{arith}
use native.Mathlib.Nat.{zero-add}
use mathlib.Core.Bool.{Bool, true, false}
use lib.Dec.{ltb}
use borrow.Author.Tests.{ltb-true, ltb-false}
use lib.ListN.{length, get_or, get_or-eq_default}
use Rattle.table.specs.Table as document
use Rattle.table.specs.Table.{Frequency, no_cards}
use Rattle.table.specs.inner.View.{table_of, listed, frequency_of}
use Rattle.table.specs.declared.Table.{Table}
use Rattle.table.proofs.Rows.{listed-length, listed_at}
use Rattle.month_prepared.specs.inner.Rows.{InRange}
use Rattle.calls.proofs.settings.Tables.{frequencies-count}

-- a table of no cards has none
pub none-in-range : (t : Table) → table_of t ≡ no_cards → InRange t.frequencies t.speeds
unfolding no_cards
none-in-range t e k h =
    let n : t.frequencies ≡ 0 = sym (frequencies-count t) ∙ ap (λ (d : document.Table). length d.frequencies) e in
    absurd (omega arith)

-- where the document's frequencies are in range, so are the struct's numbers
pub in-range : (t : Table) → ((none : Frequency) → none.frequency ≡ 0 → (k : ℕ) → (get_or (table_of t).frequencies k none).frequency ≤ 4_999_999_999)
    → InRange t.frequencies t.speeds
unfolding table_of frequency_of
in-range t within k h =
    let none : Frequency = record { name = []; frequency = 0 } in
    let at : get_or (table_of t).frequencies k none ≡ frequency_of t.names t.speeds (0 + k) = listed_at (frequency_of t.names t.speeds) 0 t.frequencies k none h in
    rw (at, zero-add k) at (within none refl k)

-- and the other way: where the struct's numbers are in range, so are the document's frequencies
pub frequencies-within : (t : Table) → InRange t.frequencies t.speeds
    → (none : Frequency) → none.frequency ≡ 0 → (k : ℕ) → (get_or (table_of t).frequencies k none).frequency ≤ 4_999_999_999
unfolding table_of frequency_of
frequencies-within t within none z k = by (ltb k t.frequencies) refl
  where
    all : List Frequency
    all = listed (frequency_of t.names t.speeds) 0 t.frequencies

    by : (there : Bool) → ltb k t.frequencies ≡ there → (get_or all k none).frequency ≤ 4_999_999_999
    by true e =
        let h = ltb-true k t.frequencies e in
        rw (listed_at (frequency_of t.names t.speeds) 0 t.frequencies k none h, zero-add k) (within k h)
    by false e =
        let h = ltb-false k t.frequencies e in
        let past : length all ≤ k = omega (arith, listed-length (frequency_of t.names t.speeds) 0 t.frequencies) in
        rw (get_or-eq_default all none {n = k} past, z) (omega arith)
