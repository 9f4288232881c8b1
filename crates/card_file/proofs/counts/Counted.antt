-- What a card file's check counts are the lengths of its table's lists. Rests on the laws of rows. Assumes nothing.
use mathlib.Core.Path.{◌≡◌}
use Prim.Native.Nat.{ℕ}
use lib.ListN.{length}
use Rattle.refusals.specs.Outcome.{accepted}
use Rattle.table.specs.inner.View.{table_of, frequency_of, main_of, shallow_of}
use Rattle.table.specs.declared.Table.{Table}
use Rattle.table.proofs.Rows.{listed-length}
use Rattle.card_mains.specs.Mains.{satellites_in}
use Rattle.card_file.specs.Counts.{counts_of}
use Rattle.card_file.specs.declared.counts.Counts.{Counts}

frequencies-count : (t : Table) → length (table_of t).frequencies ≡ t.frequencies
unfolding table_of
frequencies-count t = listed-length (frequency_of t.names t.speeds) 0 t.frequencies

mains-count : (t : Table) → length (table_of t).mains ≡ t.mains
unfolding table_of
mains-count t = listed-length (main_of t.maincards t.mainangles t.satelliteangles t.satelliteratios) 0 t.mains

shallows-count : (t : Table) → length (table_of t).shallows ≡ t.shallows
unfolding table_of
shallows-count t = listed-length (shallow_of t.shallowcards t.coefficients) 0 t.shallows

pub counts-accepted : (t : Table) (total : ℕ) → total ≡ satellites_in (table_of t).mains
    → ◌≡◌ {A = Counts} (record { number = 0; line = 0; frequencies = t.frequencies; mains = t.mains; satellites = total; shallows = t.shallows }) (counts_of (accepted (table_of t)))
counts-accepted t total e = rw (e, frequencies-count t, mains-count t, shallows-count t)
