-- The months that are done while a year is prepared: one more, all twelve, or the first that is refused. Each month's row is what was put
-- (`Put`), and one row of lags and frequencies serves every month (`Recorded`).
use mathlib.Core.Path.{◌≡◌, refl, sym, ap, ◌∙◌}
use mathlib.Core.Bool.{Bool, true, false}
use mathlib.Core.List.{List}
use Prim.Native.Nat.{ℕ, ◌+◌, ◌*◌, ◌≤◌, ◌<◌}
use native.Mathlib.Omega.{arith}
use native.Mathlib.Nat.{zero-add}
use borrow.Author.Tests.{ltb-true, ltb-false, le-leb}
use lib.Dec.{ltb}
use lib.IntN.{ℤ}
use lib.Seq.{paste}
use Rattle.limits.specs.Limits.{most_records}
use Rattle.std.specs.Prelude.{Ok, Err}
use Rattle.refusals.specs.Outcome.{accepted, refused, number_of}
use Rattle.refusals.specs.declared.Refused.{Refused}
use Rattle.calendar.specs.Calendar.{between, in_range, year_in_range, months_a_year}
use Rattle.table.specs.declared.Table.{Table}
use Rattle.table.specs.inner.View.{table_of}
use Rattle.station.specs.declared.Station.{Station}
use Rattle.station.specs.inner.Station.{station_of}
use Rattle.month_prepared.specs.Prepared.{Constituent}
use Rattle.month_prepared.specs.declared.Month.{Month}
use Rattle.month_prepared.specs.inner.View.{constituents_from, constituents_of}
use Rattle.month_prepared.specs.inner.Rows.{row_at, months_after}
use Rattle.month.specs.Month.{month_of}
use Rattle.year.specs.inner.Rows.{RowInto, TwelveRows, PreparedPost, held_by}
use Rattle.year.proofs.Put.{put-length, row_put, row-stands}
use Rattle.year.proofs.Recorded.{AreFrequencies, month-frequencies, month-constituents, frequencies-in-range}
use Rattle.year.proofs.Twelve.{months-ready, months-refused}

a-month : (m : ℕ) → m < months_a_year → between 1 12 (m + 1) ≡ true
unfolding between
a-month m h = rw (le-leb 1 (m + 1) (omega arith), le-leb (m + 1) 12 (omega arith))

-- a month of a year in range
pub month-in-range : (year m : ℕ) → year_in_range year ≡ true → m < months_a_year → in_range year (m + 1) ≡ true
unfolding in_range
month-in-range year m e h = rw (e, a-month m h)

module _ (t : Table) (s : Station) (year : ℕ) where
  -- the first m months stand in their rows, and the frequencies, where there is a month, are the records'
  pub record Done (m : ℕ) (fs vs : List ℕ) (ps qs : List ℤ) : Type 0 where
    pub most : m ≤ months_a_year
    pub rows : TwelveRows vs ps qs
    pub frequencies : 0 < m → AreFrequencies t s fs
    pub ready : (j : ℕ) → j < m → (gs : List ℕ) → AreFrequencies t s gs
        → month_of (table_of t) (station_of s) year (j + 1) ≡ accepted (constituents_from (row_at j vs) s.lags gs (row_at j ps) (row_at j qs) (held_by s))

  module _ (m : ℕ) (fs vs : List ℕ) (ps qs : List ℤ) (done : Done m fs vs ps qs) (h : m < months_a_year) where
    module _ (month : Month) (ready : month_of (table_of t) (station_of s) year (m + 1) ≡ accepted (constituents_of month)) (arguments : RowInto month.arguments m vs) (cosines : RowInto month.ps m ps) (sines : RowInto month.qs m qs) where
      abbrev vs' : List ℕ
      vs' = paste vs (m * most_records) month.arguments most_records

      abbrev ps' : List ℤ
      ps' = paste ps (m * most_records) month.ps most_records

      abbrev qs' : List ℤ
      qs' = paste qs (m * most_records) month.qs most_records

      pub one_more : Done (m + 1) month.frequencies vs' ps' qs'
      one_more =
          record {
            most = omega arith;
            rows = record { arguments = put-length month.arguments m vs arguments; cosines = put-length month.ps m ps cosines; sines = put-length month.qs m qs sines };
            frequencies = λ _. month-frequencies t s year (m + 1) month ready;
            ready = λ j l gs are. by j l gs are (ltb j m) refl;
          }
        where
          by : (j : ℕ) → j < m + 1 → (gs : List ℕ) → AreFrequencies t s gs → (before : Bool) → ltb j m ≡ before
              → month_of (table_of t) (station_of s) year (j + 1) ≡ accepted (constituents_from (row_at j vs') s.lags gs (row_at j ps') (row_at j qs') (held_by s))
          by j l gs are true b =
              let k = ltb-true j m b in
              rw (row-stands month.arguments m vs arguments j k, row-stands month.ps m ps cosines j k, row-stands month.qs m qs sines j k) (done.ready j k gs are)
          by j l gs are false b =
              let k = ltb-false j m b in
              let same : j ≡ m = omega arith in
              rw (same, row_put month.arguments m vs arguments, row_put month.ps m ps cosines, row_put month.qs m qs sines) (month-constituents t s year (m + 1) month ready gs are)

    pub refused-at : (e : Refused) → month_of (table_of t) (station_of s) year (m + 1) ≡ refused (number_of e.refusal) e.place → PreparedPost t s year fs vs ps qs (Err e)
    refused-at e is-refused =
        record {
          rows = done.rows;
          prepares = λ months is. sym (months-refused (table_of t) (station_of s) year (number_of e.refusal) e.place held 0 m months_a_year (λ j l. done.ready j (omega arith) fs (done.frequencies (omega arith))) (rw (zero-add m) is-refused) h);
          within = λ range. tt;
        }
      where
        held : ℕ → List Constituent
        held j = constituents_from (row_at j vs) s.lags fs (row_at j ps) (row_at j qs) (held_by s)

  pub all_done : (fs vs : List ℕ) (ps qs : List ℤ) → Done months_a_year fs vs ps qs → PreparedPost t s year fs vs ps qs (Ok tt)
  all_done fs vs ps qs done =
      let are = done.frequencies (omega arith) in
      record {
        rows = done.rows;
        prepares = λ months is. ap (λ (n : ℕ). accepted (months_after vs s.lags fs ps qs months 0 n)) is.twelve ∙ sym (months-ready (table_of t) (station_of s) year vs s.lags fs ps qs months (λ m h. rw is.constituents (done.ready m h fs are)) is.lasts 0 months_a_year (omega arith));
        within = λ range. frequencies-in-range t s range fs are;
      }
