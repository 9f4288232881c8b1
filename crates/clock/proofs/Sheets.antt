-- A year's sheet, from what the year's preparation, the search and the series promise: refused by 11, 9 or 10, or written. By the cases of the
-- preparation and of the search (`YearSheet` in calls). Assumes nothing.
use mathlib.Core.Path.{◌≡◌, sym, ap, ◌∙◌}
use Prim.Native.Nat.{ℕ, ◌≤◌, ◌<◌}
use mathlib.Core.Bool.{true, false}
use mathlib.Core.List.{List}
use lib.IntN.{ℤ}
use lib.ListN.{length}
use Rattle.limits.specs.Limits.{most_stride}
use Rattle.std.specs.Prelude.{Result, Ok, Err}
use Rattle.refusals.specs.Outcome.{Outcome, accepted, refused, number_of}
use Rattle.refusals.specs.declared.Refused.{Refused}
use Rattle.calendar.specs.Calendar.{year_in_range}
use Rattle.table.specs.declared.Table.{Table}
use Rattle.table.specs.inner.View.{table_of}
use Rattle.station.specs.declared.Station.{Station}
use Rattle.station.specs.inner.Station.{station_of}
use Rattle.month_prepared.specs.Prepared.{Month}
use Rattle.month_prepared.specs.declared.months.Months.{Months}
use Rattle.month_prepared.specs.inner.Rows.{last_of, months_in}
use Rattle.year.specs.Year.{year_of}
use Rattle.year.specs.inner.Rows.{YearMonths, PreparedPost, held_by}
use Rattle.heights.specs.Height.{height_over}
use Rattle.heights.specs.Series.{series_of}
use Rattle.turns.specs.Slope.{slope_over}
use Rattle.turns.specs.Search.{turns_of}
use Rattle.turns.specs.Strides.{station_stride}
use Rattle.turns.specs.Written.{TurnsFound, TurnsGiven, given}
use Rattle.turns.specs.declared.search.Summary.{Summary}
use Rattle.turns.specs.inner.Answers.{given_of}
use Rattle.calls.specs.Year.{sheet_outside, beside}
use Rattle.calls.specs.declared.annual.Sheet.{Sheet}
use Rattle.calls.proofs.asked.Passed.{sheet-within}
use Rattle.calls.proofs.YearSheet.{sheet-too-large, sheet-outside, sheet-given}
use Rattle.clock.specs.inner.Posts.{SheetPost, SheetWithin, WrittenPost}

-- ---- 10, or the turns and the series

module _ (months : List Month) (stride : ℕ) (sheet : Sheet) (series : List ℤ) (minutes : List ℕ) (heights : List ℤ) where
  abbrev new : List ℤ
  new = series_of (height_over months) sheet.start sheet.step (length series)

  abbrev Gives : Result Summary Refused → List ℕ → List ℤ → Type 0
  Gives found minutes_left heights_left = given_of found minutes_left heights_left ≡ given (height_over months) (turns_of (slope_over months) stride sheet.first sheet.last) minutes heights

  pub too_many_lem : (e : Refused) (minutes_left : List ℕ) (heights_left : List ℤ) → Gives (Err e) minutes_left heights_left
      → WrittenPost months stride sheet series series minutes minutes_left heights heights_left (refused (number_of e.refusal) e.place)
  too_many_lem e minutes_left heights_left gives = record { gives = ap (λ (t : TurnsGiven). beside t new series) gives }

  pub turns-found : (s : Summary) (minutes_left : List ℕ) (heights_left : List ℤ) → Gives (Ok s) minutes_left heights_left → {left : List ℤ} → left ≡ new
      → WrittenPost months stride sheet series left minutes minutes_left heights heights_left (accepted (record { count = s.count; high = s.high }))
  turns-found s minutes_left heights_left gives same = record { gives = rw same (ap (λ (t : TurnsGiven). beside t new series) gives) }

-- ---- 11 and 9, or the sheet of the months' rows

module _ (table : Table) (station : Station) (sheet : Sheet) (inside : year_in_range sheet.year ≡ true) (months : Months) (is : YearMonths sheet.year (held_by station) months) where
  pub sheet-inside : (places : ℕ) → sheet_outside sheet places ≡ false → (stride : ℕ) → (0 < stride) × (stride ≤ most_stride) → SheetWithin (last_of months) stride sheet places
  sheet-inside places e stride strides =
      let w = sheet-within sheet places e in
      rw is.last (record { series = w.0; search = record { some = strides.0; short = strides.1; order = w.2; within = w.1 } })

  module _ (fs vs : List ℕ) (ps qs : List ℤ) (series : List ℤ) (minutes : List ℕ) (heights : List ℤ) where
    abbrev in_rows : List Month
    in_rows = months_in vs station.lags fs ps qs months

    pub sheet-refused : (e : Refused) → PreparedPost table station sheet.year fs vs ps qs (Err e)
        → SheetPost table station sheet series series minutes minutes heights heights (refused (number_of e.refusal) e.place)
    sheet-refused e post =
        record { gives = λ month. sheet-too-large sheet series minutes heights (table_of table) (station_of station) month inside (number_of e.refusal) e.place (sym (post.prepares months is.is)) }

    module _ (post : PreparedPost table station sheet.year fs vs ps qs (Ok tt)) where
      abbrev prepared : year_of (table_of table) (station_of station) sheet.year ≡ accepted in_rows
      prepared = sym (post.prepares months is.is)

      pub minutes-refused : sheet_outside sheet (length series) ≡ true → SheetPost table station sheet series series minutes minutes heights heights (refused 9 0)
      minutes-refused e = record { gives = λ month. sheet-outside sheet series minutes heights (table_of table) (station_of station) month inside in_rows prepared e }

      pub sheet-written : sheet_outside sheet (length series) ≡ false → {series_left : List ℤ} {minutes_left : List ℕ} {heights_left : List ℤ} {returned : Outcome TurnsFound}
          → (stride : ℕ) → stride ≡ station_stride (table_of table) (station_of station)
          → WrittenPost in_rows stride sheet series series_left minutes minutes_left heights heights_left returned
          → SheetPost table station sheet series series_left minutes minutes_left heights heights_left returned
      sheet-written e stride same written =
          record { gives = λ month. (rw same at written.gives) ∙ sheet-given sheet series minutes heights (table_of table) (station_of station) month inside in_rows prepared e }
