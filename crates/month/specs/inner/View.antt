-- Only inner contracts cite this: the month that the code answers with, and the lists that rows of the code's table stand for.
use Rattle.std.specs.Prelude.{ℕ, List, Result, Ok, Err, get_or}
use Rattle.refusals.specs.Outcome.{Outcome, accepted, refused, number_of}
use Rattle.refusals.specs.declared.Refused.{Refused}
use Rattle.month_prepared.specs.Prepared.{Constituent}
use Rattle.month_prepared.specs.inner.View.{constituents_from, constituents_of}
use Rattle.month_prepared.specs.declared.Month.{Month}
use Rattle.table.specs.inner.View.{listed}
use Rattle.table.specs.declared.Table as table
use Rattle.station.specs.declared.records.Record.{Record}
use Rattle.month_arguments.specs.Longitudes.{Longitudes}
use Rattle.month_satellites.specs.Latitude.{Factors}
use Rattle.month_workings.specs.inner.View.{mains_of, shallows_of}
use Rattle.month.specs.Month.{records_prepared}

-- "A refusal returns its number and a place"
abbrev pub prepared_of : Result Month Refused → Outcome (List Constituent)
prepared_of (Ok m) = accepted (constituents_of m)
prepared_of (Err e) = refused (number_of e.refusal) e.place

-- the constituents at the first n places of a month
abbrev pub held_upto : Month → ℕ → List Constituent
held_upto m n = constituents_from m.arguments m.lags m.frequencies m.ps m.qs n

-- ---- rows of the table

abbrev pub frequencies_of : List ℕ → ℕ → List ℕ
frequencies_of speeds n = listed (λ k. get_or speeds k 0) 0 n

-- the records from number k on, with the table of a struct
abbrev pub rows_prepared : table.Table → Factors → Longitudes → ℕ → List Record → Outcome (List Constituent)
rows_prepared t = records_prepared (frequencies_of t.speeds t.frequencies) (mains_of t.maincards t.mainangles t.satelliteangles t.satelliteratios t.mains) (shallows_of t.shallowcards t.coefficients t.shallows)
