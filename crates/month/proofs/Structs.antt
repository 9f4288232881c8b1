-- The records of the code's station, by the rows of its table and what every main is worked out from: how they start, go on and end. From `Records` and the
-- mains' workings, over the fields of the structs.
use mathlib.Core.Path.{◌≡◌, ap, subst, ◌∙◌}
use mathlib.Core.List.{List, [], ◌∷◌, ◌++◌}
use Prim.Native.Nat.{ℕ, ◌+◌, ◌≤◌, ◌<◌, min}
use lib.IntN.{ℤ}
use lib.ListN.{length, get_or}
use Rattle.limits.specs.Limits.{most_records}
use Rattle.table.specs.Table.{Main, Shallow}
use Rattle.table.proofs.definitions.OfRows.{found_at}
use Rattle.table.specs.declared.Table.{Table}
use Rattle.std.specs.Prelude.{Option}
use Rattle.table.specs.declared.definitions.Defined.{Defined}
use Rattle.station.specs.Records.{records_from}
use Rattle.station.specs.inner.Station.{station_of}
use Rattle.station.specs.declared.Station.{Station}
use Rattle.month_prepared.specs.Prepared.{Constituent}
use Rattle.month_arguments.specs.Longitudes.{Longitudes, nodal}
use Rattle.month_arguments.specs.inner.Longitudes.{longitudes_of}
use Rattle.month_satellites.specs.Latitude.{Factors}
use Rattle.month_satellites.specs.inner.Factors.{factors_of}
use Rattle.month_satellites.specs.declared.satellites.Pair as code
use Rattle.std.specs.Prelude.{None, Some}
use Rattle.month_workings.specs.inner.Kept.{argument_at, corrected_at, none_kept}
use Rattle.month_workings.specs.inner.Given.{argument_by, corrected_by, KeptBy}
use Rattle.month_workings.specs.inner.View.{mains_of, shallows_of, Ready, FromMains, IsWorked}
use Rattle.month_workings.specs.declared.workings.Given.{Given}
use Rattle.month_workings.specs.declared.worked.Worked.{Worked}
use Rattle.month_workings.proofs.workings.None.{none_kept_lem}
use Rattle.month_workings.proofs.worked.OfRows.{worked-out}
use Rattle.month.specs.Month.{records_prepared, weight}
use Rattle.month.specs.inner.View.{frequencies_of, rows_prepared}
use Rattle.refusals.specs.Outcome as outcome
use Rattle.refusals.specs.Outcome.{Outcome}
use Rattle.month.proofs.Records.{before, left, all_done, none_done, refused-at, accepted-at}

module _ (t : Table) (s : Station) (given : Given) where
  abbrev fs : List ℕ
  fs = frequencies_of t.speeds t.frequencies

  abbrev ms : List Main
  ms = mains_of t.maincards t.mainangles t.satelliteangles t.satelliteratios t.mains

  abbrev ss : List Shallow
  ss = shallows_of t.shallowcards t.coefficients t.shallows

  abbrev g : Factors
  g = factors_of given.factors

  abbrev l : Longitudes
  l = longitudes_of given.longitudes

  -- the month of all records
  abbrev pub all : Outcome (List Constituent)
  all = rows_prepared t g l 1 (station_of s).records

  -- constituents that are done, before the records from k on, of n
  abbrev pub with_rest : List Constituent → ℕ → ℕ → Outcome (List Constituent)
  with_rest cs n k = before cs (left fs ms ss g l s.places s.amplitudes s.lags n k)

  pub starts : (n : ℕ) → n ≡ min s.count most_records → with_rest [] n 0 ≡ all
  unfolding station_of
  starts n e = none_done fs ms ss g l s.places s.amplitudes s.lags n ∙ ap (λ (m : ℕ). records_prepared fs ms ss g l 1 (records_from s.places s.amplitudes s.lags 0 m)) e

  pub ends : (cs : List Constituent) (n k : ℕ) → n ≤ k → with_rest cs n k ≡ all → outcome.accepted cs ≡ all
  ends cs n k h inv = subst (λ (p : Outcome (List Constituent)). p ≡ all) (all_done fs ms ss g l s.places s.amplitudes s.lags cs k n h) inv

  -- at the start no main is worked out
  pub none_yet : length t.mainangles ≡ 448 → length t.maincards ≡ 192 → KeptBy given t none_kept
  none_yet a b = none_kept_lem l t.mainangles g (nodal l) t.maincards t.satelliteangles t.satelliteratios given.mains a b

  -- ---- what was worked out at record k

  module _ (same : given.mains ≡ t.mains) (k : ℕ) (found : Option Defined) (kept : List ℤ) (w : Worked) (finds : found ≡ found_at t.maincards t.mains t.shallowcards t.shallows (get_or s.places k 0))
      (ready : Ready (argument_by given t) (corrected_by given t) t.shallowcards found kept) (from : FromMains kept t.shallowcards t.coefficients found w) where
    worked : IsWorked g l ms ss (get_or s.places k 0) w
    worked =
        worked-out g l t.maincards t.mainangles t.satelliteangles t.satelliteratios t.mains t.shallowcards t.coefficients kept t.shallows (get_or s.places k 0) found w finds
        (subst (λ (n : ℕ). Ready (argument_at l t.mainangles n) (corrected_at g (nodal l) t.maincards t.satelliteangles t.satelliteratios n) t.shallowcards found kept) same ready) from

    module _ (cs : List Constituent) (n : ℕ) (inv : with_rest cs n k ≡ all) (h : k < n) where
      pub refused : w.corrected ≡ None → outcome.refused 11 (k + 1) ≡ all
      refused e = refused-at fs ms ss g l s.places s.amplitudes s.lags cs k n all inv h w worked e

      pub accepted : (xy : code.Pair) → w.corrected ≡ Some xy → (f : ℕ) (cs' : List Constituent) → f ≡ get_or fs (get_or s.places k 0) 0
          → cs' ≡ cs ++ (record { argument = w.argument; lag = get_or s.lags k 0; frequency = f; p = weight (get_or s.amplitudes k 0) xy.x; q = weight (get_or s.amplitudes k 0) xy.y } ∷ []) → with_rest cs' n (k + 1) ≡ all
      accepted xy e f cs' ef ec = accepted-at fs ms ss g l s.places s.amplitudes s.lags cs k n all inv h w worked xy e f cs' ef ec
