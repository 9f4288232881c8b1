-- Only inner contracts cite this: the constituents that the code's month holds: one for each place of its arrays below the count.
use Rattle.std.specs.Prelude.{ℕ, zero, suc, ◌+◌, min, List, [], ◌∷◌, ℤ, pos, get_or}
use Rattle.limits.specs.Limits.{most_records}
use Rattle.month_prepared.specs.Prepared.{Constituent}
use Rattle.month_prepared.specs.declared.Month.{Month}

-- the constituent at place k of five lists
abbrev pub constituent_at : List ℕ → List ℕ → List ℕ → List ℤ → List ℤ → ℕ → Constituent
constituent_at arguments lags frequencies ps qs k =
    record {
      argument = get_or arguments k 0;
      lag = get_or lags k 0;
      frequency = get_or frequencies k 0;
      p = get_or ps k (pos 0);
      q = get_or qs k (pos 0);
    }

-- the n constituents from place k on
unfoldable pub constituents_after : List ℕ → List ℕ → List ℕ → List ℤ → List ℤ → ℕ → ℕ → List Constituent
constituents_after arguments lags frequencies ps qs k zero = []
constituents_after arguments lags frequencies ps qs k (suc n) =
    constituent_at arguments lags frequencies ps qs k ∷ constituents_after arguments lags frequencies ps qs (k + 1) n

-- the first `count` constituents of five lists
abbrev pub constituents_from : List ℕ → List ℕ → List ℕ → List ℤ → List ℤ → ℕ → List Constituent
constituents_from arguments lags frequencies ps qs count = constituents_after arguments lags frequencies ps qs 0 count

-- those of a month; it has room for 146
abbrev pub constituents_of : Month → List Constituent
constituents_of m = constituents_from m.arguments m.lags m.frequencies m.ps m.qs (min m.count most_records)
