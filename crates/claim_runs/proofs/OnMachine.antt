-- THE CLAIM, OF THE MACHINE (specs/OnMachine.antt): each run is a call of `Calls`, so the clock that it leaves holds what the document works
-- out, and what it gives is what the document gives. Rests on each function's theorem (`Handing`) and on the claim's step for a call.
-- Assumes nothing.
use Prim.Native.Nat.{ℕ}
use mathlib.Core.List.{List, [], ◌∷◌}
use mathlib.Core.HLevel.{⊥_prop, Unit-prop, ×_prop}
use mathlib.Core.Logic.{∥∥₁_map, ∥∥₁_elim, ∥∥₁_prop}
use mathlib.Core.Path.{◌≡◌, sym, ap, ap₂, subst, ◌∙◌}
use lib.IntN.{ℤ}
use base.Fraction.{full_share}
use mir.Val.{Val}
use base.Logic.{ent, emp}
use base.Fml.{Share}
use prog.Memory.{Memory}
use contract.Adequate.{Satisfies}
use contract.Monad.{fact, fact_i, top}
use denote.Builtin.{u32}
use denote.Laws.{Is}
use borrow.Fn.World.{w₀}
use Rattle.station.specs.Station.{station_lent}
use Rattle.refusals.specs.Outcome.{Outcome}
use Rattle.turns.specs.Written.{TurnsFound}
use Rattle.clock.specs.declared.Clock.{Clock}
use Rattle.clock.specs.declared.After.{After}
use Rattle.clock.specs.View.{Made}
use Rattle.clock.specs.contracts.Clock as ClockType
use Rattle.clock.proofs.Clock.TheLaws as ClockLaws
use Rattle.clock.specs.contracts.After as AfterType
use Rattle.clock.specs.contracts.new as new
use Rattle.clock.proofs.new.Symbol as new_code
use Rattle.clock.proofs.new.Met as new_met
use Rattle.cuvalimodo_c.specs.Answers as answers
use Rattle.cuvalimodo_c.specs.declared.answers.Verdict.{Verdict}
use Rattle.cuvalimodo_c.specs.contracts.answers.Verdict as VerdictType
use Rattle.cuvalimodo_c.specs.contracts.cuvalimodo_new as held_new
use Rattle.cuvalimodo_c.proofs.cuvalimodo_new.Symbol as held_new_code
use Rattle.cuvalimodo_c.proofs.cuvalimodo_new.Met as held_new_met
use Rattle.claim.specs.Zeroed.{zeroed}
use Rattle.claim.specs.Document.{Request, Cards, Station, Date, Series, Turns, Year, Bookings, Hourly, Gave, told, predicted, wrote, found, filled, carded, named, Last, nothing, after, gives, gives_all, last_after}
use Rattle.claim.specs.Calls as call
use Rattle.claim.specs.Calls.{Call}
use Rattle.claim.proofs.Points.{near-calls}
use Rattle.claim.proofs.Decided.{gave-once}
use Rattle.claim.proofs.Claim.{Agrees, new-agrees, call-agrees}
use Rattle.claim_runs.specs.Handed.{Function, function, Assertion, ◌∗◌, ⟦◌⟧₀, ◌⊨◌, Handed, value, sees, changes, Lie, At, Written, lie_after, Ran, Leaves}
use Rattle.claim_runs.specs.Values.{clock_in, answer_in, turns_in, cards_in, verdict_in, turnings_in, held_cards_in, clock_at}
use Rattle.claim_runs.specs.Runs.{Run, loads, stations, placed, dates, heights, serieses, searches, years, bookings, hourlies, hands, held_loads, held_stations, held_dates, lent_heights, held_heights, held_serieses, held_searches, held_years, lent_bookings, held_bookings, held_hourlies, held_hands, Gives, Started, returned, left, zeros, Runs, done, ◌then◌, GiveAll}
use Rattle.claim_runs.specs.OnMachine.{OfAnyRuns, Returns, EveryCallEnds, AlwaysEnds}
use Rattle.claim_runs.proofs.Handing.{Came, comes, every-comes}
use Rattle.claim_runs.proofs.Parameters.{clock-makes, clock-lawful, Callable, new-takes, load-call, station-call, placing-call, date-call, height-call, series-call, turns-call, year-call, bookings-call, hourly-call, names-call, clock-means, held-new-takes, held-load-call, held-station-call, held-date-call, lent-height-call, held-height-call, held-series-call, held-turns-call, held-year-call, lent-bookings-call, held-bookings-call, held-hourly-call, held-names-call}
use Rattle.claim_runs.proofs.Loads.{zeros_load, in-front, behind, value-loads, heights-left, heights-left-behind, bytes_left, turns-left, sheet-left}
use Rattle.claim_runs.proofs.Laid.{laid}
use Rattle.claim_runs.proofs.Values.{answer-reads, height-reads, turns-reads, cards-read, names-read, after-reads, clock-is, verdict-reads, reading-reads, turnings-read, held-cards-read}

-- a clock with the machine's value vc, whose state is what is worked out from l
pub record Holds (vc : Val) (l : Last) : Type 0 where
  pub clock : Clock
  pub is : Is ClockType.the_row clock (vc ∷ [])
  pub agrees : Agrees clock l

-- it is a clock that a call made
asked : {vc : Val} {l : Last} (h : Holds vc l) → ent w₀.𝓤 (emp w₀.𝓤) (fact w₀.𝓤 (Made h.clock))
asked h = fact_i w₀.𝓤 (Made h.clock) (emp w₀.𝓤) h.agrees.made

-- the machine's value that a run left in a clock's place is what is loaded there
clock-left : {f : Function} {hs : List Handed} {vc : Val} {b o : ℕ} (x : Ran f [] (changes ClockType.the_row vc b o ∷ hs)) (ws : Written hs) (v : Val) → Leaves x (v, ws) → ∥ (v ≡ clock_at x.left b o) ∥₁
clock-left {hs = hs} {b = b} {o = o} x ws v lies =
    let P : Assertion = ⟦ At ClockType.the_row full_share v b o ⟧₀ in
    let Q : Assertion = ⟦ lie_after hs ws ⟧₀ in
    value-loads x.left ClockType.the_row full_share v b o (Q ∗ x.rest) (in-front x.left P Q x.rest lies)

-- what a run left beside a clock that it saw
beside-clock : {f : Function} {hs : List Handed} {vc : Val} {s : Share} {b o : ℕ} (x : Ran f [] (sees ClockType.the_row s vc b o ∷ hs)) (ws : Written hs) → Leaves x ws
    → x.left ⊨ ⟦ lie_after hs ws ⟧₀ ∗ (⟦ At ClockType.the_row s vc b o ⟧₀ ∗ x.rest)
beside-clock {hs = hs} {vc = vc} {s = s} {b = b} {o = o} x ws lies = behind x.left ⟦ At ClockType.the_row s vc b o ⟧₀ ⟦ lie_after hs ws ⟧₀ x.rest lies

module _ {vc : Val} (l : Last) (h : Holds vc l) where
  -- a run of a function of the clock that is handed this one
  ran : {f : Function} {hs : List Handed} (t : Callable h.clock f hs) (x : Ran f [] hs) → ∥ Came t.ended t.clauses hs t.meant t.takes x.value x.left x.rest ∥₁
  ran {f} {hs} t x =
      every-comes t.ended t.clauses hs t.meant t.takes f t.met x.program x.has t.makes (asked h) x.fit x.before x.rest x.lent x.value x.left x.run

  -- a run on this value is a run that is handed the clock
  abbrev on_value : {f : Function} {hs : List Handed} → Ran f (vc ∷ []) hs → Ran f [] (value ClockType.the_row h.clock vc ∷ hs)
  on_value x =
      record { program = x.program; has = x.has; fit = (h.is, x.fit); before = x.before; rest = x.rest; lent = x.lent; value = x.value; left = x.left; run = x.run }

  -- what a call gives is what the document gives; it leaves a clock, in what it returns, in memory, or the one that it got
  leaves : {q : Request} {g : Gave} {c' : Clock} {v : Val} → Is ClockType.the_row c' (v ∷ []) → Call h.clock q g c' → ∥ ((gives l q ≡ g) × Holds v (after l q)) ∥₁
  leaves {c' = c'} is k = ∥∥₁_map (call-agrees l h.agrees k) (λ a. (sym a.0, record { clock = c'; is = is; agrees = a.1 }))

  left-anew : {q : Request} {g : Gave} {v : Val} (r : After) → Is AfterType.the_row r (v ∷ []) → Call h.clock q g r.clock → ∥ ((gives l q ≡ g) × Holds (clock_in v) (after l q)) ∥₁
  left-anew r is k = leaves (clock-is r _ is) k

  left-same : {q : Request} {g : Gave} → Call h.clock q g h.clock → ∥ ((gives l q ≡ g) × Holds vc (after l q)) ∥₁
  left-same k = leaves h.is k

  left_there : {f : Function} {hs : List Handed} {b o : ℕ} {q : Request} (x : Ran f [] (changes ClockType.the_row vc b o ∷ hs)) (ws : Written hs) (r : Verdict) (c' : Clock)
      → Is VerdictType.the_row r (x.value ∷ []) → Is ClockType.the_row c' (ClockLaws.lowered c' ∷ []) → Leaves x (ClockLaws.lowered c', ws) → Call h.clock q (told (answers.verdict_returned r)) c'
      → ∥ ((Leaves x (clock_at x.left b o, ws) × (gives l q ≡ told (verdict_in x.value))) × Holds (clock_at x.left b o) (after l q)) ∥₁
  left_there {b = b} {o = o} {q = q} x ws r c' is is-clock lies k =
      ∥∥₁_elim (clock-left x ws (ClockLaws.lowered c') lies) ∥∥₁_prop (λ e.
      ∥∥₁_map (leaves is-clock k) (λ a.
      subst (λ (v : Val). (Leaves x (v, ws) × (gives l q ≡ told (verdict_in x.value))) × Holds v (after l q)) e ((lies, a.0 ∙ ap told (sym (verdict-reads r x.value is))), a.1)))

  -- what is written to one buffer is read off the memory at the end
  left-written : {X Y : Type 0} (given : Outcome Y → List X → Gave) {q : Request} {xs' zs : List X} {said : Outcome Y} (Left : List X → Type 1) (r : Outcome Y) → r ≡ said → Left xs'
      → Call h.clock q (given said xs') h.clock → ∥ (xs' ≡ zs) ∥₁ → ∥ ((Left zs × (gives l q ≡ given r zs)) × Holds vc (after l q)) ∥₁
  left-written {X} {Y} given {q = q} {xs' = xs'} Left r is lies k e =
      ∥∥₁_elim e ∥∥₁_prop (λ there.
      ∥∥₁_map (left-same k) (λ a. (
        subst (λ (ys : List X). Left ys × (gives l q ≡ given r ys)) there (lies, a.0 ∙ ap (λ (o : Outcome Y). given o xs') (sym is)),
        a.1,
      )))

  -- .. heights, and hourly cards
  abbrev heights-given : Outcome Unit → List ℤ → Gave
  heights-given r hs = wrote (record { returned = r; heights = hs })

  abbrev cards-given : Outcome ℕ → List ℕ → Gave
  cards-given r bytes = carded (record { returned = r; buffer = bytes })

  -- a run gives what the document gives, and leaves a clock that holds what is worked out after it
  run-gives : {vc' : Val} {q : Request} (x : Run vc q vc') → ∥ (Gives x (gives l q) × Holds vc' (after l q)) ∥₁
  unfolding Gives load-call station-call placing-call date-call height-call series-call turns-call year-call bookings-call hourly-call names-call held-load-call held-station-call held-date-call lent-height-call held-height-call held-series-call held-turns-call held-year-call lent-bookings-call held-bookings-call held-hourly-call held-names-call
  run-gives (loads {file = file} {q = q} {b = b} {o = o} x) =
      ∥∥₁_elim (ran (load-call h.clock vc file q b o) (on_value x)) ∥∥₁_prop (λ k.
      ∥∥₁_map (left-anew k.result k.is (call.loads k.once)) (λ a. ((k.leaves, a.0 ∙ ap told (sym (after-reads k.result x.value k.is))), a.1)))
  run-gives (stations {latitude = latitude} {strides = strides} {vl = vl} {vt = vt} {records = records} {q = q} {b = b} {o = o} x) =
      ∥∥₁_elim (ran (station-call h.clock vc latitude strides vl vt records q b o) (on_value x)) ∥∥₁_prop (λ k.
      ∥∥₁_map (left-anew k.result k.is (call.stations k.once)) (λ a. ((k.leaves, a.0 ∙ ap told (sym (after-reads k.result x.value k.is))), a.1)))
  run-gives (placed {latitude = latitude} {strides = strides} {n = n} {rows = rows} {vl = vl} {vt = vt} {vn = vn} {vr = vr} x) =
      ∥∥₁_elim (ran (placing-call h.clock vc latitude strides n rows vl vt vn vr) (on_value x)) ∥∥₁_prop (λ k.
      ∥∥₁_map (left-anew k.result k.is (call.placed k.once)) (λ a. ((k.leaves, a.0 ∙ ap told (sym (after-reads k.result x.value k.is))), a.1)))
  run-gives (dates {year = year} {month = month} {vy = vy} {vm = vm} x) =
      ∥∥₁_elim (ran (date-call h.clock vc year month vy vm) (on_value x)) ∥∥₁_prop (λ k.
      ∥∥₁_map (left-anew k.result k.is (call.dates k.once)) (λ a. ((k.leaves, a.0 ∙ ap told (sym (after-reads k.result x.value k.is))), a.1)))
  run-gives (heights {minute = minute} {vm = vm} x) =
      ∥∥₁_elim (ran (height-call h.clock vc minute vm) (on_value x)) ∥∥₁_prop (λ k.
      ∥∥₁_map (left-same (call.heights k.once)) (λ a. ((k.leaves, a.0 ∙ ap predicted (sym (height-reads k.result x.value k.is))), a.1)))
  run-gives (serieses {start = start} {step = step} {vs = vs} {vt = vt} {hs = hs} {b = b} {o = o} x) =
      ∥∥₁_elim (ran (series-call h.clock vc start step vs vt hs b o) (on_value x)) ∥∥₁_prop (λ k.
      left-written heights-given {q = Series start step hs} (λ zs. Leaves x (zs, tt)) (answer_in x.value) (answer-reads k.result x.value k.is) k.leaves (call.serieses k.once)
      (heights-left x.left hs _ b o x.rest k.as_many.0 k.leaves))
  run-gives (searches {first = first} {last = last} {vf = vf} {vl = vl} {ms = ms} {b = b} {o = o} {hs = hs} {b₁ = b₁} {o₁ = o₁} x) =
      ∥∥₁_elim (ran (turns-call h.clock vc first last vf vl ms b o hs b₁ o₁) (on_value x)) ∥∥₁_prop (λ k.
      let ms' : List ℕ = k.last.1.1.1.0 in
      let hs' : List ℤ = k.last.1.1.1.1.0 in
      ∥∥₁_elim (turns-left x.left ms ms' b o hs hs' b₁ o₁ x.rest k.as_many.0 k.as_many.1.0 k.leaves) ∥∥₁_prop (λ e.
      ∥∥₁_map (left-same (call.searches k.once)) (λ a. (
        subst (λ (zs : List ℕ × List ℤ). Leaves x (zs.0, (zs.1, tt)) × (gives l (Turns first last ms hs) ≡ found (record { returned = turns_in x.value; minutes = zs.0; heights = zs.1 })))
            (ap₂ (λ (ys : List ℕ) (zs : List ℤ). (ys, zs)) e.0 e.1)
            (k.leaves, a.0 ∙ ap (λ (r : Outcome TurnsFound). found (record { returned = r; minutes = ms'; heights = hs' })) (sym (turns-reads k.result x.value k.is))),
        a.1,
      ))))
  run-gives (years {sheet = sheet} {vs = vs} {ss = ss} {b = b} {o = o} {ms = ms} {b₁ = b₁} {o₁ = o₁} {hs = hs} {b₂ = b₂} {o₂ = o₂} x) =
      ∥∥₁_elim (ran (year-call h.clock vc sheet vs ss b o ms b₁ o₁ hs b₂ o₂) (on_value x)) ∥∥₁_prop (λ k.
      let ss' : List ℤ = k.last.1.1.0 in
      let ms' : List ℕ = k.last.1.1.1.0 in
      let hs' : List ℤ = k.last.1.1.1.1.0 in
      ∥∥₁_elim (sheet-left x.left ss ss' b o ms ms' b₁ o₁ hs hs' b₂ o₂ x.rest k.as_many.0 k.as_many.1.0 k.as_many.1.1.0 k.leaves) ∥∥₁_prop (λ e.
      ∥∥₁_map (left-same (call.years k.once)) (λ a. (
        subst (λ (zs : List ℤ × (List ℕ × List ℤ)). Leaves x (zs.0, (zs.1.0, (zs.1.1, tt))) × (gives l (Year sheet ss ms hs) ≡ filled (record { returned = turns_in x.value; series = zs.0; minutes = zs.1.0; heights = zs.1.1 }))) e
            (k.leaves, a.0 ∙ ap (λ (r : Outcome TurnsFound). filled (record { returned = r; series = ss'; minutes = ms'; heights = hs' })) (sym (turns-reads k.result x.value k.is))),
        a.1,
      ))))
  run-gives (bookings {minutes = minutes} {q = q} {b = b} {o = o} {hs = hs} {b₁ = b₁} {o₁ = o₁} x) =
      ∥∥₁_elim (ran (bookings-call h.clock vc minutes q b o hs b₁ o₁) (on_value x)) ∥∥₁_prop (λ k.
      left-written heights-given {q = Bookings minutes hs} (λ zs. Leaves x (zs, tt)) (answer_in x.value) (answer-reads k.result x.value k.is) k.leaves (call.bookings k.once)
      (heights-left-behind x.left (Lie u32 q minutes b o) hs _ b₁ o₁ x.rest k.as_many.0 k.leaves))
  run-gives (hourlies {number = number} {vn = vn} {cards = cards} {b = b} {o = o} x) =
      ∥∥₁_elim (ran (hourly-call h.clock vc number vn cards b o) (on_value x)) ∥∥₁_prop (λ k.
      left-written cards-given {q = Hourly number cards} (λ zs. Leaves x (zs, tt)) (cards_in x.value) (cards-read k.result x.value k.is) k.leaves (call.hourlies k.once)
      (bytes_left x.left cards _ b o x.rest k.as_many.0 k.leaves))
  run-gives (hands x) =
      ∥∥₁_elim (ran (names-call h.clock vc) (on_value x)) ∥∥₁_prop (λ k.
      ∥∥₁_map (left-same (call.hands k.once)) (λ a. ((k.leaves, a.0 ∙ ap named (sym (names-read k.result x.value k.is))), a.1)))
  run-gives (held_loads {b = b} {o = o} {file = file} {q = q} {b₁ = b₁} {o₁ = o₁} x) =
      ∥∥₁_elim (ran (held-load-call h.clock vc h.is b o file q b₁ o₁) x) ∥∥₁_prop (λ k. left_there {q = Cards file} x tt k.result k.last.0 k.is k.stand.0 k.leaves (call.held_loads k.once))
  run-gives (held_stations {b = b} {o = o} {latitude = latitude} {strides = strides} {vl = vl} {vt = vt} {records = records} {q = q} {b₁ = b₁} {o₁ = o₁} x) =
      ∥∥₁_elim (ran (held-station-call h.clock vc h.is b o latitude strides vl vt records q b₁ o₁) x) ∥∥₁_prop (λ k.
      left_there {q = Station (station_lent latitude strides records)} x tt k.result k.last.0 k.is k.stand.0 k.leaves (call.held_stations k.once))
  run-gives (held_dates {b = b} {o = o} {year = year} {month = month} {vy = vy} {vm = vm} x) =
      ∥∥₁_elim (ran (held-date-call h.clock vc h.is b o year month vy vm) x) ∥∥₁_prop (λ k. left_there {q = Date year month} x tt k.result k.last.0 k.is k.stand.0 k.leaves (call.held_dates k.once))
  run-gives (lent_heights {s = s} {b = b} {o = o} {minute = minute} {vm = vm} x) =
      ∥∥₁_elim (ran (lent-height-call h.clock vc h.is s b o minute vm) x) ∥∥₁_prop (λ k.
      ∥∥₁_map (left-same (call.lent_heights k.once)) (λ a. ((k.leaves, a.0 ∙ ap predicted (sym (height-reads k.result x.value k.is))), a.1)))
  run-gives (held_heights {s = s} {b = b} {o = o} {minute = minute} {vm = vm} x) =
      ∥∥₁_elim (ran (held-height-call h.clock vc h.is s b o minute vm) x) ∥∥₁_prop (λ k.
      ∥∥₁_map (left-same (call.held_heights k.once)) (λ a. ((k.leaves, a.0 ∙ ap predicted (sym (reading-reads k.result x.value k.is))), a.1)))
  run-gives (held_serieses {s = s} {b = b} {o = o} {start = start} {step = step} {vs = vs} {vt = vt} {hs = hs} {b₁ = b₁} {o₁ = o₁} x) =
      ∥∥₁_elim (ran (held-series-call h.clock vc h.is s b o start step vs vt hs b₁ o₁) x) ∥∥₁_prop (λ k.
      left-written heights-given {q = Series start step hs} (λ zs. Leaves x (zs, tt)) (verdict_in x.value) (verdict-reads k.result x.value k.is) k.leaves (call.held_serieses k.once)
      (heights-left x.left hs _ b₁ o₁ (⟦ At ClockType.the_row s vc b o ⟧₀ ∗ x.rest) k.as_many.0 (beside-clock x (k.last.1.1.1.0, tt) k.leaves)))
  run-gives (held_searches {s = s} {b = b} {o = o} {first = first} {last = last} {vf = vf} {vl = vl} {ms = ms} {b₁ = b₁} {o₁ = o₁} {hs = hs} {b₂ = b₂} {o₂ = o₂} x) =
      ∥∥₁_elim (ran (held-turns-call h.clock vc h.is s b o first last vf vl ms b₁ o₁ hs b₂ o₂) x) ∥∥₁_prop (λ k.
      let ms' : List ℕ = k.last.1.1.1.0 in
      let hs' : List ℤ = k.last.1.1.1.1.0 in
      ∥∥₁_elim (turns-left x.left ms ms' b₁ o₁ hs hs' b₂ o₂ (⟦ At ClockType.the_row s vc b o ⟧₀ ∗ x.rest) k.as_many.0 k.as_many.1.0 (beside-clock x (ms', (hs', tt)) k.leaves)) ∥∥₁_prop (λ e.
      ∥∥₁_map (left-same (call.held_searches k.once)) (λ a. (
        subst (λ (zs : List ℕ × List ℤ). Leaves x (zs.0, (zs.1, tt)) × (gives l (Turns first last ms hs) ≡ found (record { returned = turnings_in x.value; minutes = zs.0; heights = zs.1 })))
            (ap₂ (λ (ys : List ℕ) (zs : List ℤ). (ys, zs)) e.0 e.1)
            (k.leaves, a.0 ∙ ap (λ (r : Outcome TurnsFound). found (record { returned = r; minutes = ms'; heights = hs' })) (sym (turnings-read k.result x.value k.is))),
        a.1,
      ))))
  run-gives (held_years {s = s} {b = b} {o = o} {sheet = sheet} {vy = vy} {vs = vs} {vt = vt} {vf = vf} {vl = vl} {ss = ss} {b₁ = b₁} {o₁ = o₁} {ms = ms} {b₂ = b₂} {o₂ = o₂} {hs = hs} {b₃ = b₃} {o₃ = o₃} x) =
      ∥∥₁_elim (ran (held-year-call h.clock vc h.is s b o sheet vy vs vt vf vl ss b₁ o₁ ms b₂ o₂ hs b₃ o₃) x) ∥∥₁_prop (λ k.
      let ss' : List ℤ = k.last.1.1.1.1.1.1.0 in
      let ms' : List ℕ = k.last.1.1.1.1.1.1.1.0 in
      let hs' : List ℤ = k.last.1.1.1.1.1.1.1.1.0 in
      ∥∥₁_elim (sheet-left x.left ss ss' b₁ o₁ ms ms' b₂ o₂ hs hs' b₃ o₃ (⟦ At ClockType.the_row s vc b o ⟧₀ ∗ x.rest) k.as_many.0 k.as_many.1.0 k.as_many.1.1.0 (beside-clock x (ss', (ms', (hs', tt))) k.leaves)) ∥∥₁_prop (λ e.
      ∥∥₁_map (left-same (call.held_years k.once)) (λ a. (
        subst (λ (zs : List ℤ × (List ℕ × List ℤ)). Leaves x (zs.0, (zs.1.0, (zs.1.1, tt))) × (gives l (Year sheet ss ms hs) ≡ filled (record { returned = turnings_in x.value; series = zs.0; minutes = zs.1.0; heights = zs.1.1 }))) e
            (k.leaves, a.0 ∙ ap (λ (r : Outcome TurnsFound). filled (record { returned = r; series = ss'; minutes = ms'; heights = hs' })) (sym (turnings-read k.result x.value k.is))),
        a.1,
      ))))
  run-gives (lent_bookings {s = s} {b = b} {o = o} {minutes = minutes} {q = q} {b₁ = b₁} {o₁ = o₁} {hs = hs} {b₂ = b₂} {o₂ = o₂} x) =
      ∥∥₁_elim (ran (lent-bookings-call h.clock vc h.is s b o minutes q b₁ o₁ hs b₂ o₂) x) ∥∥₁_prop (λ k.
      left-written heights-given {q = Bookings minutes hs} (λ zs. Leaves x (zs, tt)) (answer_in x.value) (answer-reads k.result x.value k.is) k.leaves (call.lent_bookings k.once)
      (heights-left-behind x.left (Lie u32 q minutes b₁ o₁) hs _ b₂ o₂ (⟦ At ClockType.the_row s vc b o ⟧₀ ∗ x.rest) k.as_many.0 (beside-clock x (k.last.1.1.0, tt) k.leaves)))
  run-gives (held_bookings {s = s} {b = b} {o = o} {minutes = minutes} {q = q} {b₁ = b₁} {o₁ = o₁} {hs = hs} {b₂ = b₂} {o₂ = o₂} x) =
      ∥∥₁_elim (ran (held-bookings-call h.clock vc h.is s b o minutes q b₁ o₁ hs b₂ o₂) x) ∥∥₁_prop (λ k.
      left-written heights-given {q = Bookings minutes hs} (λ zs. Leaves x (zs, tt)) (verdict_in x.value) (verdict-reads k.result x.value k.is) k.leaves (call.held_bookings k.once)
      (heights-left-behind x.left (Lie u32 q minutes b₁ o₁) hs _ b₂ o₂ (⟦ At ClockType.the_row s vc b o ⟧₀ ∗ x.rest) k.as_many.0 (beside-clock x (k.last.1.1.0, tt) k.leaves)))
  run-gives (held_hourlies {s = s} {b = b} {o = o} {number = number} {vn = vn} {cards = cards} {b₁ = b₁} {o₁ = o₁} x) =
      ∥∥₁_elim (ran (held-hourly-call h.clock vc h.is s b o number vn cards b₁ o₁) x) ∥∥₁_prop (λ k.
      left-written cards-given {q = Hourly number cards} (λ zs. Leaves x (zs, tt)) (held_cards_in x.value) (held-cards-read k.result x.value k.is) k.leaves (call.held_hourlies k.once)
      (bytes_left x.left cards _ b₁ o₁ (⟦ At ClockType.the_row s vc b o ⟧₀ ∗ x.rest) k.as_many.0 (beside-clock x (k.last.1.1.0, tt) k.leaves)))
  run-gives (held_hands {s = s} {b = b} {o = o} x) =
      ∥∥₁_elim (ran (held-names-call h.clock vc h.is s b o) x) ∥∥₁_prop (λ k.
      ∥∥₁_map (left-same (call.held_hands k.once)) (λ a. ((k.leaves, a.0 ∙ ap named (sym (names-read k.result x.value k.is))), a.1)))

  -- a routine that is handed this clock returns, and so does one on this value
  ends-lent : {f : Function} {hs : List Handed} → Callable h.clock f hs → Returns f [] hs
  ends-lent {f} {hs} t γ wired fit σ F s = ∥∥₁_map (comes t.ended t.clauses hs t.meant t.takes f t.met γ wired t.makes (asked h) fit σ F s) (λ k. (k.0, k.1, k.2))

  ends_on : {f : Function} {hs : List Handed} → Callable h.clock f (value ClockType.the_row h.clock vc ∷ hs) → Returns f (vc ∷ []) hs
  ends_on t γ has fit = ends-lent t γ has (h.is, fit)

  every-call-ends : EveryCallEnds vc
  every-call-ends =
      record {
        loads = λ file q b o. ends_on (load-call h.clock vc file q b o);
        stations = λ latitude strides vl vt records q b o. ends_on (station-call h.clock vc latitude strides vl vt records q b o);
        placed = λ latitude strides n rows vl vt vn vr. ends_on (placing-call h.clock vc latitude strides n rows vl vt vn vr);
        dates = λ year month vy vm. ends_on (date-call h.clock vc year month vy vm);
        heights = λ minute vm. ends_on (height-call h.clock vc minute vm);
        serieses = λ start step vs vt hs b o. ends_on (series-call h.clock vc start step vs vt hs b o);
        searches = λ first last vf vl ms b o hs b₁ o₁. ends_on (turns-call h.clock vc first last vf vl ms b o hs b₁ o₁);
        years = λ sheet vs ss b o ms b₁ o₁ hs b₂ o₂. ends_on (year-call h.clock vc sheet vs ss b o ms b₁ o₁ hs b₂ o₂);
        bookings = λ minutes q b o hs b₁ o₁. ends_on (bookings-call h.clock vc minutes q b o hs b₁ o₁);
        hourlies = λ number vn cards b o. ends_on (hourly-call h.clock vc number vn cards b o);
        hands = ends_on (names-call h.clock vc);
        laid = laid ClockType.the_row (clock-means h.clock vc h.is) clock-lawful;
        held_loads = λ b o file q b₁ o₁. ends-lent (held-load-call h.clock vc h.is b o file q b₁ o₁);
        held_stations = λ b o latitude strides vl vt records q b₁ o₁. ends-lent (held-station-call h.clock vc h.is b o latitude strides vl vt records q b₁ o₁);
        held_dates = λ b o year month vy vm. ends-lent (held-date-call h.clock vc h.is b o year month vy vm);
        lent_heights = λ s b o minute vm. ends-lent (lent-height-call h.clock vc h.is s b o minute vm);
        held_heights = λ s b o minute vm. ends-lent (held-height-call h.clock vc h.is s b o minute vm);
        held_serieses = λ s b o start step vs vt hs b₁ o₁. ends-lent (held-series-call h.clock vc h.is s b o start step vs vt hs b₁ o₁);
        held_searches = λ s b o first last vf vl ms b₁ o₁ hs b₂ o₂. ends-lent (held-turns-call h.clock vc h.is s b o first last vf vl ms b₁ o₁ hs b₂ o₂);
        held_years = λ s b o sheet vy vs vt vf vl ss b₁ o₁ ms b₂ o₂ hs b₃ o₃. ends-lent (held-year-call h.clock vc h.is s b o sheet vy vs vt vf vl ss b₁ o₁ ms b₂ o₂ hs b₃ o₃);
        lent_bookings = λ s b o minutes q b₁ o₁ hs b₂ o₂. ends-lent (lent-bookings-call h.clock vc h.is s b o minutes q b₁ o₁ hs b₂ o₂);
        held_bookings = λ s b o minutes q b₁ o₁ hs b₂ o₂. ends-lent (held-bookings-call h.clock vc h.is s b o minutes q b₁ o₁ hs b₂ o₂);
        held_hourlies = λ s b o number vn cards b₁ o₁. ends-lent (held-hourly-call h.clock vc h.is s b o number vn cards b₁ o₁);
        held_hands = λ s b o. ends-lent (held-names-call h.clock vc h.is s b o);
      }

-- the runs of a list give what the document gives, and leave a clock that holds what is worked out after them
runs-give : {vc vc' : Val} {qs : List Request} (l : Last) → Holds vc l → (xs : Runs vc qs vc') → ∥ (GiveAll xs (gives_all l qs) × Holds vc' (last_after l qs)) ∥₁
unfolding gives_all last_after GiveAll
runs-give l h done = ∣ (tt, h) ∣₁
runs-give l h (◌then◌ {q = q} x xs) =
    ∥∥₁_elim (run-gives l h x) ∥∥₁_prop (λ k. ∥∥₁_map (runs-give (after l q) k.1 xs) (λ all. ((k.0, all.0), all.1)))

-- what runs gave is a proposition
lies-once : (σ : Memory) (P : Assertion) → IsProp (σ ⊨ P)
unfolding Satisfies
lies-once σ P = ∥∥₁_prop

gives-once : {vc vc' : Val} {q : Request} (x : Run vc q vc') (g : Gave) → IsProp (Gives x g)
unfolding Gives
gives-once (loads x) g = ×_prop (lies-once x.left _) (gave-once g _)
gives-once (stations x) g = ×_prop (lies-once x.left _) (gave-once g _)
gives-once (placed x) g = ×_prop (lies-once x.left _) (gave-once g _)
gives-once (dates x) g = ×_prop (lies-once x.left _) (gave-once g _)
gives-once (heights x) g = ×_prop (lies-once x.left _) (gave-once g _)
gives-once (serieses x) g = ×_prop (lies-once x.left _) (gave-once g _)
gives-once (searches x) g = ×_prop (lies-once x.left _) (gave-once g _)
gives-once (years x) g = ×_prop (lies-once x.left _) (gave-once g _)
gives-once (bookings x) g = ×_prop (lies-once x.left _) (gave-once g _)
gives-once (hourlies x) g = ×_prop (lies-once x.left _) (gave-once g _)
gives-once (hands x) g = ×_prop (lies-once x.left _) (gave-once g _)
gives-once (held_loads x) g = ×_prop (lies-once x.left _) (gave-once g _)
gives-once (held_stations x) g = ×_prop (lies-once x.left _) (gave-once g _)
gives-once (held_dates x) g = ×_prop (lies-once x.left _) (gave-once g _)
gives-once (lent_heights x) g = ×_prop (lies-once x.left _) (gave-once g _)
gives-once (held_heights x) g = ×_prop (lies-once x.left _) (gave-once g _)
gives-once (held_serieses x) g = ×_prop (lies-once x.left _) (gave-once g _)
gives-once (held_searches x) g = ×_prop (lies-once x.left _) (gave-once g _)
gives-once (held_years x) g = ×_prop (lies-once x.left _) (gave-once g _)
gives-once (lent_bookings x) g = ×_prop (lies-once x.left _) (gave-once g _)
gives-once (held_bookings x) g = ×_prop (lies-once x.left _) (gave-once g _)
gives-once (held_hourlies x) g = ×_prop (lies-once x.left _) (gave-once g _)
gives-once (held_hands x) g = ×_prop (lies-once x.left _) (gave-once g _)

all_once : {vc vc' : Val} {qs : List Request} (xs : Runs vc qs vc') (gs : List Gave) → IsProp (GiveAll xs gs)
unfolding GiveAll
all_once done [] = Unit-prop
all_once done (g ∷ gs) = ×_prop ⊥_prop Unit-prop
all_once (x then xs) [] = ×_prop ⊥_prop Unit-prop
all_once (x then xs) (g ∷ gs) = ×_prop (gives-once x g) (all_once xs gs)

-- the value with which a list of runs begins holds nothing
new-holds : {vc : Val} → Started vc → ∥ Holds vc nothing ∥₁
unfolding new-takes held-new-takes
new-holds (returned x) =
    ∥∥₁_elim (every-comes new.ended (λ M 𝓤. new.clauses) [] tt new-takes (function new_code.name new_code.code) (λ M. new_met.met) x.program x.has tt (top w₀.𝓤 (emp w₀.𝓤)) tt x.before x.rest x.lent x.value x.left x.run) ∥∥₁_prop (λ k.
    ∥∥₁_map (new-agrees (call.news k.once)) (λ a. record { clock = k.result; is = k.is; agrees = a }))
new-holds (left {vc = vc} {b = b} {o = o} c is x) =
    let hs : List Handed = changes ClockType.the_row vc b o ∷ [] in
    ∥∥₁_elim (every-comes held_new.ended (λ M 𝓤. held_new.clauses) hs (clock-means c vc is, tt) (held-new-takes c vc is b o) (function held_new_code.name held_new_code.code) (λ M. held_new_met.met) x.program x.has (clock-makes, tt) (top w₀.𝓤 (emp w₀.𝓤)) tt
    x.before x.rest x.lent x.value x.left x.run) ∥∥₁_prop (λ k.
    ∥∥₁_elim (clock-left x tt (ClockLaws.lowered k.last.0) k.leaves) ∥∥₁_prop (λ e.
    ∥∥₁_map (new-agrees (call.held_news k.once)) (λ a. record { clock = k.last.0; is = subst (λ (v : Val). Is ClockType.the_row k.last.0 (v ∷ [])) e k.stand.0; agrees = a })))
new-holds zeros = ∥∥₁_map (new-agrees call.zeros) (λ a. record { clock = zeroed; is = zeros_load; agrees = a })

pub on-machine : OfAnyRuns
on-machine vc vc' qs started xs =
    record { exactly = ∥∥₁_elim (new-holds started) (all_once xs _) (λ h. ∥∥₁_elim (runs-give nothing h xs) (all_once xs _) (λ k. k.0)); near = near-calls nothing qs }

pub always-ends : AlwaysEnds
always-ends =
    record {
      held_new = λ c vc is b o γ has fit σ F s.
          ∥∥₁_map (comes held_new.ended (λ M 𝓤. held_new.clauses) (changes ClockType.the_row vc b o ∷ []) (clock-means c vc is, tt) (held-new-takes c vc is b o) (function held_new_code.name held_new_code.code) (λ M. held_new_met.met) γ has (clock-makes, tt)
          (top w₀.𝓤 (emp w₀.𝓤)) tt σ F s) (λ k. (k.0, k.1, k.2));
      new = λ γ has fit σ F s. ∥∥₁_map (comes new.ended (λ M 𝓤. new.clauses) [] tt new-takes (function new_code.name new_code.code) (λ M. new_met.met) γ has tt (top w₀.𝓤 (emp w₀.𝓤)) tt σ F s) (λ k. (k.0, k.1, k.2));
      then = λ vc vc' qs started xs. ∥∥₁_elim (new-holds started) ∥∥₁_prop (λ h. ∥∥₁_map (runs-give nothing h xs) (λ k. every-call-ends (last_after nothing qs) k.1));
    }
