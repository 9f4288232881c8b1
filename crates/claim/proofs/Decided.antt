-- What calls give can be told apart, so that to be equal is a proposition: a list of what calls gave has no two ways to equal another.
-- By a code in pairs and lists for what a call gives. Assumes nothing.
use Prim.{Unit}
use Prim.Native.Nat.{ℕ, zero, suc}
use mathlib.Core.Bool.{Bool, Bool-discrete}
use mathlib.Core.List.{List, [], ◌∷◌, List-discrete}
use mathlib.Core.Path.{◌≡◌, refl, ap, sym, ◌∙◌}
use mathlib.Core.HLevel.{Discrete, hedberg, ×_discrete}
use native.Mathlib.Decide.{ℕ_discrete}
use lib.IntN.{ℤ, ℤ_discrete}
use Rattle.refusals.specs.Outcome.{Outcome, accepted, refused}
use Rattle.turns.specs.Written.{TurnsFound}
use Rattle.claim.specs.Document.{Gave, told, predicted, wrote, found, filled, carded, named}

-- what has a code that can be read back can be told apart where the codes can
coded : {A B : Type 0} (code : A → B) (read : B → A) → ((a : A) → read (code a) ≡ a) → Discrete B → Discrete A
coded {A} {B} code read back d x y = by (d (code x) (code y))
  where
    by : Dec (code x ≡ code y) → Dec (x ≡ y)
    by (yes e) = yes (sym (back x) ∙ ap read e ∙ back y)
    by (no n) = no (λ e. n (ap code e))

-- ---- what a call returns

abbrev outcome-code : {A : Type 0} → Outcome A → List A × (ℕ × ℕ)
outcome-code (accepted a) = (a ∷ [], (0, 0))
outcome-code (refused number place) = ([], (number, place))

abbrev outcome-read : {A : Type 0} → List A × (ℕ × ℕ) → Outcome A
outcome-read (a ∷ rest, code) = accepted a
outcome-read ([], (number, place)) = refused number place

outcome-back : {A : Type 0} (o : Outcome A) → outcome-read (outcome-code o) ≡ o
outcome-back (accepted a) = refl
outcome-back (refused number place) = refl

outcome-discrete : {A : Type 0} → Discrete A → Discrete (Outcome A)
outcome-discrete d = coded outcome-code outcome-read outcome-back (×_discrete (List-discrete d) (×_discrete ℕ_discrete ℕ_discrete))

unit-discrete : Discrete (Unit {0})
unit-discrete a b = yes refl

turns-discrete : Discrete TurnsFound
turns-discrete =
    coded (λ (t : TurnsFound). (t.count, t.high)) (λ (c : ℕ × Bool). record { count = c.0; high = c.1 }) (λ t. refl) (×_discrete ℕ_discrete Bool-discrete)

-- ---- what a call gives: which kind it is, what it returns, its buffers, and the names

abbrev Code : Type 0
Code = ℕ × (Outcome Unit × (Outcome ℤ × (Outcome TurnsFound × (Outcome ℕ × (List ℕ × (List ℤ × (List ℤ × List (List ℕ))))))))

abbrev none : {A : Type 0} → Outcome A
none = refused 0 0

abbrev gave-code : Gave → Code
gave-code (told r) = (0, (r, (none, (none, (none, ([], ([], ([], []))))))))
gave-code (predicted r) = (1, (none, (r, (none, (none, ([], ([], ([], []))))))))
gave-code (wrote s) = (2, (s.returned, (none, (none, (none, ([], (s.heights, ([], []))))))))
gave-code (found t) = (3, (none, (none, (t.returned, (none, (t.minutes, (t.heights, ([], []))))))))
gave-code (filled y) = (4, (none, (none, (y.returned, (none, (y.minutes, (y.heights, (y.series, []))))))))
gave-code (carded c) = (5, (none, (none, (none, (c.returned, (c.buffer, ([], ([], []))))))))
gave-code (named names) = (6, (none, (none, (none, (none, ([], ([], ([], names))))))))

abbrev gave_read : Code → Gave
gave_read (zero, (r, (h, (t, (n, (ms, (hs, (ss, ns)))))))) = told r
gave_read (suc zero, (r, (h, (t, (n, (ms, (hs, (ss, ns)))))))) = predicted h
gave_read (suc (suc zero), (r, (h, (t, (n, (ms, (hs, (ss, ns)))))))) = wrote (record { returned = r; heights = hs })
gave_read (suc (suc (suc zero)), (r, (h, (t, (n, (ms, (hs, (ss, ns)))))))) = found (record { returned = t; minutes = ms; heights = hs })
gave_read (suc (suc (suc (suc zero))), (r, (h, (t, (n, (ms, (hs, (ss, ns)))))))) = filled (record { returned = t; series = ss; minutes = ms; heights = hs })
gave_read (suc (suc (suc (suc (suc zero)))), (r, (h, (t, (n, (ms, (hs, (ss, ns)))))))) = carded (record { returned = n; buffer = ms })
gave_read (suc (suc (suc (suc (suc (suc k))))), (r, (h, (t, (n, (ms, (hs, (ss, ns)))))))) = named ns

gave-back : (g : Gave) → gave_read (gave-code g) ≡ g
gave-back (told r) = refl
gave-back (predicted r) = refl
gave-back (wrote s) = refl
gave-back (found t) = refl
gave-back (filled y) = refl
gave-back (carded c) = refl
gave-back (named names) = refl

gave-discrete : Discrete Gave
gave-discrete =
    coded gave-code gave_read gave-back
    (×_discrete ℕ_discrete (×_discrete (outcome-discrete unit-discrete) (×_discrete (outcome-discrete ℤ_discrete) (×_discrete (outcome-discrete turns-discrete) (×_discrete (outcome-discrete ℕ_discrete) (×_discrete (List-discrete ℕ_discrete) (×_discrete (List-discrete ℤ_discrete) (×_discrete (List-discrete ℤ_discrete) (List-discrete (List-discrete ℕ_discrete))))))))))

-- to have given the same is a proposition, of one call and of a list
pub gave-once : (g h : Gave) → IsProp (g ≡ h)
gave-once = hedberg gave-discrete

pub same_once : (gs hs : List Gave) → IsProp (gs ≡ hs)
same_once = hedberg (List-discrete gave-discrete)
