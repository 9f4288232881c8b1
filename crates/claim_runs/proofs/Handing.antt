-- A function of the clock, called with what is handed over: from a memory in which the buffers and structs lie, its routine returns, and every
-- return of it is a call of `Calls` after which they lie there with what was written and left. By lending them (`Lending`), the function's own
-- theorem (`Ran`), and taking them back. Assumes nothing.
use mathlib.Core.List.{List, [], ◌∷◌}
use mathlib.Core.Logic.{∥∥₁_map, ∥∥₁_elim, ∥∥₁_prop}
use mathlib.Core.Path.{◌≡◌, sym, subst}
use mir.Val.{Val}
use base.Logic.{ent, ex, emp, id⊢, via, mono_l, mono∗, fst∗, snd∗}
use prog.Memory.{Memory}
use prog.Routine as routines
use prog.Routine.{Env}
use prog.Wired.{Wired}
use types.Logic.{Logic}
use contract.Adequate.{sat_weaken, sat_⇛, sat_ex∗, sat_fact}
use denote.Laws.{Is}
use denote.RattleType.{owns}
use denote.Shadow.{shadow, shows_shadow}
use denote.Signature.{type_at}
use denote.Triple.Bound as entering
use denote.Triple.Clauses.{Ended, Lasts, lasts}
use denote.Triple.Entry.{Res, alive}
use borrow.Fn.World.{w₀}
use Rattle.claim.specs.Calls.{ClausesOf, Once}
use Rattle.claim_runs.specs.Handed.{Assertion, ◌∗◌, ⟦◌⟧₀, ◌⊨◌, Function, Handed, passed, Fit, lie, lie_after}
use Rattle.claim_runs.proofs.Lending.{Meant, Names, types_of, denotes, values_of, lender, Lasting, ends, AsMany, as_many, lie_again, written, Stand, stand, Made, tokens, Lent, lend-all, lie-after, hand-over, hand-back}
use Rattle.claim_runs.proofs.Ran.{Theorem, Entry, Ghosts, Brings, Returned, returns, every-return}

-- the closed model's rules
abbrev pub W₀ : Logic w₀.𝓤
W₀ = w₀.𝓛

abbrev ◌⊢◌ : Assertion → Assertion → Type 1
P ⊢ Q = ent w₀.𝓤 P Q

infix 26 ◌⊢◌
abbrev pub Tokens : (hs : List Handed) → Names hs → Assertion
Tokens hs ns = tokens w₀.𝓛 hs ns

-- what equals P follows from it
same : (P : Assertion) {P' : Assertion} → P ≡ P' → P ⊢ P'
same P e = subst (λ (R : Assertion). P ⊢ R) e (id⊢ w₀.𝓤 P)

module _ (T : Ended) (C : ClausesOf T) (hs : List Handed) (ms : Meant hs) where
  -- The function's parameters are what is handed over, its `requires` is Q, and what it says of them at its end is what is said of their last
  -- elements and values: of each function the equations hold by computing. (`enters` has the lifetimes, shares, arguments and machine's values with which
  -- it is entered.)
  pub record Takes (Q : Assertion) : Type 2 where
    pub enters : (ns : Names hs) → (x : Entry T C) × (g : Ghosts T C x) × (entering.passed w₀.𝓛 T.signature x ≡ passed hs)
        × (Brings T C x g ≡ (Tokens hs ns ∗ ⟦ owns (types_of 0 hs ns) (denotes 0 hs ms ns) (values_of 0 hs ns) ⟧₀) ∗ Q) × (alive w₀.𝓛 T.signature x.0 x.1 ≡ Tokens hs ns)
    pub writes : (ns : Names hs) (ws : Lasts T (enters ns).0.0 (enters ns).0.3) → (ls : Lasting hs) × (⟦ lasts T (enters ns).0.0 (enters ns).0.3 ws ⟧₀ ≡ ⟦ ends hs ns ls ⟧₀)

  module _ {Q : Assertion} (takes : Takes Q) where
    abbrev entry : Names hs → Entry T C
    entry ns = (takes.enters ns).0

    abbrev ghosts : (ns : Names hs) → Ghosts T C (entry ns)
    ghosts ns = (takes.enters ns).1

    -- A return: the result, whose machine's value is v; the call, one of `Calls`; and the memory, in which all lie with what was written and left.
    pub record Came (v : Val) (σ' : Memory) (F : Assertion) : Type 2 where
      pub names : Names hs
      pub result : Res T.signature (takes.enters names).0.0
      pub last : Lasts T (takes.enters names).0.0 (takes.enters names).0.3
      pub is : Is (type_at T.signature.result (takes.enters names).0.0) result (v ∷ [])
      pub once : Once T C (takes.enters names).0.0 (takes.enters names).0.3 result last
      pub leaves : σ' ⊨ ⟦ lie_after hs (written hs ms (takes.writes names last).0) ⟧₀ ∗ F
      pub as_many : AsMany hs (takes.writes names last).0
      pub stand : Stand hs ms (takes.writes names last).0

    came : (ns : Names hs) (v : Val) (σ' : Memory) (F : Assertion) → Returned T C (entry ns) (ghosts ns) v σ' (⟦ lender hs ms ns ⟧₀ ∗ F) → ∥ Came v σ' F ∥₁
    came ns v σ' F k =
        let al : Assertion = alive w₀.𝓛 T.signature (entry ns).0 (entry ns).1 in
        let own : Assertion = ⟦ (type_at T.signature.result (entry ns).0).own_val k.result (v ∷ []) ⟧₀ in
        let says : Assertion = ⟦ lasts T (entry ns).0 (entry ns).3 k.last ⟧₀ in
        let ls : Lasting hs = (takes.writes ns k.last).0 in
        let kept : Assertion = ⟦ lender hs ms ns ⟧₀ ∗ F in
        let again : σ' ⊨ ⟦ lie_again hs ms ls ⟧₀ ∗ F =
        sat_⇛ w₀.𝓤 w₀.𝓛.H w₀.𝓜 σ' ⟦ lie_again hs ms ls ⟧₀ F
        (sat_weaken w₀.𝓤 w₀.𝓛.H w₀.𝓜 σ'
        (via w₀.𝓤 ((⟦ ends hs ns ls ⟧₀ ∗ Tokens hs ns) ∗ kept)
        (mono_l w₀.𝓤 kept (mono∗ w₀.𝓤 (same says (takes.writes ns k.last).1) (via w₀.𝓤 al (fst∗ w₀.𝓤 al own) (same al (takes.enters ns).4))))
        (hand-back W₀ hs ms ns ls F)) k.owned) in
        ∥∥₁_elim (sat_fact w₀.𝓤 w₀.𝓛.H w₀.𝓜 σ' ((says ∗ (al ∗ own)) ∗ kept) (shadow (ends hs ns ls))
        (via w₀.𝓤 ((says ∗ (al ∗ own)) ∗ kept) (snd∗ w₀.𝓤 (w₀.𝓜.mem σ') ((says ∗ (al ∗ own)) ∗ kept)) (via w₀.𝓤 (says ∗ (al ∗ own)) (fst∗ w₀.𝓤 (says ∗ (al ∗ own)) kept)
        (via w₀.𝓤 says (fst∗ w₀.𝓤 says (al ∗ own)) (via w₀.𝓤 ⟦ ends hs ns ls ⟧₀ (same says (takes.writes ns k.last).1) (shows_shadow w₀.𝓛 (ends hs ns ls)))))) k.owned) ∥∥₁_prop (λ ended.
        ∥∥₁_map (sat_fact w₀.𝓤 w₀.𝓛.H w₀.𝓜 σ' (⟦ lie_again hs ms ls ⟧₀ ∗ F) (shadow (lie_again hs ms ls))
        (via w₀.𝓤 (⟦ lie_again hs ms ls ⟧₀ ∗ F) (snd∗ w₀.𝓤 (w₀.𝓜.mem σ') (⟦ lie_again hs ms ls ⟧₀ ∗ F))
        (via w₀.𝓤 ⟦ lie_again hs ms ls ⟧₀ (fst∗ w₀.𝓤 ⟦ lie_again hs ms ls ⟧₀ F) (shows_shadow w₀.𝓛 (lie_again hs ms ls)))) again) (λ lying.
        record {
          names = ns;
          result = k.result;
          last = k.last;
          is = k.is;
          once = k.once;
          leaves = sat_weaken w₀.𝓤 w₀.𝓛.H w₀.𝓜 σ' (mono_l w₀.𝓤 F (lie-after W₀ hs ms ls)) again;
          as_many = as_many hs ns ls ended;
          stand = stand hs ms ls lying;
        }))

    module _ (f : Function) (met : Theorem T C f) (γ : Env) (has : Wired γ f.code) (made : Made w₀.𝓛 hs) (holds : emp w₀.𝓤 ⊢ Q) (fit : Fit hs) (σ : Memory) (F : Assertion) (s : σ ⊨ ⟦ lie hs ⟧₀ ∗ F) where
      lent_out : ∥ ((ns : Names hs) × (σ ⊨ Brings T C (entry ns) (ghosts ns) ∗ (⟦ lender hs ms ns ⟧₀ ∗ F))) ∥₁
      lent_out =
          ∥∥₁_map (sat_ex∗ w₀.𝓤 w₀.𝓛.H w₀.𝓜 σ (Lent w₀.𝓛 0 hs ms) F
          (sat_⇛ w₀.𝓤 w₀.𝓛.H w₀.𝓜 σ (ex w₀.𝓤 (Lent w₀.𝓛 0 hs ms)) F
          (sat_weaken w₀.𝓤 w₀.𝓛.H w₀.𝓜 σ (mono_l w₀.𝓤 F (lend-all W₀ 0 hs ms fit made)) s))) (λ p. (
            p.0,
            subst (λ (P : Assertion). σ ⊨ P ∗ (⟦ lender hs ms p.0 ⟧₀ ∗ F)) (sym (takes.enters p.0).3)
                (sat_weaken w₀.𝓤 w₀.𝓛.H w₀.𝓜 σ (hand-over W₀ 0 hs ms p.0 Q F holds) p.1),
          ))

      pub comes : ∥ ((v : Val) × (σ' : Memory) × routines.ends (γ f.name) (passed hs) σ v σ' × Came v σ' F) ∥₁
      comes =
          ∥∥₁_elim lent_out ∥∥₁_prop (λ p.
          ∥∥₁_elim (returns T C (entry p.0) (ghosts p.0) f met γ has σ (⟦ lender hs ms p.0 ⟧₀ ∗ F) p.1) ∥∥₁_prop (λ k.
          ∥∥₁_map (came p.0 k.0 k.1 F k.3) (λ c. (k.0, k.1, subst (λ (vs : List Val). routines.ends (γ f.name) vs σ k.0 k.1) (takes.enters p.0).2 k.2, c))))

      pub every-comes : (v : Val) (σ' : Memory) → routines.ends (γ f.name) (passed hs) σ v σ' → ∥ Came v σ' F ∥₁
      every-comes v σ' run =
          ∥∥₁_elim lent_out ∥∥₁_prop (λ p.
          ∥∥₁_elim (every-return T C (entry p.0) (ghosts p.0) f met γ has σ (⟦ lender hs ms p.0 ⟧₀ ∗ F) p.1 v σ'
          (subst (λ (vs : List Val). routines.ends (γ f.name) vs σ v σ') (sym (takes.enters p.0).2) run)) ∥∥₁_prop (came p.0 v σ' F))
