-- From a run of a routine to a call of `Calls`: from a memory that has what a function's types own and what its `requires` asks, the routine
-- returns, and every return of it keeps the contract. By the function's theorem (`Met`) and the logic's adequacy, in the closed model.
-- Assumes nothing.
use mathlib.Core.Path.{subst}
use mathlib.Core.Logic.{∥∥₁_map, ∥∥₁_elim, ∥∥₁_prop}
use mathlib.Core.List.{List, [], ◌∷◌}
use seplogic.Ra.Ura.{Ura}
use mir.Val.{Val}
use base.Logic.{ex, via, mono_l, comm∗, assoc∗, assoc', fst∗, snd∗}
use prog.Memory.{Memory}
use prog.Model.{Model}
use prog.Routine.{Env, ends, ends-one}
use prog.Wired.{Wired}
use types.Logic.{Logic, sem}
use contract.Closed.{real⁺_strict}
use contract.Adequate.{sat_weaken, sat_⇛, sat_ex∗, sat_fact}
use contract.Running.{Running, tables, within}
use denote.Laws.{Is, shows}
use denote.RattleType.{RattleType}
use denote.Signature.{type_at}
use denote.Triple.Adequate.{adequate}
use denote.Triple.Bound.{Bound, passed}
use denote.Triple.Clauses.{Ended, Lasts, at_exit, lasts, closing}
use denote.Triple.Entry.{Res, alive, on_entry}
use denote.Triple.Spec.{Back, Meets, triple_of}
use borrow.Fn.World.{World, w₀}
use Rattle.claim.specs.Calls.{ClausesOf, clauses_at, Once}
use Rattle.claim.proofs.Backed.{backed}
use Rattle.claim_runs.specs.Handed.{Assertion, ◌∗◌, ◌⊨◌, Function}

module _ (T : Ended) (C : ClausesOf T) where
  -- that the function f meets the contract, in whatever has its code: the type of a function's theorem, its `Statement`
  abbrev pub Theorem : Function → Type 2
  Theorem f = (M : Type 1) (𝓤 : Ura M) (𝓛 : Logic 𝓤) (𝓜 : Model 𝓤 𝓛.H) (𝓡 : Running 𝓤 𝓛.H 𝓜) → Wired 𝓡.env f.code
      → Meets 𝓛 T.signature (𝓡.run (𝓡.env f.name)) (closing 𝓛 T (C M 𝓤 𝓛 𝓜.mem 𝓡.returns))

  -- the lifetimes, their shares and bounds, the arguments and the machine's values for them
  abbrev pub Entry : Type 0
  Entry = Bound w₀.𝓛 T.signature

  abbrev pub Ghosts : Entry → Type 2
  Ghosts x = (w : World) → (clauses_at T C x.0 x.3 w).ghost

  module _ (x : Entry) (g : Ghosts x) where
    -- what a caller brings: what the parameters' types own, and the `requires`
    abbrev pub Brings : Assertion
    Brings = on_entry w₀.𝓛 T.signature x.0 x.1 x.3 x.4 ∗ (clauses_at T C x.0 x.3 w₀).requires (g w₀)

    -- what it gets with the machine's value v: the result r, and the last values ws of what was lent
    abbrev pub Owned : Val → Res T.signature x.0 → Lasts T x.0 x.3 → Assertion
    Owned v r ws = sem w₀.𝓛 (lasts T x.0 x.3 ws) ∗ Back w₀.𝓛 T.signature x v r

    -- A return that keeps the contract: the machine's value is that of the result, the memory has what the caller gets, beside all else
    -- that was owned before, F, and the call is one of `Calls`.
    pub record Returned (v : Val) (σ' : Memory) (F : Assertion) : Type 2 where
      pub result : Res T.signature x.0
      pub last : Lasts T x.0 x.3
      pub is : Is (type_at T.signature.result x.0) result (v ∷ [])
      pub owned : σ' ⊨ Owned v result last ∗ F
      pub once : Once T C x.0 x.3 result last

    -- from what adequacy gives of the memory at the return
    returned : (v : Val) (σ' : Memory) (F : Assertion)
        → σ' ⊨ (triple_of w₀.𝓛 T.signature (closing w₀.𝓛 T (C w₀.M w₀.𝓤 w₀.𝓛 w₀.𝓜.mem w₀.𝓡.returns))).post (x, g w₀) v ∗ F
        → ∥ Returned v σ' F ∥₁
    returned v σ' F s =
        let 𝓤 : Ura w₀.M = w₀.𝓤 in
        let R : RattleType = type_at T.signature.result x.0 in
        let Al : Assertion = alive w₀.𝓛 T.signature x.0 x.1 in
        let O : Res T.signature x.0 → Assertion = λ r. sem w₀.𝓛 (R.own_val r (v ∷ [])) in
        let B : Res T.signature x.0 → Assertion = Back w₀.𝓛 T.signature x v in
        let L : Lasts T x.0 x.3 → Assertion = λ ws. sem w₀.𝓛 (lasts T x.0 x.3 ws) in
        let Q : Res T.signature x.0 → Lasts T x.0 x.3 → Assertion = λ r ws. (clauses_at T C x.0 x.3 w₀).ensures (g w₀) r (at_exit T x.0 x.3 ws) in
        let E : Res T.signature x.0 → Assertion = λ r. ex 𝓤 (λ ws. L ws ∗ Q r ws) in
        ∥∥₁_elim (sat_ex∗ 𝓤 w₀.𝓛.H w₀.𝓜 σ' (λ r. B r ∗ E r) F (sat_⇛ 𝓤 w₀.𝓛.H w₀.𝓜 σ' (ex 𝓤 (λ r. B r ∗ E r)) F s)) ∥∥₁_prop (λ p.
        let r : Res T.signature x.0 = p.0 in
        ∥∥₁_elim (sat_fact 𝓤 w₀.𝓛.H w₀.𝓜 σ' ((B r ∗ E r) ∗ F) (Is R r (v ∷ []))
        (via 𝓤 ((B r ∗ E r) ∗ F) (snd∗ 𝓤 (w₀.𝓜.mem σ') ((B r ∗ E r) ∗ F)) (via 𝓤 (B r ∗ E r) (fst∗ 𝓤 (B r ∗ E r) F) (via 𝓤 (B r) (fst∗ 𝓤 (B r) (E r))
        (via 𝓤 (O r) (snd∗ 𝓤 Al (O r)) (shows w₀.𝓛 R r (v ∷ [])))))) p.1) ∥∥₁_prop (λ is.
        ∥∥₁_map (sat_ex∗ 𝓤 w₀.𝓛.H w₀.𝓜 σ' (λ ws. L ws ∗ Q r ws) (B r ∗ F)
        (sat_weaken 𝓤 w₀.𝓛.H w₀.𝓜 σ' (via 𝓤 ((E r ∗ B r) ∗ F) (mono_l 𝓤 F (comm∗ 𝓤 (B r) (E r))) (assoc∗ 𝓤 (E r) (B r) F)) p.1)) (λ q.
        let ws : Lasts T x.0 x.3 = q.0 in
        record {
          result = r;
          last = ws;
          is = is;
          owned = sat_weaken 𝓤 w₀.𝓛.H w₀.𝓜 σ' (via 𝓤 (L ws ∗ (B r ∗ F)) (mono_l 𝓤 (B r ∗ F) (fst∗ 𝓤 (L ws) (Q r ws))) (assoc' 𝓤 (L ws) (B r) F)) q.1;
          once = record {
            bound = g;
            contract = backed (λ w. (clauses_at T C x.0 x.3 w).requires (g w)) (λ w. (clauses_at T C x.0 x.3 w).ensures (g w) r (at_exit T x.0 x.3 ws))
                σ' (B r ∗ F) (sat_weaken 𝓤 w₀.𝓛.H w₀.𝓜 σ' (mono_l 𝓤 (B r ∗ F) (snd∗ 𝓤 (L ws) (Q r ws))) q.1);
          };
        })))

    module _ (f : Function) (met : Theorem f) (γ : Env) (has : Wired γ f.code) (σ : Memory) (F : Assertion) (s : σ ⊨ Brings ∗ F) where
      -- The call returns,
      pub returns : ∥ ((v : Val) × (σ' : Memory) × ends (γ f.name) (passed w₀.𝓛 T.signature x) σ v σ' × Returned v σ' F) ∥₁
      returns =
          ∥∥₁_elim (adequate w₀.𝓤 w₀.𝓛.H w₀.𝓜 (tables w₀.𝓤 w₀.𝓛.H w₀.𝓜 w₀.𝓡 γ) real⁺_strict f.name
          (triple_of w₀.𝓛 T.signature (closing w₀.𝓛 T (C w₀.M w₀.𝓤 w₀.𝓛 w₀.𝓜.mem w₀.𝓡.returns)))
          (met w₀.M w₀.𝓤 w₀.𝓛 w₀.𝓜 (within w₀.𝓤 w₀.𝓛.H w₀.𝓜 w₀.𝓡 γ) has) (x, g w₀) σ F s) ∥∥₁_prop (λ c.
          ∥∥₁_map (returned c.1 c.2 F c.4) (λ k. (c.1, c.2, (c.0, c.3), k)))

      -- and every return of it keeps the contract, with whatever fuel.
      pub every-return : (v : Val) (σ' : Memory) → ends (γ f.name) (passed w₀.𝓛 T.signature x) σ v σ' → ∥ Returned v σ' F ∥₁
      every-return v σ' run =
          let vs : List Val = passed w₀.𝓛 T.signature x in
          ∥∥₁_map returns (λ c. subst (λ (p : Val × Memory). Returned p.0 p.1 F) (ends-one (γ f.name) vs σ (c.0, c.1) (v, σ') c.2 run) c.3)
