-- A value of a type is laid into a block of its own, beside all that a memory holds: so there is a memory in which a struct lies, or a buffer.
-- By the model's laws of a new block and of a store. Assumes nothing.
use Prim.Native.Nat.{ℕ, ◌+◌}
use mathlib.Core.List.{List, [], ◌∷◌, map}
use mathlib.Core.Logic.{∥∥₁_map}
use mathlib.Core.Path.{◌≡◌, refl, sym, subst}
use mathlib.Core.Option.{some}
use lib.Dec.{T}
use lib.ListN.{length}
use seplogic.Bi.Sat
use seplogic.Bi.Sat.{Sat}
use base.Fraction.{full_share}
use mir.Syntax.{Ty, ty_array}
use mir.Val.{Val, WT, has_ty}
use base.Logic.{ent, emp, id⊢, ex, guard, upd, via, mono_l, mono_r, assoc∗, assoc', fst∗, snd∗, ex∗, ex_i, guard_e, Sat_exists, upd_mono, upd_frame}
use base.Fml.{Fml, feq, fat}
use prog.Memory.{Memory, alloc_m, store_m}
use contract.Adequate.{Satisfies, sat_upd, sat_weaken}
use types.SemTy.{cells}
use types.Share.{parts}
use denote.Array.{each, array_val, Array, Array-Tells, Array-Makes, Array-Lawful}
use denote.ArrayMemory.{Single, Array-apart}
use denote.Laws.{Typed, Is, Makes, Lawful}
use denote.Lowered.{Lowered}
use denote.Memory.{cell_at, lone, part_at, mem, shares}
use denote.RattleType.{RattleType}
use denote.Shadow.{shadow}
use borrow.Fn.World.{w₀}
use Rattle.claim_runs.specs.Handed.{Assertion, ◌∗◌, ⟦◌⟧₀, ◌⊨◌, Handed, reads, writes, Lie, At, lie}
use Rattle.claim_runs.proofs.Lending.{Means, owns-too}
use Rattle.claim_runs.proofs.Handing.{W₀}

-- a new block
with-room : (σ : Memory) (τ : Ty) (F : Assertion) → σ ⊨ F → alloc_m σ τ ⊨ w₀.𝓛.H.room τ (length σ) 0 ∗ F
with-room σ τ F s =
    let m : Assertion = w₀.𝓜.mem σ in
    let m' : Assertion = w₀.𝓜.mem (alloc_m σ τ) in
    let room : Assertion = w₀.𝓛.H.room τ (length σ) 0 in
    let dies : Assertion = w₀.𝓛.H.dies τ (length σ) in
    sat_upd w₀.𝓤 w₀.𝓛.H w₀.𝓜 σ (alloc_m σ τ) F (room ∗ F)
    (via w₀.𝓤 (upd w₀.𝓤 (m' ∗ (room ∗ dies)) ∗ F) (mono_l w₀.𝓤 F (w₀.𝓜.alloc σ τ))
    (via w₀.𝓤 (upd w₀.𝓤 ((m' ∗ (room ∗ dies)) ∗ F)) (upd_frame w₀.𝓤 (m' ∗ (room ∗ dies)) F)
    (upd_mono w₀.𝓤 (via w₀.𝓤 ((m' ∗ room) ∗ F) (mono_l w₀.𝓤 F (mono_r w₀.𝓤 m' (fst∗ w₀.𝓤 room dies))) (assoc∗ w₀.𝓤 m' room F))))) s

-- a store into it
stored : (σ : Memory) (τ : Ty) (b : ℕ) (v : Val) → T (has_ty τ v) → WT v → (F : Assertion) → σ ⊨ w₀.𝓛.H.room τ b 0 ∗ F → ∥ ((σ' : Memory) × (σ' ⊨ ⟦ fat full_share τ b 0 v ⟧₀ ∗ F)) ∥₁
unfolding Satisfies
stored σ τ b v is-typed fits F s =
    let m : Assertion = w₀.𝓜.mem σ in
    let room : Assertion = w₀.𝓛.H.room τ b 0 in
    let at : Assertion = ⟦ fat full_share τ b 0 v ⟧₀ in
    let After : Memory → Assertion = λ σ'. upd w₀.𝓤 (w₀.𝓜.mem σ' ∗ at) in
    let Stored : Memory → Assertion = λ σ'. guard w₀.𝓤 (store_m σ τ b 0 v ≡ some σ') (After σ') in
    ∥∥₁_map (Sat_exists w₀.𝓤 (λ σ'. After σ' ∗ F)
    (Sat.mono w₀.𝓤.op
    (via w₀.𝓤 ((m ∗ room) ∗ F) (assoc' w₀.𝓤 m room F)
    (via w₀.𝓤 (ex w₀.𝓤 Stored ∗ F) (mono_l w₀.𝓤 F (w₀.𝓜.room_store σ τ b 0 v is-typed fits))
    (ex∗ w₀.𝓤 Stored F (λ σ'. via w₀.𝓤 (After σ' ∗ F) (mono_l w₀.𝓤 F (guard_e w₀.𝓤 (store_m σ τ b 0 v ≡ some σ') (After σ') (λ _. id⊢ w₀.𝓤 (After σ')))) (ex_i w₀.𝓤 (λ σ''. After σ'' ∗ F) σ'))))) s)) (λ p. (
      p.0,
      Sat.bupd w₀.𝓤 (w₀.𝓜.mem p.0 ∗ (at ∗ F))
          (Sat.mono w₀.𝓤.op
          (via w₀.𝓤 (upd w₀.𝓤 ((w₀.𝓜.mem p.0 ∗ at) ∗ F)) (upd_frame w₀.𝓤 (w₀.𝓜.mem p.0 ∗ at) F) (upd_mono w₀.𝓤 (assoc∗ w₀.𝓤 (w₀.𝓜.mem p.0) at F))) p.1),
    ))

-- the machine's value v of the type R, which stands for something
pub laid : (R : RattleType) {v : Val} → Means R v → Lawful w₀.𝓛 R → (σ : Memory) (F : Assertion) → σ ⊨ F → ∥ ((b : ℕ) × (σ' : Memory) × (σ' ⊨ ⟦ At R full_share v b 0 ⟧₀ ∗ F)) ∥₁
laid R {v} m lawful σ F s =
    let τ : Ty = m.lowers.mir in
    let typed : Typed (τ ∷ []) (v ∷ []) = subst (λ (τs : List Ty). Typed τs (v ∷ [])) m.lowers.layout_is (lawful.typed m.it (v ∷ []) m.is) in
    ∥∥₁_map (stored (alloc_m σ τ) τ (length σ) v typed.0.0 typed.0.1 F (with-room σ τ F s)) (λ p. (
      length σ,
      p.0,
      subst (λ (τs : List Ty). p.0 ⊨ ⟦ cell_at full_share τs (v ∷ []) (length σ) 0 ⟧₀ ∗ F) (sym m.lowers.layout_is)
          (sat_weaken w₀.𝓤 w₀.𝓛.H w₀.𝓜 p.0 (mono_l w₀.𝓤 F (w₀.𝓜.at_raw full_share τ (length σ) 0 v)) p.1),
    ))

-- ---- a buffer, laid as an array

-- a type whose values are had for nothing, and have one machine's value each
pub record Lays (R : RattleType) : Type 1 where
  pub lowers : Lowered R
  pub makes : Makes w₀.𝓛 R (Is R)
  pub lawful : Lawful w₀.𝓛 R

-- a whole share of each element is the elements
all-cells : (R : RattleType) (xs : List R.Denot) (b o : ℕ) → ent w₀.𝓤 ⟦ parts (mem R) (shares R) full_share xs b o ⟧₀ ⟦ cells (mem R) xs b o ⟧₀
all-cells R [] b o = id⊢ w₀.𝓤 (emp w₀.𝓤)
all-cells R (x ∷ xs) b o = mono_r w₀.𝓤 ⟦ part_at R full_share x b o ⟧₀ (all-cells R xs b (o + (mem R).size))

module _ (R : RattleType) (lays : Lays R) (xs : List R.Denot) (us : List Val) (are : shadow (each R.Denot R.own_val xs us)) (hs : List Handed) (σ : Memory) (F : Assertion) (s : σ ⊨ ⟦ lie hs ⟧₀ ∗ F) where
  abbrev n : ℕ
  n = length xs

  abbrev array : Means (Array R n) (array_val us)
  array =
      record {
        it = xs;
        is = (us, ((refl, refl), are));
        lowers = record { mir = ty_array (lone R.mir) n; lowered = λ ys. array_val (map lays.lowers.lowered ys); layout_is = refl; val_is = Array-Tells R (λ y. lays.lowers.lowered y ∷ []) lays.lowers.val_is n };
      }

  apart : (b : ℕ) → ent w₀.𝓤 ⟦ At (Array R n) full_share (array_val us) b 0 ⟧₀ ⟦ Lie R full_share xs b 0 ⟧₀
  apart b =
      via w₀.𝓤 ⟦ part_at (Array R n) full_share xs b 0 ⟧₀ (owns-too W₀ (Array R n) full_share array b 0 (Array-Makes w₀.𝓛 R lays.makes n))
      (Array-apart w₀.𝓛 R full_share (subst Single (sym lays.lowers.layout_is) tt) n xs b 0)

  -- in front of what else is handed over
  laid-in-front : (P : ℕ → Fml) → ((b : ℕ) → ent w₀.𝓤 ⟦ Lie R full_share xs b 0 ⟧₀ ⟦ P b ⟧₀) → ∥ ((b : ℕ) × (σ' : Memory) × (σ' ⊨ (⟦ P b ⟧₀ ∗ ⟦ lie hs ⟧₀) ∗ F)) ∥₁
  laid-in-front P so =
      ∥∥₁_map (laid (Array R n) array (Array-Lawful w₀.𝓛 R lays.lawful n) σ (⟦ lie hs ⟧₀ ∗ F) s) (λ p. (
        p.0,
        p.1,
        sat_weaken w₀.𝓤 w₀.𝓛.H w₀.𝓜 p.1
            (via w₀.𝓤 (⟦ P p.0 ⟧₀ ∗ (⟦ lie hs ⟧₀ ∗ F)) (mono_l w₀.𝓤 (⟦ lie hs ⟧₀ ∗ F) (via w₀.𝓤 ⟦ Lie R full_share xs p.0 0 ⟧₀ (apart p.0) (so p.0))) (assoc' w₀.𝓤 ⟦ P p.0 ⟧₀ ⟦ lie hs ⟧₀ F))
            p.2,
      ))

  pub laid-to-read : ∥ ((b : ℕ) × (σ' : Memory) × (σ' ⊨ ⟦ lie (reads R full_share xs b 0 ∷ hs) ⟧₀ ∗ F)) ∥₁
  laid-to-read = laid-in-front (λ b. Lie R full_share xs b 0) (λ b. id⊢ w₀.𝓤 ⟦ Lie R full_share xs b 0 ⟧₀)

  pub laid-to-write : ∥ ((b : ℕ) × (σ' : Memory) × (σ' ⊨ ⟦ lie (writes R xs b 0 ∷ hs) ⟧₀ ∗ F)) ∥₁
  laid-to-write =
      laid-in-front (λ b. cells (mem R) xs b 0) (λ b.
      via w₀.𝓤 ⟦ parts (mem R) (shares R) full_share xs b 0 ⟧₀ (snd∗ w₀.𝓤 ⟦ feq ℕ n n ⟧₀ ⟦ parts (mem R) (shares R) full_share xs b 0 ⟧₀) (all-cells R xs b 0))
