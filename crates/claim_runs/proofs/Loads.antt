-- What lies in memory is what the machine loads there: so a struct's value and the elements of a buffer are read off the memory, and there are
-- no others. By the model's law of a load, element by element. Assumes nothing.
use Prim.Native.Nat.{ℕ, ◌+◌}
use mathlib.Core.List.{List, [], ◌∷◌}
use mathlib.Core.Logic.{∥∥₁_map, ∥∥₁_elim, ∥∥₁_prop}
use mathlib.Core.Option.{Option, some}
use mathlib.Core.Path.{◌≡◌, refl, sym, ap, ap₂, subst, ◌∙◌}
use lib.IntN.{ℤ}
use lib.ListN.{length}
use base.Fraction.{full_share}
use mir.Syntax.{Width, w8, w32, w64, Ty, ty_int}
use mir.Val.{Val, to_z, bytes}
use mir.ValLaws.{to_z-of_z}
use base.Logic.{emp, never, never_e, via, mono_l, mono_r, comm∗, assoc∗, fst∗, snd∗}
use base.Fml.{Share, Fml, ftrue, fsep, fat}
use base.Stored.{Coded}
use prog.Memory.{Memory, load_m, size}
use contract.Adequate.{sat_weaken, sat_fact, sat_ex∗}
use contract.Monad.{fact, guard→fact}
use types.SemTy.{SemTy, cells}
use denote.Builtin.{u8, u32, i64}
use denote.Laws.{Is}
use denote.Memory.{mem, raw_all, cell_raw, lone, part_of}
use denote.RattleType.{RattleType}
use denote.Shadow.{shadow, shows_shadow}
use borrow.Fn.World.{w₀}
use Rattle.clock.specs.contracts.Clock as ClockType
use Rattle.claim.specs.Zeroed.{zeroed}
use Rattle.claim.proofs.Zeros.{zeros-are-zeroed}
use Rattle.claim_runs.specs.Handed.{Assertion, ◌∗◌, ⟦◌⟧₀, ◌⊨◌, At}
use Rattle.claim_runs.specs.Values.{number_in, loaded_in, elements_at, bytes_at, minutes_at, heights_at, value_in, value_at, clock_at, zero_memory}
use Rattle.claim_runs.proofs.Values.{first}

-- ---- what lies beside what

module _ (σ : Memory) (P Q F : Assertion) (s : σ ⊨ (P ∗ Q) ∗ F) where
  pub in-front : σ ⊨ P ∗ (Q ∗ F)
  in-front = sat_weaken w₀.𝓤 w₀.𝓛.H w₀.𝓜 σ (assoc∗ w₀.𝓤 P Q F) s

  pub behind : σ ⊨ Q ∗ (P ∗ F)
  behind = sat_weaken w₀.𝓤 w₀.𝓛.H w₀.𝓜 σ (via w₀.𝓤 ((Q ∗ P) ∗ F) (mono_l w₀.𝓤 F (comm∗ w₀.𝓤 P Q)) (assoc∗ w₀.𝓤 Q P F)) s

-- ---- one value

module _ (σ : Memory) where
  -- where nothing can lie, all follows
  none-lies : {X : Type 0} (F : Assertion) → σ ⊨ never w₀.𝓤 ∗ F → ∥ X ∥₁
  none-lies F s =
      ∥∥₁_elim (sat_fact w₀.𝓤 w₀.𝓛.H w₀.𝓜 σ (never w₀.𝓤 ∗ F) ⊥
      (via w₀.𝓤 (never w₀.𝓤 ∗ F) (snd∗ w₀.𝓤 (w₀.𝓜.mem σ) (never w₀.𝓤 ∗ F)) (via w₀.𝓤 (never w₀.𝓤) (fst∗ w₀.𝓤 (never w₀.𝓤) F) (never_e w₀.𝓤 (fact w₀.𝓤 ⊥)))) s)
      ∥∥₁_prop (λ x. absurd x)

  one_lies : (q : Share) (τ : Ty) (v : Val) (b o : ℕ) (F : Assertion) → σ ⊨ ⟦ fat q τ b o v ⟧₀ ∗ F → ∥ (load_m σ τ b o ≡ some v) ∥₁
  one_lies q τ v b o F s =
      let at : Assertion = ⟦ fat q τ b o v ⟧₀ in
      let m : Assertion = w₀.𝓜.mem σ in
      sat_fact w₀.𝓤 w₀.𝓛.H w₀.𝓜 σ (at ∗ F) (load_m σ τ b o ≡ some v)
      (via w₀.𝓤 (m ∗ at) (mono_r w₀.𝓤 m (fst∗ w₀.𝓤 at F)) (via w₀.𝓤 _ (w₀.𝓜.at_load σ q τ b o v) (guard→fact w₀.𝓤 (load_m σ τ b o ≡ some v) (m ∗ at)))) s

  -- the value that lies there, of a type that has one
  cell-loads : (q : Share) (τs : List Ty) (vs : List Val) (b o : ℕ) (F : Assertion) → σ ⊨ ⟦ cell_raw q τs vs b o ⟧₀ ∗ F → ∥ ((v : Val) × (vs ≡ v ∷ []) × (load_m σ (lone τs) b o ≡ some v)) ∥₁
  cell-loads q [] vs b o F s = none-lies F s
  cell-loads q (τ ∷ []) [] b o F s = none-lies F s
  cell-loads q (τ ∷ []) (v ∷ []) b o F s = ∥∥₁_map (one_lies q τ v b o F s) (λ e. (v, refl, e))
  cell-loads q (τ ∷ []) (v ∷ u ∷ vs) b o F s = none-lies F s
  cell-loads q (τ ∷ υ ∷ τs) vs b o F s = none-lies F s

-- a struct's value
pub value-loads : (σ : Memory) (R : RattleType) (q : Share) (v : Val) (b o : ℕ) (F : Assertion) → σ ⊨ ⟦ At R q v b o ⟧₀ ∗ F → ∥ (v ≡ value_at σ R b o) ∥₁
unfolding value_at
value-loads σ R q v b o F s = ∥∥₁_map (cell-loads σ q (raw_all R.mir) (v ∷ []) b o F s) (λ k. ap first k.1 ∙ sym (ap value_in k.2))

-- ---- one number

module _ (σ : Memory) (w : Width) {D : Type 0} (own : D → List Val → Fml) (h : D) (b o : ℕ) where
  -- the value that is loaded, and what the type says of it
  abbrev Loaded : Type 0
  Loaded = (v : Val) × (load_m σ (ty_int w) b o ≡ some v) × shadow (own h (v ∷ []))

  number-lies : (vs : List Val) (F : Assertion) → σ ⊨ ⟦ fsep (cell_raw full_share (ty_int w ∷ []) vs b o) (own h vs) ⟧₀ ∗ F → ∥ Loaded ∥₁
  number-lies vs F s =
      let P : Assertion = ⟦ cell_raw full_share (ty_int w ∷ []) vs b o ⟧₀ in
      let Q : Assertion = ⟦ own h vs ⟧₀ in
      ∥∥₁_elim (cell-loads σ full_share (ty_int w ∷ []) vs b o (Q ∗ F) (in-front σ P Q F s)) ∥∥₁_prop (λ k.
      ∥∥₁_map (sat_fact w₀.𝓤 w₀.𝓛.H w₀.𝓜 σ (Q ∗ (P ∗ F)) (shadow (own h vs))
      (via w₀.𝓤 (Q ∗ (P ∗ F)) (snd∗ w₀.𝓤 (w₀.𝓜.mem σ) (Q ∗ (P ∗ F))) (via w₀.𝓤 Q (fst∗ w₀.𝓤 Q (P ∗ F)) (shows_shadow w₀.𝓛 (own h vs)))) (behind σ P Q F s)) (λ is.
      (k.0, k.2, subst (λ (us : List Val). shadow (own h us)) k.1 is)))

  loads : (F : Assertion) → σ ⊨ ⟦ part_of (ty_int w ∷ []) own full_share h b o ⟧₀ ∗ F → ∥ Loaded ∥₁
  unfolding part_of
  loads F s =
      ∥∥₁_elim (sat_ex∗ w₀.𝓤 w₀.𝓛.H w₀.𝓜 σ (λ (vs : List Val). ⟦ fsep (cell_raw full_share (ty_int w ∷ []) vs b o) (own h vs) ⟧₀) F s) ∥∥₁_prop (λ p. number-lies p.0 F p.1)

-- ---- a buffer

-- numbers of the width w that lie side by side, of a type whose values can be read off the machine's
module _ (w : Width) {D : Type 0} (c : Coded D) (own : D → List Val → Fml) (read : ℕ → D) (reads : (h : D) (v : Val) → shadow (own h (v ∷ [])) → read (number_in v) ≡ h) where
  abbrev Number : SemTy
  Number = record { rep = D; coded = c; size = size (ty_int w); own_at = part_of (ty_int w ∷ []) own full_share }

  elements-read : (σ : Memory) (hs : List D) (b o : ℕ) (F : Assertion) → σ ⊨ ⟦ cells Number hs b o ⟧₀ ∗ F → ∥ (elements_at read w σ b o (length hs) ≡ hs) ∥₁
  unfolding elements_at
  elements-read σ [] b o F s = ∣ refl ∣₁
  elements-read σ (h ∷ hs) b o F s =
      let P : Assertion = ⟦ part_of (ty_int w ∷ []) own full_share h b o ⟧₀ in
      let Q : Assertion = ⟦ cells Number hs b (o + bytes w) ⟧₀ in
      ∥∥₁_elim (loads σ w own h b o (Q ∗ F) (in-front σ P Q F s)) ∥∥₁_prop (λ k.
      ∥∥₁_map (elements-read σ hs b (o + bytes w) (P ∗ F) (behind σ P Q F s)) (λ e. ap₂ ◌∷◌ (ap (λ (x : Option Val). read (loaded_in x)) k.1 ∙ reads h k.0 k.2) e))

  -- the one buffer that a run left, as many elements as there were
  elements-left : (σ : Memory) (hs hs' : List D) (b o : ℕ) (F : Assertion) → length hs' ≡ length hs → σ ⊨ ⟦ fsep (cells Number hs' b o) ftrue ⟧₀ ∗ F → ∥ (hs' ≡ elements_at read w σ b o (length hs)) ∥₁
  elements-left σ hs hs' b o F n s =
      ∥∥₁_map (elements-read σ hs' b o (emp w₀.𝓤 ∗ F) (in-front σ ⟦ cells Number hs' b o ⟧₀ (emp w₀.𝓤) F s)) (λ e. sym e ∙ ap (elements_at read w σ b o) n)

-- a byte, a minute and a height can be read
u8-reads : (n : ℕ) (v : Val) → shadow (u8.own_val n (v ∷ [])) → number_in v ≡ n
u8-reads n v is = ap (λ (vs : List Val). number_in (first vs)) is.0

u32-reads : (n : ℕ) (v : Val) → shadow (u32.own_val n (v ∷ [])) → number_in v ≡ n
u32-reads n v is = ap (λ (vs : List Val). number_in (first vs)) is.0

i64-reads : (h : ℤ) (v : Val) → shadow (i64.own_val h (v ∷ [])) → to_z w64 (number_in v) ≡ h
i64-reads h v is = ap (λ (vs : List Val). to_z w64 (number_in (first vs))) is.0 ∙ to_z-of_z w64 h (record { sfits = is.1 })

minutes-read : (σ : Memory) (ms : List ℕ) (b o : ℕ) (F : Assertion) → σ ⊨ ⟦ cells (mem u32) ms b o ⟧₀ ∗ F → ∥ (minutes_at σ b o (length ms) ≡ ms) ∥₁
minutes-read = elements-read w32 u32.coded u32.own_val (λ (n : ℕ). n) u32-reads

heights-read : (σ : Memory) (hs : List ℤ) (b o : ℕ) (F : Assertion) → σ ⊨ ⟦ cells (mem i64) hs b o ⟧₀ ∗ F → ∥ (heights_at σ b o (length hs) ≡ hs) ∥₁
heights-read = elements-read w64 i64.coded i64.own_val (to_z w64) i64-reads

-- ---- the buffers that a run left, as many elements as there were

pub heights-left : (σ : Memory) (hs hs' : List ℤ) (b o : ℕ) (F : Assertion) → length hs' ≡ length hs → σ ⊨ ⟦ fsep (cells (mem i64) hs' b o) ftrue ⟧₀ ∗ F
    → ∥ (hs' ≡ heights_at σ b o (length hs)) ∥₁
heights-left = elements-left w64 i64.coded i64.own_val (to_z w64) i64-reads

pub bytes_left : (σ : Memory) (bs bs' : List ℕ) (b o : ℕ) (F : Assertion) → length bs' ≡ length bs → σ ⊨ ⟦ fsep (cells (mem u8) bs' b o) ftrue ⟧₀ ∗ F
    → ∥ (bs' ≡ bytes_at σ b o (length bs)) ∥₁
bytes_left = elements-left w8 u8.coded u8.own_val (λ (n : ℕ). n) u8-reads

-- .. behind what lay there to be read
pub heights-left-behind : (σ : Memory) (P : Fml) (hs hs' : List ℤ) (b o : ℕ) (F : Assertion) → length hs' ≡ length hs → σ ⊨ ⟦ fsep P (fsep (cells (mem i64) hs' b o) ftrue) ⟧₀ ∗ F
    → ∥ (hs' ≡ heights_at σ b o (length hs)) ∥₁
heights-left-behind σ P hs hs' b o F n s = heights-left σ hs hs' b o (⟦ P ⟧₀ ∗ F) n (behind σ ⟦ P ⟧₀ ⟦ fsep (cells (mem i64) hs' b o) ftrue ⟧₀ F s)

pub turns-left : (σ : Memory) (ms ms' : List ℕ) (b o : ℕ) (hs hs' : List ℤ) (b₁ o₁ : ℕ) (F : Assertion) → length ms' ≡ length ms → length hs' ≡ length hs
    → σ ⊨ ⟦ fsep (cells (mem u32) ms' b o) (fsep (cells (mem i64) hs' b₁ o₁) ftrue) ⟧₀ ∗ F → ∥ ((ms' ≡ minutes_at σ b o (length ms)) × (hs' ≡ heights_at σ b₁ o₁ (length hs))) ∥₁
turns-left σ ms ms' b o hs hs' b₁ o₁ F m n s =
    let P : Assertion = ⟦ cells (mem u32) ms' b o ⟧₀ in
    let Q : Assertion = ⟦ fsep (cells (mem i64) hs' b₁ o₁) ftrue ⟧₀ in
    ∥∥₁_elim (minutes-read σ ms' b o (Q ∗ F) (in-front σ P Q F s)) ∥∥₁_prop (λ d.
    ∥∥₁_map (heights-left σ hs hs' b₁ o₁ (P ∗ F) n (behind σ P Q F s)) (λ e. (sym d ∙ ap (minutes_at σ b o) m, e)))

pub sheet-left : (σ : Memory) (ss ss' : List ℤ) (b o : ℕ) (ms ms' : List ℕ) (b₁ o₁ : ℕ) (hs hs' : List ℤ) (b₂ o₂ : ℕ) (F : Assertion) → length ss' ≡ length ss → length ms' ≡ length ms → length hs' ≡ length hs
    → σ ⊨ ⟦ fsep (cells (mem i64) ss' b o) (fsep (cells (mem u32) ms' b₁ o₁) (fsep (cells (mem i64) hs' b₂ o₂) ftrue)) ⟧₀ ∗ F
    → ∥ (◌≡◌ {A = List ℤ × (List ℕ × List ℤ)} (ss', (ms', hs')) (heights_at σ b o (length ss), (minutes_at σ b₁ o₁ (length ms), heights_at σ b₂ o₂ (length hs)))) ∥₁
sheet-left σ ss ss' b o ms ms' b₁ o₁ hs hs' b₂ o₂ F l m n s =
    let P : Assertion = ⟦ cells (mem i64) ss' b o ⟧₀ in
    let Q : Assertion = ⟦ fsep (cells (mem u32) ms' b₁ o₁) (fsep (cells (mem i64) hs' b₂ o₂) ftrue) ⟧₀ in
    ∥∥₁_elim (heights-read σ ss' b o (Q ∗ F) (in-front σ P Q F s)) ∥∥₁_prop (λ d.
    ∥∥₁_map (turns-left σ ms ms' b₁ o₁ hs hs' b₂ o₂ (P ∗ F) m n (behind σ P Q F s)) (λ e.
    ap₂ (λ (xs : List ℤ) (zs : List ℕ × List ℤ). (xs, zs)) (sym d ∙ ap (heights_at σ b o) l) (ap₂ (λ (ys : List ℕ) (zs : List ℤ). (ys, zs)) e.0 e.1)))

-- ---- memory of nothing but zeros

pub zeros_load : Is ClockType.the_row zeroed (clock_at zero_memory 0 0 ∷ [])
unfolding value_at
zeros_load = zeros-are-zeroed
