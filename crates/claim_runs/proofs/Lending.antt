-- The caller's side of what is handed over: each buffer, and each struct in memory, is lent for one call, under a lifetime and a name of its
-- own, and lies in memory again after it. By induction on what is handed over, from the rules of one that is lent. Assumes nothing.
use Prim.Native.Nat.{ℕ, suc}
use mathlib.Core.List.{List, [], ◌∷◌}
use mathlib.Core.Path.{◌≡◌, refl, sym, subst, ◌∙◌}
use lib.ListN.{length}
use seplogic.Ra.Ura.{Ura}
use base.Fraction.{full_share}
use mir.Syntax.{named}
use mir.Val.{Val, vptr}
use base.Logic.{SProp, ent, sep, ex, emp, id⊢, via, mono_r, mono∗}
use base.Fml.{GName, Share, Fml, ftrue, feq, fsep, fres, flft, flent, fbor, Incl-refl}
use types.Logic.{Logic, sem, lfts}
use ghost.Rules.{Toks}
use contract.Lifetimes.{Lfts, Shares}
use types.Kit.{‵, raw, ◌⊛◌, some, later, ◌$◌, ◌∵◌, !, qed, move, keep, drop, rewrite, use0, use1, use2, use3, split, join, pick, fsplit, fjoin, fpick, fpack, await, updating, now as at_once, show, done}
use types.Tokens.{lft_new, lft_end, lent_back}
use types.SemTy.{cells, Arr, Body}
use types.Hole.{Holey}
use denote.Copied.{Copied}
use denote.RattleType.{RattleType, Denots, Valss, owns}
use denote.Laws.{Is, Makes, shows}
use denote.Lend.{Held, lends_slice, slice_back, lends_shr_slice, lends_ref, ref_back, lends_shr}
use denote.Lowered.{Lowered}
use denote.Memory.{cell_at, part_at, part_of, mem}
use denote.Ref.{Bor, MutBor, MutRef, ShrRef}
use denote.Shadow.{shadow}
use denote.Slice.{slice_val, MutSlice, ShrSlice, Room, finally}
use denote.Steps.{owned, facts, nothing}
use Rattle.claim_runs.specs.Handed.{Handed, value, reads, writes, sees, changes, Fit, Lie, At, lie, Written, lie_after}

-- the reference to what lies at (b, o): to be written to, and to be read
abbrev pub lent : {X : Type 0} → ℕ → ℕ → GName → X → MutBor X
lent b o γ x = record { ref_ptr = (b, o); ghost_name = γ; now = x }

abbrev pub shown : {X : Type 0} → ℕ → ℕ → X → Bor X
shown b o x = record { ref_ptr = (b, o); now = x }

-- ---- what the structs in memory stand for

-- what the machine's value v stands for, of a type whose values have one machine's value each
pub record Means (R : RattleType) (v : Val) : Type 0 where
  pub it : R.Denot
  pub is : Is R it (v ∷ [])
  pub lowers : Lowered R

abbrev pub Meant : List Handed → Type 0
Meant [] = Unit {0}
Meant (value R x v ∷ hs) = Meant hs
Meant (reads R q ys b o ∷ hs) = Meant hs
Meant (writes R ys b o ∷ hs) = Meant hs
Meant (sees R q v b o ∷ hs) = Means R v × Meant hs
Meant (changes R v b o ∷ hs) = Means R v × Meant hs

-- ---- what a function's signature makes of what is handed over

-- a lifetime and a name for each that is lent
abbrev pub Names : List Handed → Type 0
Names [] = Unit {0}
Names (value R x v ∷ hs) = Names hs
Names (reads R q ys b o ∷ hs) = (ℕ × GName) × Names hs
Names (writes R ys b o ∷ hs) = (ℕ × GName) × Names hs
Names (sees R q v b o ∷ hs) = (ℕ × GName) × Names hs
Names (changes R v b o ∷ hs) = (ℕ × GName) × Names hs

-- how many are lent, their lifetimes, and the whole of each lifetime's token
abbrev pub count : List Handed → ℕ
count [] = 0
count (value R x v ∷ hs) = count hs
count (reads R q ys b o ∷ hs) = suc (count hs)
count (writes R ys b o ∷ hs) = suc (count hs)
count (sees R q v b o ∷ hs) = suc (count hs)
count (changes R v b o ∷ hs) = suc (count hs)

abbrev pub lifetimes : (hs : List Handed) → Names hs → Lfts (count hs)
lifetimes [] ns = tt
lifetimes (value R x v ∷ hs) ns = lifetimes hs ns
lifetimes (reads R q ys b o ∷ hs) ns = (ns.0.0 ∷ [], lifetimes hs ns.1)
lifetimes (writes R ys b o ∷ hs) ns = (ns.0.0 ∷ [], lifetimes hs ns.1)
lifetimes (sees R q v b o ∷ hs) ns = (ns.0.0 ∷ [], lifetimes hs ns.1)
lifetimes (changes R v b o ∷ hs) ns = (ns.0.0 ∷ [], lifetimes hs ns.1)

abbrev pub wholes : (hs : List Handed) → Shares (count hs)
wholes [] = tt
wholes (value R x v ∷ hs) = wholes hs
wholes (reads R q ys b o ∷ hs) = (full_share, wholes hs)
wholes (writes R ys b o ∷ hs) = (full_share, wholes hs)
wholes (sees R q v b o ∷ hs) = (full_share, wholes hs)
wholes (changes R v b o ∷ hs) = (full_share, wholes hs)

-- the types, the first lifetime being number j, with what they denote and the machine's values
abbrev pub types_of : ℕ → (hs : List Handed) → Names hs → List RattleType
types_of j [] ns = []
types_of j (value R x v ∷ hs) ns = R ∷ types_of j hs ns
types_of j (reads R q ys b o ∷ hs) ns = ShrSlice (named j) (ns.0.0 ∷ []) R ∷ types_of (suc j) hs ns.1
types_of j (writes R ys b o ∷ hs) ns = MutSlice (named j) (ns.0.0 ∷ []) R ∷ types_of (suc j) hs ns.1
types_of j (sees R q v b o ∷ hs) ns = ShrRef (named j) (ns.0.0 ∷ []) R ∷ types_of (suc j) hs ns.1
types_of j (changes R v b o ∷ hs) ns = MutRef (named j) (ns.0.0 ∷ []) R ∷ types_of (suc j) hs ns.1

abbrev pub denotes : (j : ℕ) (hs : List Handed) → Meant hs → (ns : Names hs) → Denots (types_of j hs ns)
denotes j [] ms ns = tt
denotes j (value R x v ∷ hs) ms ns = (x, denotes j hs ms ns)
denotes j (reads R q ys b o ∷ hs) ms ns = (shown b o ys, denotes (suc j) hs ms ns.1)
denotes j (writes R ys b o ∷ hs) ms ns = (lent b o ns.0.1 ys, denotes (suc j) hs ms ns.1)
denotes j (sees R q v b o ∷ hs) ms ns = (shown b o ms.0.it, denotes (suc j) hs ms.1 ns.1)
denotes j (changes R v b o ∷ hs) ms ns = (lent b o ns.0.1 ms.0.it, denotes (suc j) hs ms.1 ns.1)

abbrev pub values_of : (j : ℕ) (hs : List Handed) (ns : Names hs) → Valss (types_of j hs ns)
values_of j [] ns = tt
values_of j (value R x v ∷ hs) ns = (v ∷ [], values_of j hs ns)
values_of j (reads R q ys b o ∷ hs) ns = (slice_val (b, o) (length ys) ∷ [], values_of (suc j) hs ns.1)
values_of j (writes R ys b o ∷ hs) ns = (slice_val (b, o) (length ys) ∷ [], values_of (suc j) hs ns.1)
values_of j (sees R q v b o ∷ hs) ns = (vptr b o ∷ [], values_of (suc j) hs ns.1)
values_of j (changes R v b o ∷ hs) ns = (vptr b o ∷ [], values_of (suc j) hs ns.1)

-- what the lender keeps
abbrev pub lender : (hs : List Handed) → Meant hs → Names hs → Fml
lender [] ms ns = ftrue
lender (value R x v ∷ hs) ms ns = lender hs ms ns
lender (reads R q ys b o ∷ hs) ms ns = fsep (flent (ns.0.0 ∷ []) (Lie R q ys b o)) (lender hs ms ns.1)
lender (writes R ys b o ∷ hs) ms ns = fsep (flent (ns.0.0 ∷ []) (Held R (length ys) b o ns.0.1)) (lender hs ms ns.1)
lender (sees R q v b o ∷ hs) ms ns = fsep (flent (ns.0.0 ∷ []) (part_at R q ms.0.it b o)) (lender hs ms.1 ns.1)
lender (changes R v b o ∷ hs) ms ns = fsep (flent (ns.0.0 ∷ []) (Body (mem R) b o ns.0.1)) (lender hs ms.1 ns.1)

-- ---- what a function says of its parameters at its end

-- the last elements of a buffer that is written to, and the last value of a struct that is changed
abbrev pub Lasting : List Handed → Type 0
Lasting [] = Unit {0}
Lasting (value R x v ∷ hs) = Lasting hs
Lasting (reads R q ys b o ∷ hs) = Lasting hs
Lasting (writes R ys b o ∷ hs) = List R.Denot × Lasting hs
Lasting (sees R q v b o ∷ hs) = Lasting hs
Lasting (changes R v b o ∷ hs) = R.Denot × Lasting hs

abbrev pub ends : (hs : List Handed) → Names hs → Lasting hs → Fml
ends [] ns ls = ftrue
ends (value R x v ∷ hs) ns ls = fsep ftrue (ends hs ns ls)
ends (reads R q ys b o ∷ hs) ns ls = fsep ftrue (ends hs ns.1 ls)
ends (writes R ys b o ∷ hs) ns ls =
    fsep (fsep (fsep (finally R ns.0.1 ls.0) (feq ℕ (length ls.0) (length ys))) (fbor (ns.0.0 ∷ []) (Body (Arr (Holey (mem R)) (length ys)) b o ns.0.1))) (ends hs ns.1 ls.1)
ends (sees R q v b o ∷ hs) ns ls = fsep ftrue (ends hs ns.1 ls)
ends (changes R v b o ∷ hs) ns ls = fsep (fsep (fres ns.0.1 (R.coded.code ls.0)) (fbor (ns.0.0 ∷ []) (Body (mem R) b o ns.0.1))) (ends hs ns.1 ls.1)

-- as many elements as there were
abbrev pub AsMany : (hs : List Handed) → Lasting hs → Type 0
AsMany [] ls = Unit {0}
AsMany (value R x v ∷ hs) ls = AsMany hs ls
AsMany (reads R q ys b o ∷ hs) ls = AsMany hs ls
AsMany (writes R ys b o ∷ hs) ls = (length ls.0 ≡ length ys) × AsMany hs ls.1
AsMany (sees R q v b o ∷ hs) ls = AsMany hs ls
AsMany (changes R v b o ∷ hs) ls = AsMany hs ls.1

pub as_many : (hs : List Handed) (ns : Names hs) (ls : Lasting hs) → shadow (ends hs ns ls) → AsMany hs ls
as_many [] ns ls s = tt
as_many (value R x v ∷ hs) ns ls s = as_many hs ns ls s.1
as_many (reads R q ys b o ∷ hs) ns ls s = as_many hs ns.1 ls s.1
as_many (writes R ys b o ∷ hs) ns ls s = (s.0.0.1, as_many hs ns.1 ls.1 s.1)
as_many (sees R q v b o ∷ hs) ns ls s = as_many hs ns.1 ls s.1
as_many (changes R v b o ∷ hs) ns ls s = as_many hs ns.1 ls.1 s.1

-- ---- what lies in memory after it

-- all lie where they lay, each with what its type owns
abbrev pub lie_again : (hs : List Handed) → Meant hs → Lasting hs → Fml
lie_again [] ms ls = ftrue
lie_again (value R x v ∷ hs) ms ls = lie_again hs ms ls
lie_again (reads R q ys b o ∷ hs) ms ls = fsep (Lie R q ys b o) (lie_again hs ms ls)
lie_again (writes R ys b o ∷ hs) ms ls = fsep (cells (mem R) ls.0 b o) (lie_again hs ms ls.1)
lie_again (sees R q v b o ∷ hs) ms ls = fsep (part_at R q ms.0.it b o) (lie_again hs ms.1 ls)
lie_again (changes R v b o ∷ hs) ms ls = fsep (part_at R full_share ls.0 b o) (lie_again hs ms.1 ls.1)

-- what was written and left, of a struct the machine's value
abbrev pub written : (hs : List Handed) → Meant hs → Lasting hs → Written hs
written [] ms ls = tt
written (value R x v ∷ hs) ms ls = written hs ms ls
written (reads R q ys b o ∷ hs) ms ls = written hs ms ls
written (writes R ys b o ∷ hs) ms ls = (ls.0, written hs ms ls.1)
written (sees R q v b o ∷ hs) ms ls = written hs ms.1 ls
written (changes R v b o ∷ hs) ms ls = (ms.0.lowers.lowered ls.0, written hs ms.1 ls.1)

-- that value stands for the struct's last value
abbrev pub Stand : (hs : List Handed) → Meant hs → Lasting hs → Type 0
Stand [] ms ls = Unit {0}
Stand (value R x v ∷ hs) ms ls = Stand hs ms ls
Stand (reads R q ys b o ∷ hs) ms ls = Stand hs ms ls
Stand (writes R ys b o ∷ hs) ms ls = Stand hs ms ls.1
Stand (sees R q v b o ∷ hs) ms ls = Stand hs ms.1 ls
Stand (changes R v b o ∷ hs) ms ls = Is R ls.0 (ms.0.lowers.lowered ls.0 ∷ []) × Stand hs ms.1 ls.1

pub stand : (hs : List Handed) (ms : Meant hs) (ls : Lasting hs) → shadow (lie_again hs ms ls) → Stand hs ms ls
unfolding part_of
stand [] ms ls s = tt
stand (value R x v ∷ hs) ms ls s = stand hs ms ls s
stand (reads R q ys b o ∷ hs) ms ls s = stand hs ms ls s.1
stand (writes R ys b o ∷ hs) ms ls s = stand hs ms ls.1 s.1
stand (sees R q v b o ∷ hs) ms ls s = stand hs ms.1 ls s.1
stand (changes R v b o ∷ hs) ms ls s = (subst (Is R ls.0) (ms.0.lowers.val_is ls.0 s.0.0 s.0.1.1) s.0.1.1, stand hs ms.1 ls.1 s.1)

module _ {M : Type 1} {𝓤 : Ura M} (𝓛 : Logic 𝓤) where
  open 𝓛 use {H, A}

  abbrev ⟦◌⟧ : Fml → SProp 𝓤
  ⟦ P ⟧ = sem 𝓛 P

  -- a value is had for nothing, and so is what a struct in memory owns
  abbrev pub Made : List Handed → Type 1
  Made [] = Unit {1}
  Made (value R x v ∷ hs) = Makes 𝓛 R (Is R) × Made hs
  Made (reads R q ys b o ∷ hs) = Copied 𝓛 R × Made hs
  Made (writes R ys b o ∷ hs) = Made hs
  Made (sees R q v b o ∷ hs) = Makes 𝓛 R (Is R) × Copied 𝓛 R × Made hs
  Made (changes R v b o ∷ hs) = Makes 𝓛 R (Is R) × Made hs

  abbrev pub tokens : (hs : List Handed) → Names hs → SProp 𝓤
  tokens [] ns = emp 𝓤
  tokens (value R x v ∷ hs) ns = tokens hs ns
  tokens (reads R q ys b o ∷ hs) ns = sep 𝓤 (A.lft (ns.0.0 ∷ []) full_share) (tokens hs ns.1)
  tokens (writes R ys b o ∷ hs) ns = sep 𝓤 (A.lft (ns.0.0 ∷ []) full_share) (tokens hs ns.1)
  tokens (sees R q v b o ∷ hs) ns = sep 𝓤 (A.lft (ns.0.0 ∷ []) full_share) (tokens hs ns.1)
  tokens (changes R v b o ∷ hs) ns = sep 𝓤 (A.lft (ns.0.0 ∷ []) full_share) (tokens hs ns.1)

  -- what the function gets, and what the lender keeps
  abbrev pub Lent : (j : ℕ) (hs : List Handed) → Meant hs → Names hs → SProp 𝓤
  Lent j hs ms ns = sep 𝓤 (tokens hs ns) (sep 𝓤 ⟦ owns (types_of j hs ns) (denotes j hs ms ns) (values_of j hs ns) ⟧ ⟦ lender hs ms ns ⟧)

  module _ where
    -- ---- one that is lent, for the lifetime α under the name γ: what the function gets of it, and what the lender keeps

    abbrev One : (ℕ → GName → Fml) → (ℕ → GName → Fml) → ℕ × GName → SProp 𝓤
    One Own Kept p = sep 𝓤 ⟦ flft (p.0 ∷ []) full_share ⟧ (sep 𝓤 ⟦ Own p.0 p.1 ⟧ ⟦ flent (p.0 ∷ []) (Kept p.0 p.1) ⟧)

    -- by the rule for any lifetime
    lend-one : (P : Fml) (Own Kept : ℕ → GName → Fml) → ((α : ℕ) → ent 𝓤 ⟦ P ⟧ (H.⇛ (ex 𝓤 (λ (γ : GName). sep 𝓤 ⟦ Own α γ ⟧ ⟦ flent (α ∷ []) (Kept α γ) ⟧)))) → ent 𝓤 ⟦ P ⟧ (H.⇛ (ex 𝓤 (One Own Kept)))
    lend-one P Own Kept rule =
        qed 𝓛 (‵ P ∷ []) ∵ updating ! $ lft_new ! tt (λ α. move ! (1 ∷ []) $ use1 𝓛 (later (some (λ (γ : GName). ‵ (Own α γ) ⊛ ‵ (flent (α ∷ []) (Kept α γ))))) (rule α) $ await ! tt $
        pick ! (λ γ. split ! $ move ! (2 ∷ 0 ∷ 1 ∷ []) $ at_once ! $ show ! (One Own Kept) (α, γ) $ done !))

    abbrev token : ℕ → Toks
    token α = (α ∷ [], full_share) ∷ []

    -- by the rule that uses the lifetime's token, which comes back
    lend-shown : (P : Fml) (Own : ℕ → Fml) → ((α : ℕ) → ent 𝓤 (sep 𝓤 ⟦ P ⟧ (lfts 𝓛 (token α))) (H.⇛ (sep 𝓤 (sep 𝓤 ⟦ Own α ⟧ ⟦ flent (α ∷ []) P ⟧) (lfts 𝓛 (token α)))))
        → ent 𝓤 ⟦ P ⟧ (H.⇛ (ex 𝓤 (One (λ α γ. Own α) (λ α γ. P))))
    lend-shown P Own rule =
        qed 𝓛 (‵ P ∷ []) ∵ updating ! $ lft_new ! tt (λ α. move ! (1 ∷ 0 ∷ []) $ use2 𝓛 (later ((‵ (Own α) ⊛ ‵ (flent (α ∷ []) P)) ⊛ ‵ (flft (α ∷ []) full_share))) (rule α) $ await ! tt $
        split ! $ split ! $ move ! (2 ∷ 0 ∷ 1 ∷ []) $ at_once ! $ show ! (One (λ α γ. Own α) (λ α γ. P)) (α, 0) $ done !)

    -- before the others
    abbrev First : (j : ℕ) (hs : List Handed) → Meant hs → (ℕ → GName → Fml) → (ℕ → GName → Fml) → (ℕ × GName) × Names hs → SProp 𝓤
    First j hs ms Own Kept n =
        sep 𝓤 (sep 𝓤 (A.lft (n.0.0 ∷ []) full_share) (tokens hs n.1))
        (sep 𝓤 ⟦ fsep (Own n.0.0 n.0.1) (owns (types_of j hs n.1) (denotes j hs ms n.1) (values_of j hs n.1)) ⟧ ⟦ fsep (flent (n.0.0 ∷ []) (Kept n.0.0 n.0.1)) (lender hs ms n.1) ⟧)

    lend-first : (j : ℕ) (hs : List Handed) (ms : Meant hs) (P : Fml) (Own Kept : ℕ → GName → Fml) → ent 𝓤 ⟦ P ⟧ (H.⇛ (ex 𝓤 (One Own Kept))) → ent 𝓤 ⟦ lie hs ⟧ (H.⇛ (ex 𝓤 (Lent j hs ms)))
        → ent 𝓤 ⟦ fsep P (lie hs) ⟧ (H.⇛ (ex 𝓤 (First j hs ms Own Kept)))
    lend-first j hs ms P Own Kept one others =
        qed 𝓛 (‵ (fsep P (lie hs)) ∷ []) ∵ updating ! $ fsplit ! $
        use1 𝓛 (later (some (λ (p : ℕ × GName). ‵ (flft (p.0 ∷ []) full_share) ⊛ (‵ (Own p.0 p.1) ⊛ ‵ (flent (p.0 ∷ []) (Kept p.0 p.1)))))) one $ await ! tt $
        pick ! (λ p. split ! $ move ! (1 ∷ []) $ split ! $ move ! (3 ∷ []) $
        use1 𝓛 (later (some (λ (ns : Names hs). raw (tokens hs ns) ⊛ (‵ (owns (types_of j hs ns) (denotes j hs ms ns) (values_of j hs ns)) ⊛ ‵ (lender hs ms ns))))) others $ await ! tt $
        pick ! (λ ns. split ! $ move ! (1 ∷ []) $ split ! $ move ! (3 ∷ 0 ∷ []) $ fjoin ! $ move ! (3 ∷ 1 ∷ []) $ fjoin ! $ move ! (3 ∷ 2 ∷ []) $ join ! $ move ! (0 ∷ 2 ∷ 1 ∷ []) $
        at_once ! $ show ! (First j hs ms Own Kept) (p, ns) $ done !))

    -- taken back, before the others
    take-first : (hs : List Handed) (ms : Meant hs) (ns : Names hs) (ls : Lasting hs) (α : ℕ) (Kept Says P : Fml)
        → ent 𝓤 (sep 𝓤 ⟦ flft (α ∷ []) full_share ⟧ (sep 𝓤 ⟦ flent (α ∷ []) Kept ⟧ ⟦ Says ⟧)) (H.⇛ ⟦ P ⟧)
        → ent 𝓤 (sep 𝓤 (tokens hs ns) (sep 𝓤 ⟦ lender hs ms ns ⟧ ⟦ ends hs ns ls ⟧)) (H.⇛ ⟦ lie_again hs ms ls ⟧)
        → ent 𝓤 (sep 𝓤 (sep 𝓤 (A.lft (α ∷ []) full_share) (tokens hs ns)) (sep 𝓤 ⟦ fsep (flent (α ∷ []) Kept) (lender hs ms ns) ⟧ ⟦ fsep Says (ends hs ns ls) ⟧)) (H.⇛ ⟦ fsep P (lie_again hs ms ls) ⟧)
    take-first hs ms ns ls α Kept Says P one others =
        qed 𝓛 ((‵ (flft (α ∷ []) full_share) ⊛ raw (tokens hs ns)) ∷ ‵ (fsep (flent (α ∷ []) Kept) (lender hs ms ns)) ∷ ‵ (fsep Says (ends hs ns ls)) ∷ []) ∵
        updating ! $ split ! $ move ! (2 ∷ []) $ fsplit ! $ move ! (4 ∷ []) $ fsplit ! $ move ! (4 ∷ 2 ∷ 0 ∷ []) $
        use3 𝓛 (later (‵ P)) one $ await ! tt $ move ! (3 ∷ 2 ∷ 1 ∷ []) $
        use3 𝓛 (later (‵ (lie_again hs ms ls))) others $ await ! tt $ move ! (1 ∷ 0 ∷ []) $ fjoin ! $ at_once ! $ done !

    -- what is lent to be read or seen: the lender has it back whatever the function says
    take-shr : (P Says : Fml) (α : ℕ) → ent 𝓤 (sep 𝓤 ⟦ flft (α ∷ []) full_share ⟧ (sep 𝓤 ⟦ flent (α ∷ []) P ⟧ ⟦ Says ⟧)) (H.⇛ ⟦ P ⟧)
    take-shr P Says α = qed 𝓛 (‵ (flft (α ∷ []) full_share) ∷ ‵ (flent (α ∷ []) P) ∷ ‵ Says ∷ []) ∵ updating ! $ lft_end ! tt $ lent_back ! tt $ at_once ! $ keep ! (0 ∷ []) $ done !

    -- a buffer
    take-mut : (R : RattleType) (n : ℕ) (zs : List R.Denot) (b o α : ℕ) (γ : GName)
        → ent 𝓤 (sep 𝓤 ⟦ flft (α ∷ []) full_share ⟧ (sep 𝓤 ⟦ flent (α ∷ []) (Held R n b o γ) ⟧ ⟦ fsep (fsep (finally R γ zs) (feq ℕ (length zs) n)) (fbor (α ∷ []) (Body (Arr (Holey (mem R)) n) b o γ)) ⟧)) (H.⇛ ⟦ cells (mem R) zs b o ⟧)
    take-mut R n zs b o α γ =
        qed 𝓛 (‵ (flft (α ∷ []) full_share) ∷ ‵ (flent (α ∷ []) (Held R n b o γ)) ∷ ‵ (fsep (fsep (finally R γ zs) (feq ℕ (length zs) n)) (fbor (α ∷ []) (Body (Arr (Holey (mem R)) n) b o γ))) ∷ []) ∵ updating ! $ lft_end ! tt $ move ! (2 ∷ []) $ fsplit ! $ fsplit ! $ move ! (3 ∷ 4 ∷ 0 ∷ []) $
        use3 𝓛 (later (‵ ((Arr (mem R) n).own_at zs b o))) (slice_back 𝓛 R (α ∷ []) γ zs n b o) $ await ! tt $ at_once ! $ fsplit ! $ keep ! (1 ∷ []) $ done !

    -- a struct: what its type owns is made, and let go
    pub owns-too : (R : RattleType) (q : Share) {v : Val} (m : Means R v) (b o : ℕ) → Makes 𝓛 R (Is R) → ent 𝓤 ⟦ At R q v b o ⟧ ⟦ part_at R q m.it b o ⟧
    unfolding part_of
    owns-too R q {v} m b o makes =
        qed 𝓛 (‵ (At R q v b o) ∷ []) ∵ owned ! R (Is R) makes m.it (v ∷ []) m.is $ move ! (1 ∷ 0 ∷ []) $ fjoin ! $
        fpack ! (List Val) (λ vs. fsep (cell_at q R.mir vs b o) (R.own_val m.it vs)) (v ∷ []) $ done !

    only-lies : (R : RattleType) (q : Share) (l : Lowered R) (x : R.Denot) (us : List Val) (b o : ℕ) → us ≡ l.lowered x ∷ [] → ent 𝓤 ⟦ part_at R q x b o ⟧ ⟦ cell_at q R.mir us b o ⟧
    unfolding part_of
    only-lies R q l x us b o e =
        qed 𝓛 (‵ (part_at R q x b o) ∷ []) ∵ fpick ! (λ vs. fsplit ! $ move ! (1 ∷ []) $ facts ! R (Is R) (shows 𝓛 R) x vs (λ is.
        rewrite ! 0 (λ (ws : List Val). ‵ (cell_at q R.mir ws b o)) (l.val_is x vs is ∙ sym e) refl $ done !))

    take-changed : (R : RattleType) (x : R.Denot) (b o α : ℕ) (γ : GName)
        → ent 𝓤 (sep 𝓤 ⟦ flft (α ∷ []) full_share ⟧ (sep 𝓤 ⟦ flent (α ∷ []) (Body (mem R) b o γ) ⟧ ⟦ fsep (fres γ (R.coded.code x)) (fbor (α ∷ []) (Body (mem R) b o γ)) ⟧)) (H.⇛ ⟦ part_at R full_share x b o ⟧)
    take-changed R x b o α γ =
        qed 𝓛 (‵ (flft (α ∷ []) full_share) ∷ ‵ (flent (α ∷ []) (Body (mem R) b o γ)) ∷ ‵ (fsep (fres γ (R.coded.code x)) (fbor (α ∷ []) (Body (mem R) b o γ))) ∷ []) ∵ updating ! $ lft_end ! tt $ move ! (2 ∷ []) $ fsplit ! $ move ! (2 ∷ 3 ∷ 0 ∷ []) $
        use3 𝓛 (later (‵ (part_at R full_share x b o))) (ref_back 𝓛 R (α ∷ []) γ x b o) $ await ! tt $ at_once ! $ keep ! (0 ∷ []) $ done !

    -- ---- all of them

    pub lend-all : (j : ℕ) (hs : List Handed) (ms : Meant hs) → Fit hs → Made hs → ent 𝓤 ⟦ lie hs ⟧ (H.⇛ (ex 𝓤 (Lent j hs ms)))
    lend-all j [] ms fit made =
        qed 𝓛 (‵ ftrue ∷ []) ∵ updating ! $ at_once ! $ show ! (Lent j [] ms) tt $ nothing ! $ nothing ! $ done !
    lend-all j (value R x v ∷ hs) ms fit made =
        qed 𝓛 (‵ (lie hs) ∷ []) ∵ updating ! $
        use1 𝓛 (later (some (λ (ns : Names hs). raw (tokens hs ns) ⊛ (‵ (owns (types_of j hs ns) (denotes j hs ms ns) (values_of j hs ns)) ⊛ ‵ (lender hs ms ns))))) (lend-all j hs ms fit.1 made.1) $ await ! tt $
        pick ! (λ ns. split ! $ move ! (1 ∷ []) $ split ! $ owned ! R (Is R) made.0 x (v ∷ []) fit.0 $ fjoin ! $ move ! (2 ∷ 0 ∷ 1 ∷ []) $
        at_once ! $ show ! (Lent j (value R x v ∷ hs) ms) ns $ done !)
    lend-all j (reads R q ys b o ∷ hs) ms fit made =
        let Own : ℕ → GName → Fml = λ α γ. (ShrSlice (named j) (α ∷ []) R).own_val (shown b o ys) (slice_val (b, o) (length ys) ∷ []) in
        let Kept : ℕ → GName → Fml = λ α γ. Lie R q ys b o in
        lend-first (suc j) hs ms (Lie R q ys b o) Own Kept (lend-shown (Lie R q ys b o) (λ α. Own α 0) (λ α. lends_shr_slice 𝓛 R (named j) (α ∷ []) q ys b o fit.0 (α ∷ []) (made.0.shares q (α ∷ [])) (token α) (Incl-refl (α ∷ [])) (Incl-refl (α ∷ [])))) (lend-all (suc j) hs ms fit.1 made.1)
    lend-all j (writes R ys b o ∷ hs) ms fit made =
        let Own : ℕ → GName → Fml = λ α γ. (MutSlice (named j) (α ∷ []) R).own_val (lent b o γ ys) (slice_val (b, o) (length ys) ∷ []) in
        let Kept : ℕ → GName → Fml = λ α γ. Held R (length ys) b o γ in
        lend-first (suc j) hs ms (cells (mem R) ys b o) Own Kept (lend-one (cells (mem R) ys b o) Own Kept (λ α. lends_slice 𝓛 R (named j) (α ∷ []) ys b o fit.0)) (lend-all (suc j) hs ms fit.1 made)
    lend-all j (sees R q v b o ∷ hs) ms fit made =
        let x : R.Denot = ms.0.it in
        let Own : ℕ → GName → Fml = λ α γ. (ShrRef (named j) (α ∷ []) R).own_val (shown b o x) (vptr b o ∷ []) in
        let Kept : ℕ → GName → Fml = λ α γ. part_at R q x b o in
        lend-first (suc j) hs ms.1 (At R q v b o) Own Kept
        (via 𝓤 ⟦ part_at R q x b o ⟧ (owns-too R q ms.0 b o made.0)
        (lend-shown (part_at R q x b o) (λ α. Own α 0) (λ α. lends_shr 𝓛 R (named j) (α ∷ []) q x b o (α ∷ []) (made.1.shares q (α ∷ []) x) (token α) (Incl-refl (α ∷ [])) (Incl-refl (α ∷ [])))))
        (lend-all (suc j) hs ms.1 fit made.2)
    lend-all j (changes R v b o ∷ hs) ms fit made =
        let x : R.Denot = ms.0.it in
        let Own : ℕ → GName → Fml = λ α γ. (MutRef (named j) (α ∷ []) R).own_val (lent b o γ x) (vptr b o ∷ []) in
        let Kept : ℕ → GName → Fml = λ α γ. Body (mem R) b o γ in
        lend-first (suc j) hs ms.1 (At R full_share v b o) Own Kept
        (lend-one (At R full_share v b o) Own Kept (λ α. via 𝓤 ⟦ part_at R full_share x b o ⟧ (owns-too R full_share ms.0 b o made.0) (lends_ref 𝓛 R (named j) (α ∷ []) x b o)))
        (lend-all (suc j) hs ms.1 fit made.1)

    -- all lie in memory again, with the last elements and values of those that were written to or changed
    pub take_all : (hs : List Handed) (ms : Meant hs) (ns : Names hs) (ls : Lasting hs) → ent 𝓤 (sep 𝓤 (tokens hs ns) (sep 𝓤 ⟦ lender hs ms ns ⟧ ⟦ ends hs ns ls ⟧)) (H.⇛ ⟦ lie_again hs ms ls ⟧)
    take_all [] ms ns ls = qed 𝓛 (‵ ftrue ∷ ‵ ftrue ∷ ‵ ftrue ∷ []) ∵ updating ! $ at_once ! $ keep ! (0 ∷ []) $ done !
    take_all (value R x v ∷ hs) ms ns ls =
        qed 𝓛 (raw (tokens hs ns) ∷ ‵ (lender hs ms ns) ∷ ‵ (fsep ftrue (ends hs ns ls)) ∷ []) ∵ updating ! $ move ! (2 ∷ []) $ fsplit ! $ drop ! $ move ! (1 ∷ 2 ∷ 0 ∷ []) $
        use3 𝓛 (later (‵ (lie_again hs ms ls))) (take_all hs ms ns ls) $ await ! tt $ at_once ! $ done !
    take_all (reads R q ys b o ∷ hs) ms ns ls =
        take-first hs ms ns.1 ls ns.0.0 (Lie R q ys b o) ftrue (Lie R q ys b o) (take-shr (Lie R q ys b o) ftrue ns.0.0) (take_all hs ms ns.1 ls)
    take_all (writes R ys b o ∷ hs) ms ns ls =
        take-first hs ms ns.1 ls.1 ns.0.0 (Held R (length ys) b o ns.0.1) (fsep (fsep (finally R ns.0.1 ls.0) (feq ℕ (length ls.0) (length ys))) (fbor (ns.0.0 ∷ []) (Body (Arr (Holey (mem R)) (length ys)) b o ns.0.1))) (cells (mem R) ls.0 b o)
        (take-mut R (length ys) ls.0 b o ns.0.0 ns.0.1) (take_all hs ms ns.1 ls.1)
    take_all (sees R q v b o ∷ hs) ms ns ls =
        let P : Fml = part_at R q ms.0.it b o in
        take-first hs ms.1 ns.1 ls ns.0.0 P ftrue P (take-shr P ftrue ns.0.0) (take_all hs ms.1 ns.1 ls)
    take_all (changes R v b o ∷ hs) ms ns ls =
        take-first hs ms.1 ns.1 ls.1 ns.0.0 (Body (mem R) b o ns.0.1) (fsep (fres ns.0.1 (R.coded.code ls.0)) (fbor (ns.0.0 ∷ []) (Body (mem R) b o ns.0.1))) (part_at R full_share ls.0 b o)
        (take-changed R ls.0 b o ns.0.0 ns.0.1) (take_all hs ms.1 ns.1 ls.1)

    -- in the caller's words: of a struct, the machine's value
    pub lie-after : (hs : List Handed) (ms : Meant hs) (ls : Lasting hs) → ent 𝓤 ⟦ lie_again hs ms ls ⟧ ⟦ lie_after hs (written hs ms ls) ⟧
    lie-after [] ms ls = id⊢ 𝓤 (emp 𝓤)
    lie-after (value R x v ∷ hs) ms ls = lie-after hs ms ls
    lie-after (reads R q ys b o ∷ hs) ms ls = mono_r 𝓤 ⟦ Lie R q ys b o ⟧ (lie-after hs ms ls)
    lie-after (writes R ys b o ∷ hs) ms ls = mono_r 𝓤 ⟦ cells (mem R) ls.0 b o ⟧ (lie-after hs ms ls.1)
    lie-after (sees R q v b o ∷ hs) ms ls =
        mono∗ 𝓤 (only-lies R q ms.0.lowers ms.0.it (v ∷ []) b o (ms.0.lowers.val_is ms.0.it (v ∷ []) ms.0.is)) (lie-after hs ms.1 ls)
    lie-after (changes R v b o ∷ hs) ms ls =
        mono∗ 𝓤 (only-lies R full_share ms.0.lowers ls.0 (ms.0.lowers.lowered ls.0 ∷ []) b o refl) (lie-after hs ms.1 ls.1)

    -- what was lent, as a function's contract asks for it: beside what its `requires` asks, and whatever else is owned
    pub hand-over : (j : ℕ) (hs : List Handed) (ms : Meant hs) (ns : Names hs) (Q F : SProp 𝓤) → ent 𝓤 (emp 𝓤) Q
        → ent 𝓤 (sep 𝓤 (Lent j hs ms ns) F) (sep 𝓤 (sep 𝓤 (sep 𝓤 (tokens hs ns) ⟦ owns (types_of j hs ns) (denotes j hs ms ns) (values_of j hs ns) ⟧) Q) (sep 𝓤 ⟦ lender hs ms ns ⟧ F))
    hand-over j hs ms ns Q F holds =
        qed 𝓛 (((raw (tokens hs ns) ⊛ (‵ (owns (types_of j hs ns) (denotes j hs ms ns) (values_of j hs ns)) ⊛ ‵ (lender hs ms ns))) ⊛ raw F) ∷ []) ∵ split ! $ split ! $ move ! (1 ∷ []) $ split ! $
        move ! (2 ∷ 0 ∷ []) $ join ! $ use0 𝓛 (raw Q) holds $ move ! (1 ∷ 0 ∷ []) $ join ! $ done !

    -- what it leaves, as the caller has it again
    pub hand-back : (hs : List Handed) (ms : Meant hs) (ns : Names hs) (ls : Lasting hs) (F : SProp 𝓤)
        → ent 𝓤 (sep 𝓤 (sep 𝓤 ⟦ ends hs ns ls ⟧ (tokens hs ns)) (sep 𝓤 ⟦ lender hs ms ns ⟧ F)) (sep 𝓤 (H.⇛ ⟦ lie_again hs ms ls ⟧) F)
    hand-back hs ms ns ls F =
        qed 𝓛 (((‵ (ends hs ns ls) ⊛ raw (tokens hs ns)) ⊛ (‵ (lender hs ms ns) ⊛ raw F)) ∷ []) ∵ split ! $ split ! $ move ! (2 ∷ []) $ split ! $ move ! (3 ∷ 0 ∷ 2 ∷ []) $
        use3 𝓛 (later (‵ (lie_again hs ms ls))) (take_all hs ms ns ls) $ done !
