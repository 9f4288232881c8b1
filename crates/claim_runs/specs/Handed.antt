-- What is handed to a routine of the machine, and what its memory holds: values, structs and buffers that lie in memory, and all else that is
-- owned.
-- Assumes nothing.
use Rattle.std.specs.Prelude.{ℕ, List, [], ◌∷◌, ◌++◌, length}
use base.Fraction.{full_share}
use mir.Val.{Val, vptr}
use base.Logic.{SProp, sep}
use Rattle.std.specs.Borrow.{Fml, Share, ftrue, fsep, sem, RattleType}
use prog.Memory.{Memory}
use mir.Syntax.{Callee}
use prog.Routine.{Env, ends}
use prog.Wired.{Code, Wired}
use contract.Adequate.{Satisfies}
use types.SemTy.{cells}
use types.Share.{arr_parts}
use denote.Laws.{Is}
use denote.Memory.{cell_at, mem, shares}
use denote.Slice.{Room, slice_val}
use borrow.Fn.World.{w₀}

-- ---- what a memory holds: an assertion of the logic, in its closed model

abbrev pub Assertion : Type 2
Assertion = SProp w₀.𝓤

-- P, and beside it Q
abbrev pub ◌∗◌ : Assertion → Assertion → Assertion
P ∗ Q = sep w₀.𝓤 P Q

infixr 35 ◌∗◌
abbrev pub ⟦◌⟧₀ : Fml → Assertion
⟦ P ⟧₀ = sem w₀.𝓛 P

-- the machine's memory is σ, and P holds of it
abbrev pub ◌⊨◌ : Memory → Assertion → Type 1
σ ⊨ P = Satisfies w₀.𝓤 w₀.𝓛.H w₀.𝓜 σ P

infix 26 ◌⊨◌
-- ---- what is handed over

-- a value of the type R and the machine's value for it; a buffer to be read, of which a share is enough, or to be written to: its elements,
-- and the block and offset at which they lie; a struct to be seen, of which a share is enough, or to be changed: the machine's value for it, and
-- the block and offset at which it lies
pub data Handed : Type 2 where
  value : (R : RattleType) → R.Denot → Val → Handed
  reads : (R : RattleType) → Share → List R.Denot → ℕ → ℕ → Handed
  writes : (R : RattleType) → List R.Denot → ℕ → ℕ → Handed
  sees : (R : RattleType) → Share → Val → ℕ → ℕ → Handed
  changes : (R : RattleType) → Val → ℕ → ℕ → Handed

-- the machine's values: a buffer is handed over as its place and its length, a struct as its place
abbrev pub passed : List Handed → List Val
passed [] = []
passed (value R x v ∷ hs) = v ∷ passed hs
passed (reads R q ys b o ∷ hs) = slice_val (b, o) (length ys) ∷ passed hs
passed (writes R ys b o ∷ hs) = slice_val (b, o) (length ys) ∷ passed hs
passed (sees R q v b o ∷ hs) = vptr b o ∷ passed hs
passed (changes R v b o ∷ hs) = vptr b o ∷ passed hs

-- each value stands for what it is said to stand for, and each buffer has room in the machine
abbrev pub Fit : List Handed → Type 0
Fit [] = Unit {0}
Fit (value R x v ∷ hs) = Is R x (v ∷ []) × Fit hs
Fit (reads R q ys b o ∷ hs) = Room R (length ys) × Fit hs
Fit (writes R ys b o ∷ hs) = Room R (length ys) × Fit hs
Fit (sees R q v b o ∷ hs) = Fit hs
Fit (changes R v b o ∷ hs) = Fit hs

-- ys lie at (b, o), at a share: enough to read them
abbrev pub Lie : (R : RattleType) → Share → List R.Denot → ℕ → ℕ → Fml
Lie R q ys b o = (arr_parts (shares R) (length ys)).part q ys b o

-- the machine's value v, of the type R, lies at (b, o), at a share: enough to load it
abbrev pub At : RattleType → Share → Val → ℕ → ℕ → Fml
At R q v b o = cell_at q R.mir (v ∷ []) b o

-- the buffers and structs lie in memory, one beside the other
abbrev pub lie : List Handed → Fml
lie [] = ftrue
lie (value R x v ∷ hs) = lie hs
lie (reads R q ys b o ∷ hs) = fsep (Lie R q ys b o) (lie hs)
lie (writes R ys b o ∷ hs) = fsep (cells (mem R) ys b o) (lie hs)
lie (sees R q v b o ∷ hs) = fsep (At R q v b o) (lie hs)
lie (changes R v b o ∷ hs) = fsep (At R full_share v b o) (lie hs)

-- the elements that were written, for each buffer that is written to, and the machine's value that is left, for each struct that is changed
abbrev pub Written : List Handed → Type 0
Written [] = Unit {0}
Written (value R x v ∷ hs) = Written hs
Written (reads R q ys b o ∷ hs) = Written hs
Written (writes R ys b o ∷ hs) = List R.Denot × Written hs
Written (sees R q v b o ∷ hs) = Written hs
Written (changes R v b o ∷ hs) = Val × Written hs

-- all lie where they lay: those that are read or seen as they were, the others with what was written or left
abbrev pub lie_after : (hs : List Handed) → Written hs → Fml
lie_after [] ws = ftrue
lie_after (value R x v ∷ hs) ws = lie_after hs ws
lie_after (reads R q ys b o ∷ hs) ws = fsep (Lie R q ys b o) (lie_after hs ws)
lie_after (writes R ys b o ∷ hs) ws = fsep (cells (mem R) ws.0 b o) (lie_after hs ws.1)
lie_after (sees R q v b o ∷ hs) ws = fsep (At R q v b o) (lie_after hs ws)
lie_after (changes R v b o ∷ hs) ws = fsep (At R full_share ws.0 b o) (lie_after hs ws.1)

-- ---- a run

-- A function of the machine: its name, and its code with the code of all that it names.
pub record Function : Type 0 where
  pub name : Callee
  pub code : Code

abbrev pub function : Callee → Code → Function
function name code = record { name = name; code = code }

-- The function f was called with the values `front` and with what is handed over, from a memory in which the buffers and structs lie beside
-- whatever else is owned there, and returned. (`program`: whatever has f's code, so that f's name means f there.)
pub record Ran (f : Function) (front : List Val) (handed : List Handed) : Type 2 where
  pub program : Env
  pub has : Wired program f.code
  pub fit : Fit handed
  pub before : Memory
  pub rest : Assertion
  pub lent : before ⊨ ⟦ lie handed ⟧₀ ∗ rest
  pub value : Val
  pub left : Memory
  pub run : ends (program f.name) (front ++ passed handed) before value left

-- its memory at the end holds them, with what was written and left, beside all else that was owned before it
abbrev pub Leaves : {f : Function} {front : List Val} {handed : List Handed} → Ran f front handed → Written handed → Type 1
Leaves {handed = hs} x ws = x.left ⊨ ⟦ lie_after hs ws ⟧₀ ∗ x.rest
