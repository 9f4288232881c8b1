-- `month_satellites::satellites::angle_of` meets its contract: four products, added step by step in registers, modulo T.
use mathlib.Core.Path.{◌≡◌, sym, ◌∙◌, ap, ap₂}
use Prim.Native.Nat.{ℕ, ◌^◌, ◌≤◌, ◌+◌}
use lib.IntN.{ℤ, pos, nat_abs, ◌+ℤ◌, ◌*ℤ◌, +ℤ_idr}
use lib.Dec.{lit<}
use mir.Syntax.{w8}
use mir.Val.{SFits, to_z, of_z}
use mir.ValLaws.{to_z-of_z}
use Rattle.angles.specs.Ticks.{centicycle}
use Rattle.angles.specs.Floor.{mod_turn}
use Rattle.angles.proofs.Machine.{held}
use Rattle.angles.proofs.Known.{Known, read, fits, kept, plus}
use Rattle.month_arguments.specs.Longitudes.{times}
use Rattle.month_satellites.specs.Satellites.{satellite_angle}
use Rattle.month_satellites.proofs.satellites.angle_of.Goals as goal

-- four products, put together one after the other
module _ (a b c d : ℤ) (ha : nat_abs a ≤ 2 ^ 57) (hb : nat_abs b ≤ 2 ^ 57) (hc : nat_abs c ≤ 2 ^ 57) (hd : nat_abs d ≤ 2 ^ 57) where
  two : Known (held b +ℤ held c) (b +ℤ c) (2 ^ 58)
  two = plus (read b hb (lit< tt)) (read c hc (lit< tt))

  three : Known (held a +ℤ held (held b +ℤ held c)) (a +ℤ (b +ℤ c)) (2 ^ 57 + 2 ^ 58)
  three = plus (read a ha (lit< tt)) (kept two (lit< tt))

  four : Known (held (held a +ℤ held (held b +ℤ held c)) +ℤ held d) (a +ℤ (b +ℤ c) +ℤ d) (2 ^ 59)
  four = plus (kept three (lit< tt)) (read d hd (lit< tt))

multiple : (n z : ℤ) (l : ℕ) → SFits w8 n → z ≡ to_z w8 (of_z w8 n) *ℤ pos l → z ≡ n *ℤ pos l
multiple n z l f e = e ∙ ap (λ (x : ℤ). x *ℤ pos l) (to_z-of_z w8 n f)

pub overflow_add-b : goal.overflow_add-b
overflow_add-b c =
    fits (two c.product-a.result c.product-b.result c.product-c.result c.product-d.result c.product-a.ensures.result_bound c.product-b.ensures.result_bound c.product-c.ensures.result_bound c.product-d.ensures.result_bound) (lit< tt)

pub overflow_add-a : goal.overflow_add-a
overflow_add-a c =
    fits (three c.product-a.result c.product-b.result c.product-c.result c.product-d.result c.product-a.ensures.result_bound c.product-b.ensures.result_bound c.product-c.ensures.result_bound c.product-d.ensures.result_bound) (lit< tt)

pub overflow_add-a-2 : goal.overflow_add-a-2
overflow_add-a-2 c =
    fits (four c.product-a.result c.product-b.result c.product-c.result c.product-d.result c.product-a.ensures.result_bound c.product-b.ensures.result_bound c.product-c.ensures.result_bound c.product-d.ensures.result_bound) (lit< tt)

pub returns : goal.returns
unfolding satellite_angle times
returns c =
    let first = multiple c.args.s.first c.product-a.result c.args.l.perigee (record { sfits = c.struct_told-1.given.0.1 }) c.product-a.ensures.value in
    let second = multiple c.args.s.second c.product-b.result c.args.l.node (record { sfits = c.struct_told-1.given.1.0.1 }) c.product-b.ensures.value in
    let third = multiple c.args.s.third c.product-c.result c.args.l.solar (record { sfits = c.struct_told-1.given.1.1.0.1 }) c.product-c.ensures.value in
    let phase = multiple c.args.s.phase c.product-d.result centicycle (record { sfits = c.struct_told-1.given.1.1.1.0.1 }) c.product-d.ensures.value in
    c.mod_turn.ensures.value
    ∙ ap mod_turn ((kept (four c.product-a.result c.product-b.result c.product-c.result c.product-d.result c.product-a.ensures.result_bound c.product-b.ensures.result_bound c.product-c.ensures.result_bound c.product-d.ensures.result_bound) (lit< tt)).is
    ∙ ap₂ ◌+ℤ◌ (ap₂ ◌+ℤ◌ first (ap₂ ◌+ℤ◌ second (third ∙ sym (+ℤ_idr (c.args.s.third *ℤ pos c.args.l.solar))))) phase)
