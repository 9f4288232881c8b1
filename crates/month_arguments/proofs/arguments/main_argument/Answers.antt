-- `month_arguments::arguments::main_argument` meets its contract: seven terms, added step by step in registers, are the sum that V is (`Chain`).
use mathlib.Core.Path.{◌≡◌, ap, ◌∙◌}
use Prim.Native.Nat.{◌*◌, ◌^◌, ◌≤◌}
use lib.Dec.{lit<}
use lib.IntN.{ℤ, nat_abs, ◌+ℤ◌}
use Rattle.angles.specs.Floor.{mod_turn}
use Rattle.angles.proofs.Machine.{held}
use Rattle.angles.proofs.Known.{Known, known, read, fits, kept, plus}
use Rattle.table.specs.inner.View.{row_of, listed}
use Rattle.month_arguments.specs.inner.Longitudes.{longitudes_of}
use Rattle.month_arguments.specs.inner.Rows.{row_argument}
use Rattle.month_arguments.proofs.arguments.Chain.{seven-terms}
use Rattle.month_arguments.proofs.arguments.main_argument.Goals as goal

-- seven terms, put together one after the other
module _ {u v w x y z o a b c d e f g : ℤ} (ka : Known u a (2 ^ 57)) (kb : Known v b (2 ^ 57)) (kc : Known w c (2 ^ 57)) (kd : Known x d (2 ^ 57)) (ke : Known y e (2 ^ 57)) (kf : Known z f (2 ^ 57)) (kg : Known o g (2 ^ 57)) where
  two : Known (u +ℤ v) (a +ℤ b) (2 * 2 ^ 57)
  two = plus ka kb

  three : Known (held (u +ℤ v) +ℤ w) (a +ℤ b +ℤ c) (3 * 2 ^ 57)
  three = plus (kept two (lit< tt)) kc

  four : Known (held (held (u +ℤ v) +ℤ w) +ℤ x) (a +ℤ b +ℤ c +ℤ d) (4 * 2 ^ 57)
  four = plus (kept three (lit< tt)) kd

  five : Known (held (held (held (u +ℤ v) +ℤ w) +ℤ x) +ℤ y) (a +ℤ b +ℤ c +ℤ d +ℤ e) (5 * 2 ^ 57)
  five = plus (kept four (lit< tt)) ke

  six : Known (held (held (held (held (u +ℤ v) +ℤ w) +ℤ x) +ℤ y) +ℤ z) (a +ℤ b +ℤ c +ℤ d +ℤ e +ℤ f) (6 * 2 ^ 57)
  six = plus (kept five (lit< tt)) kf

  seven : Known (held (held (held (held (held (u +ℤ v) +ℤ w) +ℤ x) +ℤ y) +ℤ z) +ℤ o) (a +ℤ b +ℤ c +ℤ d +ℤ e +ℤ f +ℤ g) (7 * 2 ^ 57)
  seven = plus (kept six (lit< tt)) kg

-- a term in its register
term-known : (r : ℤ) {n : ℤ} → r ≡ n → nat_abs r ≤ 2 ^ 57 → Known (held r) n (2 ^ 57)
term-known r e h = record { is = (read r h (lit< tt)).is ∙ e; size = (known e h).size }

pub overflow_add-tau : goal.overflow_add-tau
overflow_add-tau c =
    fits (two (term-known c.term-tau.result c.term-tau.ensures.value c.term-tau.ensures.result_bound) (term-known c.term-s.result c.term-s.ensures.value c.term-s.ensures.result_bound) (term-known c.term-h.result c.term-h.ensures.value c.term-h.ensures.result_bound) (term-known c.term-p.result c.term-p.ensures.value c.term-p.ensures.result_bound) (term-known c.term-n.result c.term-n.ensures.value c.term-n.ensures.result_bound) (term-known c.term-q.result c.term-q.ensures.value c.term-q.ensures.result_bound) (term-known c.term-phase.result c.term-phase.ensures.value c.term-phase.ensures.result_bound)) (lit< tt)

pub overflow_add-tau-2 : goal.overflow_add-tau-2
overflow_add-tau-2 c =
    fits (three (term-known c.term-tau.result c.term-tau.ensures.value c.term-tau.ensures.result_bound) (term-known c.term-s.result c.term-s.ensures.value c.term-s.ensures.result_bound) (term-known c.term-h.result c.term-h.ensures.value c.term-h.ensures.result_bound) (term-known c.term-p.result c.term-p.ensures.value c.term-p.ensures.result_bound) (term-known c.term-n.result c.term-n.ensures.value c.term-n.ensures.result_bound) (term-known c.term-q.result c.term-q.ensures.value c.term-q.ensures.result_bound) (term-known c.term-phase.result c.term-phase.ensures.value c.term-phase.ensures.result_bound)) (lit< tt)

pub overflow_add-tau-3 : goal.overflow_add-tau-3
overflow_add-tau-3 c =
    fits (four (term-known c.term-tau.result c.term-tau.ensures.value c.term-tau.ensures.result_bound) (term-known c.term-s.result c.term-s.ensures.value c.term-s.ensures.result_bound) (term-known c.term-h.result c.term-h.ensures.value c.term-h.ensures.result_bound) (term-known c.term-p.result c.term-p.ensures.value c.term-p.ensures.result_bound) (term-known c.term-n.result c.term-n.ensures.value c.term-n.ensures.result_bound) (term-known c.term-q.result c.term-q.ensures.value c.term-q.ensures.result_bound) (term-known c.term-phase.result c.term-phase.ensures.value c.term-phase.ensures.result_bound)) (lit< tt)

pub overflow_add-tau-4 : goal.overflow_add-tau-4
overflow_add-tau-4 c =
    fits (five (term-known c.term-tau.result c.term-tau.ensures.value c.term-tau.ensures.result_bound) (term-known c.term-s.result c.term-s.ensures.value c.term-s.ensures.result_bound) (term-known c.term-h.result c.term-h.ensures.value c.term-h.ensures.result_bound) (term-known c.term-p.result c.term-p.ensures.value c.term-p.ensures.result_bound) (term-known c.term-n.result c.term-n.ensures.value c.term-n.ensures.result_bound) (term-known c.term-q.result c.term-q.ensures.value c.term-q.ensures.result_bound) (term-known c.term-phase.result c.term-phase.ensures.value c.term-phase.ensures.result_bound)) (lit< tt)

pub overflow_add-tau-5 : goal.overflow_add-tau-5
overflow_add-tau-5 c =
    fits (six (term-known c.term-tau.result c.term-tau.ensures.value c.term-tau.ensures.result_bound) (term-known c.term-s.result c.term-s.ensures.value c.term-s.ensures.result_bound) (term-known c.term-h.result c.term-h.ensures.value c.term-h.ensures.result_bound) (term-known c.term-p.result c.term-p.ensures.value c.term-p.ensures.result_bound) (term-known c.term-n.result c.term-n.ensures.value c.term-n.ensures.result_bound) (term-known c.term-q.result c.term-q.ensures.value c.term-q.ensures.result_bound) (term-known c.term-phase.result c.term-phase.ensures.value c.term-phase.ensures.result_bound)) (lit< tt)

pub overflow_add-tau-6 : goal.overflow_add-tau-6
overflow_add-tau-6 c =
    fits (seven (term-known c.term-tau.result c.term-tau.ensures.value c.term-tau.ensures.result_bound) (term-known c.term-s.result c.term-s.ensures.value c.term-s.ensures.result_bound) (term-known c.term-h.result c.term-h.ensures.value c.term-h.ensures.result_bound) (term-known c.term-p.result c.term-p.ensures.value c.term-p.ensures.result_bound) (term-known c.term-n.result c.term-n.ensures.value c.term-n.ensures.result_bound) (term-known c.term-q.result c.term-q.ensures.value c.term-q.ensures.result_bound) (term-known c.term-phase.result c.term-phase.ensures.value c.term-phase.ensures.result_bound)) (lit< tt)

pub returns : goal.returns
unfolding row_argument row_of listed
returns c =
    c.mod_turn.ensures.value
    ∙ ap mod_turn (kept (seven (term-known c.term-tau.result c.term-tau.ensures.value c.term-tau.ensures.result_bound) (term-known c.term-s.result c.term-s.ensures.value c.term-s.ensures.result_bound) (term-known c.term-h.result c.term-h.ensures.value c.term-h.ensures.result_bound) (term-known c.term-p.result c.term-p.ensures.value c.term-p.ensures.result_bound) (term-known c.term-n.result c.term-n.ensures.value c.term-n.ensures.result_bound) (term-known c.term-q.result c.term-q.ensures.value c.term-q.ensures.result_bound) (term-known c.term-phase.result c.term-phase.ensures.value c.term-phase.ensures.result_bound)) (lit< tt)).is
    ∙ seven-terms (longitudes_of c.args.l) _ _ _ _ _ _ _ c.lunar_time.result c.lunar_time.ensures
