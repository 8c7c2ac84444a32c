-- `hex_read::judge::judge` meets its contract: its tests are the checks from 31 on, in their order.
-- Assumes nothing.
use mathlib.Core.Path.{◌≡◌, ◌∙◌, refl, sym, ap₂}
use Prim.Native.Nat.{ℕ, ◌+◌, ◌-◌}
use Rattle.base.specs.Parts.{part}
use Rattle.hex_rules.specs.Record.{count_of}
use Rattle.hex_read.specs.Internal.Giving.{giving_fault, with_cells}
use Rattle.std.proofs.lemmas.Result.{err_from_is_err_and}
use Rattle.hex_read.proofs.Answering.{fault_some, on_ok_always}
use Rattle.hex_read.proofs.Faults.{wrong_sum, wrong_type, no_cells, cells_refused, cells_given, cells_table}
use native.Mathlib.Omega.{arith}
use Rattle.hex_read.proofs.judge.judge.Goals as goal

pub returns-then-sum_of-ne0 : goal.returns-then-sum_of-ne0
returns-then-sum_of-ne0 c =
    let a = c.args in
    (wrong_sum a.bytes.now a.upper a.ended a.table.now c.sum_of.result c.sum_of.ensures c.if-sum_of-ne0.true, tt)

pub returns-then-is_other : goal.returns-then-is_other
returns-then-is_other c =
    let a = c.args in
    (wrong_type a.bytes.now a.upper a.ended a.table.now c.sum_of.result c.sum_of.ensures c.if-sum_of-ne0.false (sym c.is_other.ensures ∙ c.if-is_other.true), tt)

pub returns-then-bytes-ne0 : goal.returns-then-bytes-ne0
returns-then-bytes-ne0 c =
    let a = c.args in
    let n = no_cells a.bytes.now a.upper a.ended a.table.now c.sum_of.result c.sum_of.ensures c.if-sum_of-ne0.false (sym c.is_other.ensures ∙ c.if-is_other.false) c.if-bytes-ne0.true in
    (c.unended.ensures ∙ n.0, on_ok_always c.unended.result n.1)

pub returns-in_err-give : goal.returns-in_err-give
returns-in_err-give c =
    let a = c.args in
    let b = a.bytes.now in
    let wide : 4 + count_of b - 4 ≡ count_of b = omega arith in
    let p = err_from_is_err_and c.from_residual.result c.from_residual.ensures.1 in
    rw (p.1, p.2) (
      cells_refused b a.upper a.ended a.table.now c.sum_of.result c.sum_of.ensures c.if-sum_of-ne0.false (sym c.is_other.ensures ∙ c.if-is_other.false) c.if-bytes-ne0.false _
          (c.in_err-give.ensures.0 ∙ ap₂ (λ (n s : ℕ). giving_fault (part b 4 n) s a.table.now) wide c.start_of.ensures.0) (fault_some _),
      tt,
    )

pub returns : goal.returns
returns c =
    let a = c.args in
    let b = a.bytes.now in
    let wide : 4 + count_of b - 4 ≡ count_of b = omega arith in
    let other = sym c.is_other.ensures ∙ c.if-is_other.false in
    let given = c.in_ok-give.ensures.1 in (
      c.unended-2.ensures
          ∙ cells_given b a.upper a.ended a.table.now c.sum_of.result c.sum_of.ensures c.if-sum_of-ne0.false other c.if-bytes-ne0.false 0
          (c.in_ok-give.ensures.0 ∙ ap₂ (λ (n s : ℕ). giving_fault (part b 4 n) s a.table.now) wide c.start_of.ensures.0) refl,
      on_ok_always c.unended-2.result
          (given
          ∙ ap₂ (λ (n s : ℕ). with_cells (part b 4 n) s a.table.now) wide c.start_of.ensures.0
          ∙ sym (cells_table b a.upper a.ended a.table.now c.sum_of.result c.sum_of.ensures c.if-sum_of-ne0.false other c.if-bytes-ne0.false)),
    )
