-- `hex_read::cells::give` meets its contract: no byte, no index, and what marking the places from the index on came to.
-- Assumes nothing.
use mathlib.Core.Path.{◌≡◌, ◌∙◌, sym, ap}
use mathlib.Core.Bool.{cond}
use Prim.Native.Nat.{ℕ, ◌+◌, ◌-◌}
use lib.ListN.{length}
use Rattle.base.specs.Parts.{part}
use Rattle.hex_put.specs.Internal.Table.{some_marked}
use Rattle.std.proofs.lemmas.Result.{on_ok_weaker}
use Rattle.hex_read.proofs.Storing.{give_by, table_given}
use native.Mathlib.Omega.{arith}
use Rattle.hex_read.proofs.cells.give.Goals as goal

pub returns : goal.returns
returns c =
    let a = c.args in
    let n = length a.bytes.now in
    let k = c.in_ok-index.index in
    let at = sym c.in_ok-index.ensures.ok_part ∙ c.index_of.ensures in
    let wide : k + n - k ≡ n = omega arith in (
      c.mark.ensures.0
          ∙ ap (λ (m : ℕ). cond (some_marked (part a.table.now k m)) 34 0) wide
          ∙ sym (give_by a.bytes.now a.start a.table.now c.if-count-eq0.false k at),
      on_ok_weaker c.mark.result (table_given a.bytes.now a.start a.table.now c.if-count-eq0.false k at _) c.mark.ensures.1,
    )
