-- `memory_sum::added_singly` meets its contract: after i turns the first i cells are added, each at most 255.
-- Assumes nothing.
use mathlib.Core.Path.{refl}
use Rattle.base.proofs.Sums.{sum_more}
use native.Mathlib.Omega.{arith}
use Rattle.memory_sum.proofs.added_singly.Goals as goal

pub loop-cell-preserved : goal.loop-cell-preserved
loop-cell-preserved c =
    let at = c.loop-cell in
    let s = c.args.s.now in
    (omega (arith, c.type_inv.s at.cell-index), omega (arith, sum_more s at.cell-index _ _ (omega arith) refl refl))
