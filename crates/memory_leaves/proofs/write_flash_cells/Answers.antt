-- `memory_leaves::write_flash_cells` meets its contract: after i turns the first i cells are combined and the rest as they were.
-- Assumes nothing.
use mathlib.Core.Path.{◌≡◌, ◌∙◌, sym, ap}
use Prim.Native.Nat.{ℕ, ◌<◌}
use borrow.Author.Tests.{eq-eqb}
use lib.Bits.{bit_and}
use lib.ListN.{length, get_or}
use Rattle.base.proofs.Stored.{stored, mix_all, mix_next}
use Rattle.memory_leaves.specs.Leaves.{combined, flash_cells_after}
use Rattle.memory_leaves.proofs.Combined.{length_combined, get_d_combined}
use native.Mathlib.Omega.{arith}
use Rattle.memory_leaves.proofs.write_flash_cells.Goals as goal

pub loop-i-preserved : goal.loop-i-preserved
loop-i-preserved c =
    let at = c.loop-i in
    let d = c.args.cells.now in
    let n = c.args.new.now in
    let l : at.i < length (combined d n) = simp length_combined (omega arith) in
    let next : get_or at.cells at.i 0 ≡ get_or d at.i 0 = rw at.invariant (mix_next (combined d n) d at.i l (omega arith)) in
    stored (combined d n) d at.cells at.i _ at.invariant
    (ap (λ (x : ℕ). bit_and x (get_or n at.i 0)) next ∙ sym (get_d_combined d n at.i (omega arith) (omega arith))) l (omega arith)

pub returns-after-loop-i : goal.returns-after-loop-i
unfolding flash_cells_after
returns-after-loop-i c =
    let at = c.loop-i in
    let d = c.args.cells.now in
    let n = c.args.new.now in
    let e : at.i ≡ 8 = omega arith in
    simp (eq-eqb (length d) 8 c.if-cells-eq8.true, eq-eqb (length n) 8 c.if-new-eq8.true)
    (at.invariant ∙ rw e (mix_all (combined d n) d 8 (simp length_combined (omega arith)) (omega arith)))
