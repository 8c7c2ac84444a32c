-- `memory_sum::firmware_sum` meets its contract: the part has 28,669 cells, each at most 255.
-- Assumes nothing.
use borrow.Author.Tests.{eq-eqb, ne_eqb}
use mathlib.Core.Path.{◌∙◌}
use native.Mathlib.Omega.{arith}
use lib.ListN.{length}
use Rattle.memory_sum.specs.Sum.{firmware_sum}
use Rattle.memory_sum.proofs.Laws.{bytes_most}
use Rattle.memory_sum.proofs.firmware_sum.Goals as goal

pub returns-then-flash-ne-FLASH_CELLS : goal.returns-then-flash-ne-FLASH_CELLS
unfolding firmware_sum
returns-then-flash-ne-FLASH_CELLS c = (simp (ne_eqb _ 65536 c.if-flash-ne-FLASH_CELLS.true), omega arith)

pub returns : goal.returns
unfolding firmware_sum
returns c =
    let m = c.args.flash.now in
    let l = c.if-flash-ne-FLASH_CELLS.false in
    (c.sum_of.ensures.0 ∙ simp (eq-eqb (length m) 65536 l), bytes_most m c.sum_of.result l c.sum_of.ensures.1)
