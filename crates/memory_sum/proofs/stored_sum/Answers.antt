-- `memory_sum::stored_sum` meets its contract: the three cells lie within a full FLASH.
-- Assumes nothing.
use borrow.Author.Tests.{eq-eqb, ne_eqb}
use native.Mathlib.Omega.{arith}
use Rattle.memory_sum.specs.Sum.{stored_sum_of}
use Rattle.memory_sum.proofs.stored_sum.Goals as goal

pub returns-then-flash-ne-FLASH_CELLS : goal.returns-then-flash-ne-FLASH_CELLS
unfolding stored_sum_of
returns-then-flash-ne-FLASH_CELLS c = simp (ne_eqb _ 65536 c.if-flash-ne-FLASH_CELLS.true)

pub returns : goal.returns
unfolding stored_sum_of
returns c = simp (eq-eqb _ 65536 c.if-flash-ne-FLASH_CELLS.false) (omega arith)
