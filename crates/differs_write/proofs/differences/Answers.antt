-- `differs_write::differences` meets its contract: what the walk found, and whether the output has room.
-- Assumes nothing.
use mathlib.Core.Path.{sym}
use Rattle.std.proofs.lemmas.Result.{err_from_is_err_and}
use Rattle.differs_write.proofs.Answering.{fault_answer, other_answer, found_within, found_short, found_fits, found_answer}
use Rattle.differs_write.proofs.differences.Goals as goal

pub returns-in_err-check : goal.returns-in_err-check
returns-in_err-check c =
    let p = err_from_is_err_and c.from_residual.result c.from_residual.ensures.1 in
    rw (p.1, p.2) (fault_answer _ _ _ _ (sym c.in_err-check.ensures.0))

pub returns-then-image-ne-FLASH_CELLS : goal.returns-then-image-ne-FLASH_CELLS
returns-then-image-ne-FLASH_CELLS c = other_answer _ _ _ _ (sym c.in_ok-check.ensures.0) c.if-image-ne-FLASH_CELLS.true

pub returns-in_err-walk : goal.returns-in_err-walk
returns-in_err-walk c =
    let p = err_from_is_err_and c.from_residual-in_err-walk.result c.from_residual-in_err-walk.ensures.1 in
    rw (p.1, p.2) (fault_answer _ _ _ _ c.in_err-walk.ensures)

pub overflow_sub-size : goal.overflow_sub-size
overflow_sub-size c = found_within c.in_ok-walk.ensures

pub returns-then-output-size : goal.returns-then-output-size
returns-then-output-size c = found_short c.in_ok-walk.ensures c.if-image-ne-FLASH_CELLS.false _ c.if-output-size.true

pub put_kept-requires : goal.put_kept-requires
put_kept-requires c = found_fits c.in_ok-walk.ensures c.if-image-ne-FLASH_CELLS.false _ c.if-output-size.false

pub returns : goal.returns
returns c = found_answer c.in_ok-walk.ensures c.if-image-ne-FLASH_CELLS.false _ c.if-output-size.false _ c.put_kept.ensures
