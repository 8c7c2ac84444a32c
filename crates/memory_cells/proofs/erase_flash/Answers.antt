-- `memory_cells::erase_flash` meets its contract: the part lent to the leaf is the block, which lies within the memory where the tests let
-- the command be done; a refusal's number is not 0.
-- Assumes nothing.
use mathlib.Core.Path.{◌∙◌, sym}
use native.Mathlib.Nat.{add-sub_cancel_left}
use native.Mathlib.Omega.{arith}
use Rattle.std.proofs.lemmas.Result.{err_from_is_err_and}
use Rattle.base.specs.Parts.{part}
use Rattle.base.proofs.Patched.{part_length, put_back}
use Rattle.memory_address.proofs.Laws.{refused}
use Rattle.memory_leaves.specs.Leaves.{erased_cells}
use Rattle.memory_leaves.proofs.Lengths.{length_erased}
use Rattle.memory_cells.specs.Memory.{flash_erased}
use Rattle.memory_cells.proofs.Laws.{flash_fits, erased_refused}
use Rattle.memory_cells.proofs.erase_flash.Goals as goal

pub returns-in_err-tested : goal.returns-in_err-tested
returns-in_err-tested c =
    let args = c.args in
    let p = err_from_is_err_and c.from_residual.result c.from_residual.ensures.1 in
    let number = rw c.legal_flash.ensures at c.in_err-tested.ensures in
    rw (p.1, p.2) (number, sym (erased_refused args.flash.now args.at.0 (λ z. refused _ (number ∙ z))))

pub slice_bounds-erase_cells-end : goal.slice_bounds-erase_cells-end
slice_bounds-erase_cells-end c =
    let fits = flash_fits c.args.flash.now c.args.at.0 0x03 (sym (rw c.legal_flash.ensures at c.in_ok-tested.ensures)) in omega arith

pub returns : goal.returns
unfolding flash_erased
returns c =
    let m = c.args.flash.now in
    let a = c.args.at.0 in
    let done = rw c.legal_flash.ensures at c.in_ok-tested.ensures in
    let after = erased_cells (part m a 64) in (
      done,
      rw (← done)
          (put_back m a 64 _ after (c.erase_cells.ensures ∙ simp add-sub_cancel_left)
          (length_erased (part m a 64) ∙ part_length m a 64 (flash_fits m a 0x03 (sym done)))),
    )
