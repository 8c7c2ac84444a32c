-- `memory_cells::write_eeprom` meets its contract: the part lent to the leaf is the row, which lies within the memory where the tests let
-- the command be done; a refusal's number is not 0.
-- Assumes nothing.
use mathlib.Core.Path.{◌∙◌, sym}
use native.Mathlib.Nat.{add-sub_cancel_left}
use native.Mathlib.Omega.{arith}
use Rattle.std.proofs.lemmas.Result.{err_from_is_err_and}
use Rattle.base.specs.Parts.{part}
use Rattle.base.proofs.Patched.{part_length, put_back}
use Rattle.memory_address.specs.Places.{eeprom_cell}
use Rattle.memory_address.proofs.Laws.{refused, eeprom_within}
use Rattle.memory_leaves.specs.Leaves.{eeprom_cells_after}
use Rattle.memory_leaves.proofs.Lengths.{length_eeprom_after}
use Rattle.memory_cells.specs.Memory.{eeprom_written}
use Rattle.memory_cells.proofs.Laws.{eeprom_done, eeprom_fits, eeprom_written_refused}
use Rattle.memory_cells.proofs.write_eeprom.Goals as goal

pub returns-in_err-tested : goal.returns-in_err-tested
returns-in_err-tested c =
    let args = c.args in
    let p = err_from_is_err_and c.from_residual.result c.from_residual.ensures.1 in
    let number = rw c.legal_eeprom.ensures at c.in_err-tested.ensures in
    rw (p.1, p.2) (number, sym (eeprom_written_refused args.eeprom.now args.place.0 args.new (λ z. refused _ (number ∙ z))))

pub slice_bounds-write_eeprom_cells-end : goal.slice_bounds-write_eeprom_cells-end
slice_bounds-write_eeprom_cells-end c =
    let fits = eeprom_fits c.args.eeprom.now c.args.place.0 0x02 (sym (rw c.legal_eeprom.ensures at c.in_ok-tested.ensures)) in omega arith

pub overflow_sub-a : goal.overflow_sub-a
overflow_sub-a c = let z = eeprom_done c.args.eeprom.now c.args.place.0 0x02 (sym (rw c.legal_eeprom.ensures at c.in_ok-tested.ensures)) in let w = eeprom_within c.args.place.0 0x02 z.1 in omega arith

pub returns : goal.returns
unfolding eeprom_written
returns c =
    let m = c.args.eeprom.now in
    let p = c.args.place.0 in
    let a = eeprom_cell p in
    let done = rw c.legal_eeprom.ensures at c.in_ok-tested.ensures in
    let after = eeprom_cells_after (part m a 8) c.args.new in (
      done,
      rw (← done)
          (put_back m a 8 _ after (c.write_eeprom_cells.ensures ∙ simp add-sub_cancel_left)
          (length_eeprom_after (part m a 8) c.args.new ∙ part_length m a 8 (eeprom_fits m p 0x02 (sym done)))),
    )
