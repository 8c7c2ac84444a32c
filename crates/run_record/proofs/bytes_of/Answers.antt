-- `run_record::bytes_of` meets its contract: each part stands where the record has it.
-- Assumes nothing.
use mathlib.Core.Path.{◌∙◌}
use mathlib.Core.List.{append-nil}
use Rattle.run_record.proofs.Laws.{written_out}
use Rattle.run_record.proofs.bytes_of.Goals as goal

pub returns : goal.returns
returns c =
    let last = append-nil c.copy_from_slice.new.self ∙ c.copy_from_slice.ensures.after ∙ c.last_of-last.ensures in
    written_out c.args.n _ _ _ _ c.pin_byte.ensures c.copy_from_slice-3.ensures.after c.copy_from_slice-2.ensures.after last
